use Rattle.std.proofs.Common.{arith}
use Rattle.image.proofs.Written.{reads_back}
use Rattle.image.proofs.format.most_rules.Goals as goal

pub returns-clause-reads : goal.returns-clause-reads
returns-clause-reads c = reads_back _ (omega arith)
