use Rattle.std.proofs.Common.{◌<◌}
use Rattle.std.proofs.lemmas.Nat.{one_shl, and_mask}
use Rattle.image.proofs.layout.bits.Goals as goal

pub returns : goal.returns
returns c = let narrow : c.args.width < 32 = c.requires.narrow in rw (one_shl c.args.width 32 narrow) (and_mask _ c.args.width)
