use Rattle.std.proofs.Common.{arith}
use Rattle.allowance.proofs.AllowanceLaws.{allowances_keep_formed, rule_count, allowances_pass_on, fitting_lasts}
use Rattle.allowance.proofs.laws.most_modes.Goals as goal

pub returns-clause-formed : goal.returns-clause-formed
returns-clause-formed c = allowances_keep_formed _ (omega arith)

pub returns-clause-count : goal.returns-clause-count
returns-clause-count c = rule_count

pub returns-clause-passes : goal.returns-clause-passes
returns-clause-passes c = allowances_pass_on

pub returns-clause-lasts : goal.returns-clause-lasts
returns-clause-lasts c = fitting_lasts
