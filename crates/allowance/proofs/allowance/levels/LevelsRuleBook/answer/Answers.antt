use Rattle.std.proofs.Common.{arith}
use Rattle.std.proofs.lemmas.Option.{slice_get-map}
use Rattle.std.proofs.lemmas.Grind.{common_steps}
use Rattle.allowance.proofs.allowance.levels.LevelsRuleBook.answer.Goals as goal

pub returns : goal.returns
returns g c = grind (arith, common_steps, slice_get-map)
