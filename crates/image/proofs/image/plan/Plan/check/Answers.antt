use Rattle.std.proofs.Common.{arith}
use Rattle.std.proofs.lemmas.Result.{err_from_is_err_and}
use Rattle.image.specs.Plan.{rule_fault}
use Rattle.image.proofs.Faults.{found_in}
use Rattle.image.proofs.image.plan.Plan.check.Goals as goal

pub returns-in_err-check : goal.returns-in_err-check
returns-in_err-check c =
    let p = err_from_is_err_and c.from_residual.result c.from_residual.ensures.1 in
    rw (p.1, p.2)
    (grind (arith, found_in (rule_fault c.args.self.now.words.now) c.rules-k-end.result c.loop-k.k c.loop-k-test.true c.loop-k.invariant c.in_err-check.ensures))
