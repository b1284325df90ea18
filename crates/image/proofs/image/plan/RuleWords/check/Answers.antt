use Rattle.std.proofs.Common.{arith, below_more}
use Rattle.std.proofs.lemmas.Result.{err_from_is_err_and}
use Rattle.image.specs.Plan.{answer_fault}
use Rattle.image.proofs.Faults.{found_in}
use Rattle.image.proofs.image.plan.RuleWords.check.Goals as goal

pub loop-j-preserved : goal.loop-j-preserved
loop-j-preserved c = below_more _ _ c.loop-j.invariant (grind arith)

pub returns-in_err-check_answer : goal.returns-in_err-check_answer
returns-in_err-check_answer c =
    let rule = c.args.self.now in
    let p = err_from_is_err_and c.from_residual.result c.from_residual.ensures.1 in
    rw (p.1, p.2)
    (grind (arith, found_in (answer_fault rule.plan.words.now rule.k) 8 c.loop-j.j c.loop-j-test.true c.loop-j.invariant c.in_err-check_answer.ensures))
