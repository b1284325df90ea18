-- Nothing is wrong with the answers before j.
use Rattle.image.specs.Plan.{answer_fault}
use Rattle.image.proofs.Faults.{NoneBelow}
use Rattle.image.proofs.image.plan.RuleWords.check.Given as goal

abbrev pub invariant-loop-j : goal.invariant-loop-j
invariant-loop-j l = NoneBelow (answer_fault l.self.plan.words.now l.self.k) l.j
