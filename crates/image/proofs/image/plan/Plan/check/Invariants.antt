-- Nothing is wrong with the rules before k.
use Rattle.image.specs.Plan.{rule_fault}
use Rattle.image.proofs.Faults.{NoneBelow}
use Rattle.image.proofs.image.plan.Plan.check.Given as goal

abbrev pub invariant-loop-k : goal.invariant-loop-k
invariant-loop-k l = NoneBelow (rule_fault l.self.words.now) l.k
