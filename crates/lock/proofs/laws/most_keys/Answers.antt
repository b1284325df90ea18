use Rattle.lock.proofs.LockLaws.{locks_keep_formed, nothing_locked, locks_pile, locks_in_either_order, locks_narrow, locks_pass_on}
use Rattle.lock.proofs.laws.most_keys.Goals as goal

pub returns-clause-formed : goal.returns-clause-formed
returns-clause-formed c = locks_keep_formed

pub returns-clause-none : goal.returns-clause-none
returns-clause-none c = nothing_locked

pub returns-clause-piles : goal.returns-clause-piles
returns-clause-piles c = locks_pile

pub returns-clause-order : goal.returns-clause-order
returns-clause-order c = locks_in_either_order

pub returns-clause-narrows : goal.returns-clause-narrows
returns-clause-narrows c = locks_narrow

pub returns-clause-passes : goal.returns-clause-passes
returns-clause-passes c = locks_pass_on
