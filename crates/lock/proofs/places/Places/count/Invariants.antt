-- The places from `count` on are beyond the rules of the book.
use Rattle.std.proofs.Common.{◌≡◌, ◌≤◌, length, take, vec_items, vec_len}
use Rattle.lock.specs.Places.{picks}
use Rattle.lock.proofs.places.Places.count.Given as goal

abbrev pub invariant-loop-count : goal.invariant-loop-count
invariant-loop-count g l =
    (length (picks (take l.count (vec_items l.self.list)) (g.B.RuleBook.meaning l.fn.book).rules) ≡ length (picks (vec_items l.self.list) (g.B.RuleBook.meaning l.fn.book).rules))
    × (l.count ≤ vec_len l.self.list)

abbrev pub decreases-loop-count : goal.decreases-loop-count
decreases-loop-count g l = l.count
