-- The list has the places among the rules before `place`, and there is room for one place a rule.
use Rattle.std.proofs.Common.{◌≡◌, ◌≤◌, take, vec_items, vec_len}
use Rattle.lock.specs.Locked.{free}
use Rattle.lock.specs.Places.{places_of}
use Rattle.lock.proofs.places.Places.refill.Given as goal

abbrev pub invariant-loop-place : goal.invariant-loop-place
invariant-loop-place g l =
    (vec_items l.self.list ≡ places_of (free l.keys) (take l.place (g.B.RuleBook.meaning l.book).rules))
    × (vec_len l.self.list ≤ l.place)
