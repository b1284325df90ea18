use Rattle.std.proofs.Common.{◌∷◌, ◌++◌, [], ℕ, List, ap, ◌∙◌}
use Rattle.rulebook.specs.Book.{Rule}
use Rattle.lock.specs.Locked.{free}
use Rattle.lock.specs.Places.{rises_from}
use Rattle.lock.proofs.Standing.{places_rise_on}
use Rattle.lock.proofs.places.Places.refill.Goals as goal

pub invariant_of-self-then-is_free-clause-rises : goal.invariant_of-self-then-is_free-clause-rises
invariant_of-self-then-is_free-clause-rises g c =
    let keys : List ℕ = c.args.keys.now in
    let rules : List Rule = (g.B.RuleBook.meaning c.args.book.now).rules in
    let place : ℕ = c.loop-place.place in
    ap (rises_from 0) (c.push_reserved.ensures.items ∙ ap (λ (ps : List ℕ). ps ++ place ∷ []) c.loop-place.invariant.0) ∙ places_rise_on (free keys) rules place
