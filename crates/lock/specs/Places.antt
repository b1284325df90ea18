-- Where the rules stand that a layer lists: places in the book below, kept so that no question walks that book.
use Rattle.std.specs.Prelude.{◌≡◌, ℕ, ◌+◌, Bool, true, false, cond, not, List, [], ◌∷◌, Some, None, Option, nat_le, nat_lt, refl}
use Rattle.std.specs.Option.{option_to_list}
use Rattle.std.specs.List.{flat_map, slice_get}
use Rattle.rulebook.specs.declared.told.RuleHead.{RuleHead}
use Rattle.lock.specs.Locked.{among}

-- the places of what passes the test, in a list whose first element stands at place i
abbrev pub places_from : {X : Type 0} → (X → Bool) → ℕ → List X → List ℕ
places_from p i [] = []
places_from p i (x ∷ xs) = cond (p x) (i ∷ places_from p (i + 1) xs) (places_from p (i + 1) xs)

-- the places of what passes the test, counted from 0
abbrev pub places_of : {X : Type 0} → (X → Bool) → List X → List ℕ
places_of p xs = places_from p 0 xs

-- each place is at least i, and greater than the one before it
abbrev pub rises_from : ℕ → List ℕ → Bool
rises_from i [] = true
rises_from i (p ∷ ps) = cond (nat_le i p) (rises_from (p + 1) ps) false

-- what stands at the places of a list; a place beyond its end has nothing
abbrev pub picks : {X : Type 0} → List ℕ → List X → List X
picks ps xs = flat_map (λ p. option_to_list (slice_get xs p)) ps

-- what stands at a place of a list, where there is a place
abbrev pub stands_at : {X : Type 0} → Option ℕ → List X → Option X
stands_at None xs = None
stands_at (Some p) xs = slice_get xs p

-- a rule that is told is there, and its key is not in the list
abbrev pub free_in : List ℕ → Option RuleHead → Bool
free_in keys None = false
free_in keys (Some h) = not (among keys h.key)

example_places : places_of (λ n. nat_lt n 5) (3 ∷ 8 ∷ 4 ∷ []) ≡ 0 ∷ 2 ∷ []
example_places = refl

example_picks : picks {X = ℕ} (0 ∷ 2 ∷ 7 ∷ []) (3 ∷ 8 ∷ 4 ∷ []) ≡ 3 ∷ 4 ∷ []
example_picks = refl
