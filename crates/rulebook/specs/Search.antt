-- The first place of a list at which a test holds.
use Rattle.std.specs.Prelude.{◌≡◌, ℕ, suc, ◌<◌, Bool, true, false, cond, List, [], ◌∷◌, length, Some, None, Option, MatchOption, nat_eq, slice_index_or, refl}
use Rattle.std.specs.Option.{option_map}

-- the place, counted from 0, of the first element at which the test holds
abbrev pub first_of : {X : Type 0} → (X → Bool) → List X → Option ℕ
first_of p [] = None
first_of p (x ∷ xs) = cond (p x) (Some 0) (option_map suc (first_of p xs))

-- it fails at each place below k
abbrev pub FailsBelow : {X : Type 0} → (X → Bool) → List X → ℕ → Type 0
FailsBelow {X} p xs k = (i : ℕ) (d : X) → i < k → p (slice_index_or xs i d) ≡ false

-- the answer is the lowest place at which the test holds, or none where it holds at no place
abbrev pub First : {X : Type 0} → (X → Bool) → List X → Option ℕ → Type 0
First {X} p xs r =
    MatchOption r (FailsBelow p xs (length xs)) (λ k. (k < length xs) × ((d : X) → p (slice_index_or xs k d) ≡ true) × FailsBelow p xs k)

-- two elements agree with 7: the first place counts
example_first : first_of (λ n. nat_eq n 7) (4 ∷ 7 ∷ 7 ∷ []) ≡ Some 1
example_first = refl
