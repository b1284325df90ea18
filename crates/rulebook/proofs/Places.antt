-- The relation `First` has one answer, the one that `first_of` gives.
use Rattle.std.proofs.Common.{◌≡◌, ℕ, zero, suc, Bool, false, List, [], ◌∷◌, length, Some, None, Option, sym, refl, ap, ◌∙◌, arith}
use Rattle.std.specs.Option.{option_map}
use Rattle.std.proofs.lemmas.Bool.{cond-true, cond-false}
use Rattle.rulebook.specs.Search.{first_of, First, FailsBelow}

module _ {X : Type 0} (p : X → Bool) where
  -- the tail of a list whose test fails below suc k
  fails_tail : (x : X) (xs : List X) (k : ℕ) → FailsBelow p (x ∷ xs) (suc k) → FailsBelow p xs k
  fails_tail x xs k f i d h = f (suc i) d (omega arith)

  -- after a first element at which the test fails
  later : (x : X) (xs : List X) (k : Option ℕ) → p x ≡ false → k ≡ first_of p xs → option_map suc k ≡ first_of p (x ∷ xs)
  later x xs k fails e = ap (option_map suc) e ∙ sym (cond-false (p x) (Some 0) (option_map suc (first_of p xs)) fails)

  pub first_value : (xs : List X) (r : Option ℕ) → First p xs r → r ≡ first_of p xs
  first_value [] None f = refl
  first_value [] (Some k) f = absurd (omega (arith, f.0))
  first_value (x ∷ xs) None f = later x xs None (f 0 x (omega arith)) (first_value xs None (fails_tail x xs (length xs) f))
  first_value (x ∷ xs) (Some zero) f = sym (cond-true (p x) (Some 0) (option_map suc (first_of p xs)) (f.1 x))
  first_value (x ∷ xs) (Some (suc k)) f =
      later x xs (Some k) (f.2 0 x (omega arith))
      (first_value xs (Some k) (omega (arith, f.0), f.1, fails_tail x xs k f.2))
