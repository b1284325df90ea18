-- The loops that look for the first fault.
use Rattle.std.proofs.Common.{◌≡◌, ℕ, zero, suc, ◌+◌, ◌-◌, ◌<◌, ◌≤◌, Some, None, Err, Option, ap, ◌∙◌, add-zero, zero-add, arith}
use Rattle.image.specs.Plan.{or_else, first_some, unless}

module _ {R : Type 0} where
  -- a step that failed found its refusal
  some_where_err : (o : Option R) {x : R} {v : Unit {0}} → Err x ≡ unless o v → o ≡ Some x
  some_where_err None e = cc
  some_where_err (Some y) e = cc

module _ {R : Type 0} (f : ℕ → Option R) where
  -- nothing is found before i
  abbrev pub NoneBelow : ℕ → Type 0
  NoneBelow i = (k : ℕ) → k < i → f k ≡ None

  -- where k of them are nothing, the first is that of the rest
  rest : (i k n : ℕ) → ((j : ℕ) → j < k → f (i + j) ≡ None) → first_some f i (k + n) ≡ first_some f (i + k) n
  unfolding first_some
  rest i zero n h = rw (zero-add, add-zero)
  rest i (suc k) n h =
      let here : f i ≡ None = rw add-zero at (h 0 (omega arith)) in
      let later : first_some f (i + 1) (k + n) ≡ first_some f (i + 1 + k) n =
      rest (i + 1) k n (λ j l. let place : i + 1 + j ≡ i + suc j = omega arith in ap f place ∙ h (suc j) (omega arith)) in
      let place : i + 1 + k ≡ i + suc k = omega arith in
      let more : suc k + n ≡ suc (k + n) = omega arith in
      ap (first_some f i) more ∙ ap (λ (o : Option R). or_else o (first_some f (i + 1) (k + n))) here ∙ later ∙ ap (λ (a : ℕ). first_some f a n) place

  pub none_in : (n i : ℕ) → n ≤ i → NoneBelow i → first_some f 0 n ≡ None
  unfolding first_some
  none_in n i h none =
      let all : n + 0 ≡ n = add-zero n in
      rw (← all) (rest 0 n 0 (λ k l. rw zero-add (none k (omega arith))))

  pub found_in : (n i : ℕ) {x : R} {v : Unit {0}} → i < n → NoneBelow i → Err x ≡ unless (f i) v → first_some f 0 n ≡ Some x
  unfolding first_some
  found_in n i {x} h none e =
      let all : n ≡ i + suc (n - (i + 1)) = omega arith in
      let here : f (0 + i) ≡ Some x = rw zero-add (some_where_err (f i) e) in
      let later = rest 0 i (suc (n - (i + 1))) (λ k l. rw zero-add (none k l)) in
      ap (first_some f 0) all ∙ later ∙ ap (λ (o : Option R). or_else o (first_some f (0 + i + 1) (n - (i + 1)))) here
