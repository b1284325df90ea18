-- What becomes of a list of rising numbers when one is put in at its place.
use Rattle.std.proofs.Common.{◌≡◌, ℕ, ◌+◌, ◌-◌, ◌<◌, ◌≤◌, ◌⊎◌, List, length, get_or, Ok, Err, subst, inl, inr, ⊎_elim, arith, sym}
use Rattle.std.specs.List.{insert}
use Rattle.std.specs.List.Sorted.{IsStrictlyIncreasing, IsBinarySearchResult}
use Rattle.std.specs.Ordering.{nat_cmp}
use Rattle.std.proofs.lemmas.List.Edits.{length-insert, get_or-insert_below, get_or-insert_at, get_or-insert_above}
use Rattle.std.proofs.lemmas.List.Sorted.{searched}
use Rattle.std.proofs.lemmas.Map.Keys.{sorted_from_strictly_increasing, non_decreasing_from_sorted}
use Rattle.states.specs.Lists.{In}
use Rattle.states.proofs.Lists.{in_at_place, in_insert_new, in_insert_old, in_insert_cases, all_from_in, no_repeats_from_increasing}
use Rattle.unions.specs.Working.{Adds, Crowded}

-- The place keeps what is below the number from what is above it.
pub record IsGap (xs : List ℕ) (x place : ℕ) : Type 0 where
  pub within : place ≤ length xs
  pub below : (k : ℕ) → k < place → get_or xs k 0 < x
  pub above : (k : ℕ) → place ≤ k → k < length xs → x < get_or xs k 0

-- no number of a rising list is above a later one
rises : (xs : List ℕ) → IsStrictlyIncreasing xs → (i j : ℕ) → i ≤ j → j < length xs → get_or xs i 0 ≤ get_or xs j 0
rises xs up i j le lt = non_decreasing_from_sorted xs (sorted_from_strictly_increasing xs up) i j 0 le lt

-- a search that does not find ends at a gap
pub gap_from_search : {searched_in xs : List ℕ} (x place : ℕ) → searched_in ≡ xs → IsStrictlyIncreasing xs → IsBinarySearchResult (λ y. nat_cmp y x) searched_in (Err place) → IsGap xs x place
gap_from_search {searched_in} {xs} x place same up h =
    let found = searched xs x (Err place) (subst (λ l. IsBinarySearchResult (λ y. nat_cmp y x) l (Err place)) same h) (rises xs up) in
    record { within = found.0; below = found.1; above = found.2 }

-- and one that finds, at the number
pub in_from_search : {searched_in xs : List ℕ} (x place : ℕ) → searched_in ≡ xs → IsStrictlyIncreasing xs → IsBinarySearchResult (λ y. nat_cmp y x) searched_in (Ok place) → In x xs
in_from_search {searched_in} {xs} x place same up h =
    let found = searched xs x (Ok place) (subst (λ l. IsBinarySearchResult (λ y. nat_cmp y x) l (Ok place)) same h) (rises xs up) in
    subst (λ y. In y xs) found.1 (in_at_place xs place 0 found.0)

-- a number that is there is added already
pub adds_same : (xs : List ℕ) (x : ℕ) → In x xs → Adds xs xs (λ X. X ≡ x)
adds_same xs x there =
    record {
      keeps = λ X h. h;
      has = λ X e. subst (λ Y. In Y xs) (sym e) there;
      only = λ X h. inl h;
    }

-- putting in a number adds it
pub adds_insert : (xs : List ℕ) (place x : ℕ) → Adds xs (insert xs place x) (λ X. X ≡ x)
adds_insert xs place x =
    record {
      keeps = λ X h. in_insert_old X xs place x h;
      has = λ X e. subst (λ Y. In Y (insert xs place x)) (sym e) (in_insert_new xs place x);
      only = λ X h. ⊎_elim (λ l. inl l) (λ e. inr (sym e)) (in_insert_cases X xs place x h);
    }

-- put in at its gap, the list still rises
pub increasing_insert : (xs : List ℕ) (x place : ℕ) → IsStrictlyIncreasing xs → IsGap xs x place → IsStrictlyIncreasing (insert xs place x)
increasing_insert xs x place up gap k lt =
    let new : List ℕ = insert xs place x in
    let long = length-insert xs place x gap.within in
    let before : (k : ℕ) → k < place → get_or new k 0 ≡ get_or xs k 0 = λ k l. get_or-insert_below xs place x 0 k l gap.within in
    let here : (k : ℕ) → k ≡ place → get_or new k 0 ≡ x = λ k e. rw e (get_or-insert_at xs place x 0 gap.within) in
    let after : (k : ℕ) → place < k → get_or new k 0 ≡ get_or xs (k - 1) 0 = λ k l. subst (λ n. get_or new n 0 ≡ get_or xs (k - 1) 0) {x = k - 1 + 1} (omega arith) (get_or-insert_above xs place x 0 (k - 1) (omega arith) gap.within) in
    grind (arith, before k, here k, after k, before (k + 1), here (k + 1), after (k + 1), up k, up (k - 1), gap.below k, gap.above k)

-- a full list and a number that has a gap in it are more than 65,536
pub crowded_from_full : (xs : List ℕ) (x place : ℕ) → IsStrictlyIncreasing xs → IsGap xs x place → 65536 ≤ length xs → Crowded (λ X. In X xs ⊎ (X ≡ x))
crowded_from_full xs x place up gap full =
    let new : List ℕ = insert xs place x in
    record {
      sets = new;
      distinct = no_repeats_from_increasing new (increasing_insert xs x place up gap);
      each = all_from_in (λ X. In X xs ⊎ (X ≡ x)) new (adds_insert xs place x).only;
      many = omega (arith, length-insert xs place x gap.within);
    }
