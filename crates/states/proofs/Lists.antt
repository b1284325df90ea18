-- Laws of what is in a list, and of lists without repeats.
use Rattle.std.proofs.Common.{◌≡◌, ℕ, ◌<◌, zero, suc, List, [], ◌∷◌, ◌++◌, length, get_or, Less, nat_cmp, take, drop, refl, subst, inl, inr, ◌⊎◌, ⊎_elim, take-append-drop, arith}
use Rattle.std.specs.List.{insert, AllByRecursion}
use Rattle.std.specs.List.Sorted.{IsStrictlyIncreasing, IsStrictlySortedBy}
use Rattle.std.proofs.lemmas.Cmp.{nat_cmp_total, tied_itself}
use Rattle.std.proofs.lemmas.Map.Keys.{sorted_head, sorted_tail, sorted_from_strictly_increasing}
use Rattle.states.specs.Lists.{In, NoRepeats}

module _ {X : Type 0} where
  -- what is in one of two lists is in the two joined
  pub in_append_left : (x : X) (xs ys : List X) → In x xs → In x (xs ++ ys)
  in_append_left x [] ys h = absurd h
  in_append_left x (y ∷ xs) ys (inl e) = inl e
  in_append_left x (y ∷ xs) ys (inr h) = inr (in_append_left x xs ys h)

  pub in_append_right : (x : X) (xs ys : List X) → In x ys → In x (xs ++ ys)
  in_append_right x [] ys h = h
  in_append_right x (y ∷ xs) ys h = inr (in_append_right x xs ys h)

  -- and nothing else is
  pub in_append_cases : (x : X) (xs ys : List X) → In x (xs ++ ys) → In x xs ⊎ In x ys
  in_append_cases x [] ys h = inr h
  in_append_cases x (y ∷ xs) ys (inl e) = inl (inl e)
  in_append_cases x (y ∷ xs) ys (inr h) = ⊎_elim (λ l. inl (inr l)) (λ r. inr r) (in_append_cases x xs ys h)

  -- an insert puts in its element
  pub in_insert_new : (xs : List X) (i : ℕ) (y : X) → In y (insert xs i y)
  in_insert_new xs i y = in_append_right y (take i xs) (y ∷ drop i xs) (inl refl)

  -- keeps what there was
  pub in_insert_old : (x : X) (xs : List X) (i : ℕ) (y : X) → In x xs → In x (insert xs i y)
  in_insert_old x xs i y h =
      ⊎_elim
      (λ l. in_append_left x (take i xs) (y ∷ drop i xs) l)
      (λ r. in_append_right x (take i xs) (y ∷ drop i xs) (inr r))
      (in_append_cases x (take i xs) (drop i xs) (rw take-append-drop h))

  -- and puts in nothing else
  pub in_insert_cases : (x : X) (xs : List X) (i : ℕ) (y : X) → In x (insert xs i y) → In x xs ⊎ (y ≡ x)
  in_insert_cases x xs i y h =
      ⊎_elim
      (λ l. inl (rw (← take-append-drop i xs) (in_append_left x (take i xs) (drop i xs) l)))
      (λ r. ⊎_elim (λ e. inr e) (λ o. inl (rw (← take-append-drop i xs) (in_append_right x (take i xs) (drop i xs) o))) r)
      (in_append_cases x (take i xs) (y ∷ drop i xs) h)

  -- what stands at a place is in the list
  pub in_at_place : (xs : List X) (k : ℕ) (d : X) → k < length xs → In (get_or xs k d) xs
  in_at_place [] k d l = absurd (omega arith)
  in_at_place (x ∷ xs) zero d l = inl refl
  in_at_place (x ∷ xs) (suc k) d l = inr (in_at_place xs k d (omega arith))

  -- what holds of each element
  pub all_from_in : (P : X → Type 0) (xs : List X) → ((x : X) → In x xs → P x) → AllByRecursion P xs
  all_from_in P [] h = tt
  all_from_in P (x ∷ xs) h = (h x (inl refl), all_from_in P xs (λ y l. h y (inr l)))

  pub all_in : (P : X → Type 0) (x : X) (xs : List X) → AllByRecursion P xs → In x xs → P x
  all_in P x [] a h = absurd h
  all_in P x (y ∷ xs) a (inl e) = subst P e a.0
  all_in P x (y ∷ xs) a (inr h) = all_in P x xs a.1 h

-- numbers in rising order do not repeat
no_repeats_from_sorted : (xs : List ℕ) → IsStrictlySortedBy nat_cmp xs → NoRepeats xs
no_repeats_from_sorted [] h = tt
no_repeats_from_sorted (x ∷ xs) h = (
  λ l. let above : nat_cmp x x ≡ Less = all_in (λ y. nat_cmp x y ≡ Less) x xs (sorted_head nat_cmp x xs h) l in
      let itself = tied_itself nat_cmp_total x in cc,
  no_repeats_from_sorted xs (sorted_tail nat_cmp x xs h),
)

pub no_repeats_from_increasing : (xs : List ℕ) → IsStrictlyIncreasing xs → NoRepeats xs
no_repeats_from_increasing xs h = no_repeats_from_sorted xs (sorted_from_strictly_increasing xs h)
