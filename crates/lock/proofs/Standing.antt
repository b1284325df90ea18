-- Laws of places: how they are gathered from a book, and what they pick out of it again.
use Rattle.std.proofs.Common.{◌≡◌, ℕ, zero, suc, ◌+◌, ◌-◌, ◌<◌, ◌≤◌, Bool, true, false, cond, List, [], ◌∷◌, ◌++◌, length, get_or, take, drop, Some, None, filter, Option, sym, refl, ap, ◌∙◌, append_assoc, append-nil, add-one, arith}
use Rattle.std.specs.Option.{option_to_list}
use Rattle.std.specs.List.{slice_get}
use Rattle.std.proofs.lemmas.List.{length-append, take_more}
use Rattle.std.proofs.lemmas.Option.{slice_get_cases, slice_get_past, gets}
use Rattle.std.proofs.lemmas.Grind.{common_steps}
use Rattle.std.proofs.lemmas.Bool.{cond-true, le-leb}
use Rattle.rulebook.specs.Book.{Rule, head_in}
use Rattle.lock.specs.Locked.{free}
use Rattle.lock.specs.Places.{places_from, places_of, rises_from, picks, stands_at, free_in}
use Rattle.lock.specs.Formed.{rises_parts}

-- the places of one rule more: its own too, if its key is free
pub places_more : (keys : List ℕ) (rules : List Rule) (i : ℕ) → places_of (free keys) (take (i + 1) rules) ≡ cond (free_in keys (head_in (slice_get rules i))) (places_of (free keys) (take i rules) ++ i ∷ []) (places_of (free keys) (take i rules))
places_more keys rules i = rw add-one (more 0 i rules i (omega arith))
  where
    more : (k j : ℕ) (rules : List Rule) (i : ℕ) → j ≡ k + i → places_from (free keys) k (take (suc i) rules) ≡ cond (free_in keys (head_in (slice_get rules i))) (places_from (free keys) k (take i rules) ++ j ∷ []) (places_from (free keys) k (take i rules))
    more k j [] zero e = refl
    more k j [] (suc i) e = refl
    more k j (r ∷ rest) zero e = let here : j ≡ k = omega arith in rw here refl
    more k j (r ∷ rest) (suc i) e =
        let before : List ℕ = places_from (free keys) (k + 1) (take i rest) in
        let P : Bool → Bool → Type 0 = λ s t. cond s (k ∷ cond t (before ++ j ∷ []) before) (cond t (before ++ j ∷ []) before) ≡ cond t (cond s (k ∷ before) before ++ j ∷ []) (cond s (k ∷ before) before) in
        rw (more (k + 1) j rest i (omega arith))
        (elim (free keys r) as (λ s. P s (free_in keys (head_in (slice_get rest i)))) [
          | true ↦ elim (free_in keys (head_in (slice_get rest i))) as (P true) [ true ↦ refl | false ↦ refl ]
          | false ↦ refl
        ])

rises_cons : (i p : ℕ) (ps : List ℕ) → i ≤ p → rises_from (p + 1) ps ≡ true → rises_from i (p ∷ ps) ≡ true
rises_cons i p ps h e = cond-true _ (rises_from (p + 1) ps) false (le-leb i p h) ∙ e

-- a list that rises from i rises from any lower place
rises_lower : (i j : ℕ) (ps : List ℕ) → j ≤ i → rises_from i ps ≡ true → rises_from j ps ≡ true
rises_lower i j [] h e = refl
rises_lower i j (p ∷ ps) h e = let parts = rises_parts i p ps e in rises_cons j p ps (omega (arith, parts.0)) parts.1

-- no place of a rising list is lower than its beginning
rises_bound : (i : ℕ) (ps : List ℕ) (k d : ℕ) → rises_from i ps ≡ true → k < length ps → i ≤ get_or ps k d
rises_bound i [] k d e h = absurd (omega arith)
rises_bound i (p ∷ ps) zero d e h = (rises_parts i p ps e).0
rises_bound i (p ∷ ps) (suc k) d e h =
    let parts = rises_parts i p ps e in
    omega (arith, parts.0, rises_bound (p + 1) ps k d parts.1 (omega arith))

module _ {X : Type 0} where
  -- gathered places rise
  pub places_rise : (p : X → Bool) (i : ℕ) (xs : List X) → rises_from i (places_from p i xs) ≡ true
  places_rise p i [] = refl
  places_rise p i (x ∷ xs) =
      let later : List ℕ = places_from p (i + 1) xs in
      elim (p x) as (λ t. rises_from i (cond t (i ∷ later) later) ≡ true) [
        | true ↦ rises_cons i i later (omega arith) (places_rise p (i + 1) xs)
        | false ↦ rises_lower (i + 1) i later (omega arith) (places_rise p (i + 1) xs)
      ]

  -- gathered places and one after all that were looked at rise
  pub places_rise_on : (p : X → Bool) (xs : List X) (i : ℕ) → rises_from 0 (places_of p (take i xs) ++ i ∷ []) ≡ true
  places_rise_on p xs i = on 0 i xs i (omega arith)
    where
      on : (k j : ℕ) (xs : List X) (i : ℕ) → j ≡ k + i → rises_from k (places_from p k (take i xs) ++ j ∷ []) ≡ true
      on k j [] zero e = rises_cons k j [] (omega arith) refl
      on k j [] (suc i) e = rises_cons k j [] (omega arith) refl
      on k j (x ∷ xs) zero e = rises_cons k j [] (omega arith) refl
      on k j (x ∷ xs) (suc i) e =
          let later : List ℕ = places_from p (k + 1) (take i xs) in
          let rest : rises_from (k + 1) (later ++ j ∷ []) ≡ true = on (k + 1) j xs i (omega arith) in
          elim (p x) as (λ t. rises_from k (cond t (k ∷ later) later ++ j ∷ []) ≡ true) [
            | true ↦ rises_cons k k (later ++ j ∷ []) (omega arith) rest
            | false ↦ rises_lower (k + 1) k (later ++ j ∷ []) (omega arith) rest
          ]

  -- what stands first in what is left from i on stands at i
  nth_drop : (xs : List X) (i : ℕ) (y : X) (ys : List X) → drop i xs ≡ y ∷ ys → (slice_get xs i ≡ Some y) × (drop (suc i) xs ≡ ys)
  nth_drop [] zero y ys e = (cc, cc)
  nth_drop [] (suc i) y ys e = (cc, cc)
  nth_drop (x ∷ xs) zero y ys e = (cc, cc)
  nth_drop (x ∷ xs) (suc i) y ys e = nth_drop xs i y ys e

  -- gathered places pick what passed the test
  picks_from : (p : X → Bool) (all : List X) (i : ℕ) (xs : List X) → drop i all ≡ xs → picks (places_from p i xs) all ≡ filter p xs
  picks_from p all i [] e = refl
  picks_from p all i (x ∷ xs) e =
      let here = nth_drop all i x xs e in
      let later : List ℕ = places_from p (i + 1) xs in
      let rest : picks later all ≡ filter p xs = picks_from p all (i + 1) xs (rw (add-one i) here.1) in
      elim (p x) as (λ t. picks (cond t (i ∷ later) later) all ≡ cond t (x ∷ filter p xs) (filter p xs)) [
        | true ↦ ap (λ (o : Option X). option_to_list o ++ picks later all) here.0 ∙ ap (λ (ys : List X). x ∷ ys) rest
        | false ↦ rest
      ]

  pub picks_places : (p : X → Bool) (xs : List X) → picks (places_of p xs) xs ≡ filter p xs
  picks_places p xs = picks_from p xs 0 xs refl

  -- beyond the end of a list nothing is picked
  picks_past : (i : ℕ) (ps : List ℕ) (xs : List X) → rises_from i ps ≡ true → length xs ≤ i → picks ps xs ≡ []
  picks_past i [] xs e h = refl
  picks_past i (p ∷ ps) xs e h =
      let parts = rises_parts i p ps e in
      ap (λ (o : Option X). option_to_list o ++ picks ps xs) (slice_get_past xs p (omega (arith, parts.0))) ∙ picks_past (p + 1) ps xs parts.1 (omega (arith, parts.0))

  -- nor does anything stand there
  stands_past : (i : ℕ) (ps : List ℕ) (xs : List X) (k : ℕ) → rises_from i ps ≡ true → length xs ≤ i → stands_at (slice_get ps k) xs ≡ None
  stands_past i [] xs k e h = refl
  stands_past i (p ∷ ps) xs zero e h = slice_get_past xs p (omega (arith, (rises_parts i p ps e).0))
  stands_past i (p ∷ ps) xs (suc k) e h =
      let parts = rises_parts i p ps e in
      stands_past (p + 1) ps xs k parts.1 (omega (arith, parts.0))

  nth_none : (xs : List X) (i : ℕ) → slice_get xs i ≡ None → length xs ≤ i
  nth_none xs i e = grind (arith, slice_get_cases)

  -- the k-th that is picked stands at the k-th place
  pub nth_picks : (i : ℕ) (ps : List ℕ) (xs : List X) (k : ℕ) → rises_from i ps ≡ true → slice_get (picks ps xs) k ≡ stands_at (slice_get ps k) xs
  nth_picks i [] xs k e = refl
  nth_picks i (p ∷ ps) xs k e =
      let parts = rises_parts i p ps e in
      go (slice_get xs p) refl k (λ j. nth_picks (p + 1) ps xs j parts.1)
    where
      go : (o : Option X) → slice_get xs p ≡ o → (k : ℕ) → ((j : ℕ) → slice_get (picks ps xs) j ≡ stands_at (slice_get ps j) xs) → slice_get (picks (p ∷ ps) xs) k ≡ stands_at (slice_get (p ∷ ps) k) xs
      go (Some x) at zero rest = ap (λ (o : Option X). slice_get (option_to_list o ++ picks ps xs) 0) at ∙ sym at
      go (Some x) at (suc k) rest = ap (λ (o : Option X). slice_get (option_to_list o ++ picks ps xs) (suc k)) at ∙ rest k
      go None at k rest =
          let beyond : length xs ≤ p = nth_none xs p at in
          let parts = rises_parts i p ps e in
          let whole : rises_from p (p ∷ ps) ≡ true = rises_cons p p ps (omega arith) parts.1 in
          ap (λ (ys : List X). slice_get ys k) (picks_past p (p ∷ ps) xs whole beyond) ∙ sym (stands_past p (p ∷ ps) xs k whole beyond)

  -- the same where the k-th place is known
  pub found_picks : (ps : List ℕ) (xs : List X) (k : ℕ) (o : Option ℕ) → rises_from 0 ps ≡ true → o ≡ slice_get ps k → slice_get (picks ps xs) k ≡ stands_at o xs
  found_picks ps xs k o rises here = nth_picks 0 ps xs k rises ∙ sym (ap (λ (q : Option ℕ). stands_at q xs) here)

  one_there : (xs : List X) (p : ℕ) → p < length xs → length (option_to_list (slice_get xs p)) ≡ 1
  one_there xs p h = grind (arith, slice_get_cases)

  picks-append : (ps qs : List ℕ) (xs : List X) → picks (ps ++ qs) xs ≡ picks ps xs ++ picks qs xs
  picks-append [] qs xs = refl
  picks-append (p ∷ ps) qs xs = ap (λ (ys : List X). option_to_list (slice_get xs p) ++ ys) (picks-append ps qs xs) ∙ sym (append_assoc (option_to_list (slice_get xs p)) (picks ps xs) (picks qs xs))

  -- a last place beyond the list picks nothing
  pub count_less : (ps : List ℕ) (xs : List X) (n count d : ℕ) → 0 < count → count ≤ length ps → n ≡ length xs → n ≤ get_or ps (count - 1) d → length (picks (take (count - 1) ps) xs) ≡ length (picks (take count ps) xs)
  count_less ps xs n count d some within e beyond =
      let before : List ℕ = take (count - 1) ps in
      let last : ℕ = get_or ps (count - 1) d in
      let same : count - 1 + 1 ≡ count = omega arith in
      let more : take count ps ≡ before ++ last ∷ [] = ap (λ (k : ℕ). take k ps) (sym same) ∙ take_more ps (count - 1) d (omega arith) in
      let none : picks (last ∷ []) xs ≡ [] = ap (λ (o : Option X). option_to_list o ++ []) (slice_get_past xs last (omega arith)) in
      sym (ap (λ (qs : List ℕ). length (picks qs xs)) more ∙ ap length (picks-append before (last ∷ []) xs ∙ ap (λ (ys : List X). picks before xs ++ ys) none ∙ append-nil (picks before xs)))

  -- where the last place is within the list, each place picks one
  all_there : (i : ℕ) (ps : List ℕ) (xs : List X) (k d : ℕ) → rises_from i ps ≡ true → k < length ps → get_or ps k d < length xs → length (picks (take (suc k) ps) xs) ≡ suc k
  all_there i [] xs k d e h l = absurd (omega arith)
  all_there i (p ∷ ps) xs zero d e h l = length-append (option_to_list (slice_get xs p)) [] ∙ omega (arith, one_there xs p l)
  all_there i (p ∷ ps) xs (suc k) d e h l =
      let parts = rises_parts i p ps e in
      let lower : p < length xs = omega (arith, rises_bound (p + 1) ps k d parts.1 (omega arith)) in
      length-append (option_to_list (slice_get xs p)) (picks (take (suc k) ps) xs) ∙ omega (arith, one_there xs p lower, all_there (p + 1) ps xs k d parts.1 (omega arith) l)

  pub count_all : (ps : List ℕ) (xs : List X) (n count d : ℕ) → rises_from 0 ps ≡ true → 0 < count → count ≤ length ps → n ≡ length xs → get_or ps (count - 1) d < n → length (picks (take count ps) xs) ≡ count
  count_all ps xs n count d e some within is here =
      let same : suc (count - 1) ≡ count = omega arith in
      ap (λ (k : ℕ). length (picks (take k ps) xs)) (sym same) ∙ all_there 0 ps xs (count - 1) d e (omega arith) (omega arith) ∙ same

-- what `find` rests on
pub ruleset found = (found_picks, common_steps, gets)
