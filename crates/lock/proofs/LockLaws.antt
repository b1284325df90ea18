-- The laws of a lock.
use Rattle.std.proofs.Common.{◌≡◌, ℕ, suc, Bool, true, false, cond, not, eqb, List, [], ◌∷◌, ◌++◌, is_some, Some, None, filter, Option, sym, refl, ap, ◌∙◌, subst}
use Rattle.std.specs.Option.{option_map}
use Rattle.rulebook.specs.Book.{Rule}
use Rattle.rulebook.specs.Search.{first_of}
use Rattle.lock.specs.Formed.{locked_formed}
use Rattle.lock.specs.Laws.{LocksKeepFormed, NothingLocked, LocksPile, LocksInEitherOrder, LocksNarrow, LocksPassOn}
use Rattle.lock.specs.Locked.{among, free}
use Rattle.lock.specs.Narrower.{LeavesOut}
use Rattle.lock.proofs.LeftOut.{kept_leaves_out, left_out_kept}
use Rattle.lock.proofs.Listing.{book_of, locked_none}

is_some-option_map : {A B : Type 0} (f : A → B) (o : Option A) → is_some (option_map f o) ≡ is_some o
is_some-option_map f None = refl
is_some-option_map f (Some x) = refl

-- a test holds somewhere in two lists where it holds somewhere in one of them
some_append : {X : Type 0} (p : X → Bool) (xs ys : List X) → is_some (first_of p (xs ++ ys)) ≡ cond (is_some (first_of p xs)) true (is_some (first_of p ys))
some_append p [] ys = refl
some_append p (x ∷ xs) ys =
    let rest = some_append p xs ys in
    elim (p x) as (λ t. is_some (cond t (Some 0) (option_map suc (first_of p (xs ++ ys)))) ≡ cond (is_some (cond t (Some 0) (option_map suc (first_of p xs)))) true (is_some (first_of p ys))) [
      | true ↦ refl
      | false ↦ simp is_some-option_map rest
    ]

-- a rule is free of two lists of keys where it is free of both
free-append : (keys more : List ℕ) (r : Rule) → free (keys ++ more) r ≡ cond (free keys r) (free more r) false
free-append keys more r = ap not (some_append (λ k. eqb k r.key) keys more) ∙ go (among keys r.key) (among more r.key)
  where
    go : (s t : Bool) → not (cond s true t) ≡ cond (not s) (not t) false
    go true t = refl
    go false t = refl

module _ {X : Type 0} where
  -- two filters, one after the other, and one that passes what both pass
  kept_both : (p q r : X → Bool) → ((x : X) → r x ≡ cond (p x) (q x) false) → (xs : List X) → filter q (filter p xs) ≡ filter r xs
  kept_both p q r h [] = refl
  kept_both p q r h (x ∷ xs) =
      let rest : filter q (filter p xs) ≡ filter r xs = kept_both p q r h xs in
      rw (h x)
      (elim (p x) as (λ t. filter q (cond t (x ∷ filter p xs) (filter p xs)) ≡ cond (cond t (q x) false) (x ∷ filter r xs) (filter r xs)) [
        | true ↦ ap (λ (ys : List X). cond (q x) (x ∷ ys) ys) rest
        | false ↦ rest
      ])

  kept_swap : (p q : X → Bool) (xs : List X) → filter q (filter p xs) ≡ filter p (filter q xs)
  kept_swap p q xs = kept_both p q (λ x. cond (p x) (q x) false) (λ x. refl) xs ∙ sym (kept_both q p (λ x. cond (p x) (q x) false) (λ x. swap (p x) (q x)) xs)
    where
      swap : (s t : Bool) → cond s t false ≡ cond t s false
      swap true true = refl
      swap true false = refl
      swap false true = refl
      swap false false = refl

kept_pile : (keys more : List ℕ) (rules : List Rule) → filter (free more) (filter (free keys) rules) ≡ filter (free (keys ++ more)) rules
kept_pile keys more rules = kept_both (free keys) (free more) (free (keys ++ more)) (free-append keys more) rules

pub locks_pile : LocksPile
locks_pile keys more b = ap (book_of b.modes b.screens) (kept_pile keys more b.rules)

pub locks_in_either_order : LocksInEitherOrder
locks_in_either_order keys j k b =
    ap (book_of b.modes b.screens)
    (sym (kept_pile (keys ++ j ∷ []) (k ∷ []) b.rules)
    ∙ ap (filter (free (k ∷ []))) (sym (kept_pile keys (j ∷ []) b.rules))
    ∙ kept_swap (free (j ∷ [])) (free (k ∷ [])) (filter (free keys) b.rules)
    ∙ ap (filter (free (j ∷ []))) (kept_pile keys (k ∷ []) b.rules)
    ∙ kept_pile (keys ++ k ∷ []) (j ∷ []) b.rules)

pub locks_narrow : LocksNarrow
locks_narrow keys more b =
    let P : List Rule → Type 0 = λ rules. LeavesOut rules (filter (free keys) b.rules) in
    record { modes = refl; screens = refl; rules = subst P (kept_pile keys more b.rules) (kept_leaves_out (free more) (filter (free keys) b.rules)) }

pub locks_pass_on : LocksPassOn
locks_pass_on keys before after n = record { modes = n.modes; screens = n.screens; rules = left_out_kept (free keys) n.rules }

pub locks_keep_formed : LocksKeepFormed
locks_keep_formed = locked_formed

pub nothing_locked : NothingLocked
nothing_locked b = locked_none b
