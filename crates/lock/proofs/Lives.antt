-- Whatever was called, a lock means the book below without the rules of its locked keys.
use Rattle.std.proofs.Common.{◌≡◌, ℕ, List, [], ◌∷◌, ◌++◌, is_ok, Result, sym, ap, ◌∙◌, subst, subst₂, ⊎_elim, append-nil}
use Rattle.std.proofs.lemmas.Bool.{cases_Bool, cond_both}
use Rattle.rulebook.specs.Book.{Book}
use Rattle.lock.specs.Life.{Made, Follows, AlwaysLists, OnlyLeavesOut}
use Rattle.lock.specs.Life.Lived.{made, locks, follows}
use Rattle.lock.specs.Lock.{keys_of, lock_book, lock_under}
use Rattle.lock.specs.Locked.{locked, lock_answer, keys_after}
use Rattle.lock.specs.Locking.{Locks}
use Rattle.lock.specs.Narrower.{Narrower}
use Rattle.lock.specs.declared.lock.Lock.{Lock}
use Rattle.lock.specs.declared.refusal.LockRefusal.{LockRefusal}
use Rattle.lock.proofs.Listing.{locked_none}
use Rattle.lock.proofs.LockLaws.{locks_narrow}

module _ {B : Type 0} (m : B → Book) where
  abbrev Lists : Lock B → Type 0
  Lists s = lock_book m s ≡ locked (keys_of s) (m s.below)

  lists_made : (book : B) (s : Lock B) → Made m book s → Lists s
  lists_made book s h =
      h.meaning ∙ ap (λ (ks : List ℕ). locked ks (m book)) (sym h.keys) ∙ ap (λ (b : B). locked (keys_of s) (m b)) (sym h.below)

  -- what is below a lock means the same after a key was locked in it
  pub same_below : (s : Lock B) (key : ℕ) (r : Result ℕ LockRefusal) (t : Lock B) → Locks keys_of (lock_under m) (lock_book m) s key r t → m s.below ≡ m t.below
  same_below s key r t h = sym (locked_none (m s.below)) ∙ sym (h.under []) ∙ locked_none (m t.below)

  lists_locked : (s : Lock B) (key : ℕ) (r : Result ℕ LockRefusal) (t : Lock B) → Lists s → Locks keys_of (lock_under m) (lock_book m) s key r t → Lists t
  lists_locked s key r t before h =
      ⊎_elim
      (λ ok. h.meaning ok ∙ ap (locked (keys_of t)) (same_below s key r t h))
      (λ refused. subst Lists (sym (h.same refused)) before)
      (cases_Bool (is_ok r))

  lists_followed : (s : Lock B) (r : Result ℕ LockRefusal) (t : Lock B) → Lists s → Follows m s r t → Lists t
  lists_followed s r t before h =
      ⊎_elim
      (λ ok. h.meaning ok ∙ ap (λ (ks : List ℕ). locked ks (m t.below)) (sym h.keys))
      (λ refused. subst Lists (sym (h.same refused)) before)
      (cases_Bool (is_ok r))

  pub always_lists : AlwaysLists m
  always_lists u (made book s h) = lists_made book s h
  always_lists u (locks s key r t l h) = lists_locked s key r t (always_lists s l) h
  always_lists u (follows s r t l h) = lists_followed s r t (always_lists s l) h

  pub only_leaves_out : OnlyLeavesOut m
  only_leaves_out s key r t l h =
      let b : Book = m s.below in
      let keys : List ℕ = keys_of s in
      let before : lock_book m s ≡ locked keys b = always_lists s l in
      let after : lock_book m t ≡ locked (keys_after keys key) b =
      always_lists t (locks s key r t l h) ∙ ap (locked (keys_of t)) (sym (same_below s key r t h)) ∙ ap (λ (ks : List ℕ). locked ks b) h.keys in
      let P : List ℕ → Type 0 = λ ks. Narrower (locked keys b) (locked ks b) in
      let more : Narrower (locked keys b) (locked (keys_after keys key) b) =
      cond_both (is_ok (lock_answer keys key)) (keys ++ key ∷ []) keys P (λ ok. locks_narrow keys (key ∷ []) b) (λ refused. subst P (append-nil keys) (locks_narrow keys [] b)) in
      subst₂ Narrower (sym before) (sym after) more
