-- The life of a lock: it is made, and then keys are locked in it and below it, in any order and any number of times, refusals included.
use Rattle.std.specs.Prelude.{◌≡◌, ℕ, true, false, [], is_ok, Result}
use Rattle.rulebook.specs.Book.{Book}
use Rattle.lock.specs.Lock.{keys_of, lock_book, lock_under}
use Rattle.lock.specs.Locked.{locked}
use Rattle.lock.specs.Locking.{Locks}
use Rattle.lock.specs.Narrower.{Narrower}
use Rattle.lock.specs.declared.lock.Lock.{Lock}
use Rattle.lock.specs.declared.refusal.LockRefusal.{LockRefusal}

-- m says what the book below means
module _ {B : Type 0} (m : B → Book) where
  -- A lock was made over this book: no key is locked, and it lists what the book lists.
  pub record Made (book : B) (s : Lock B) : Type 0 where
    pub below : s.below ≡ book
    pub keys : keys_of s ≡ []
    pub meaning : lock_book m s ≡ locked [] (m book)
    pub whole : lock_book m s ≡ m book

  -- A key was locked below a lock, or refused: the lock's own keys stay, and it lists anew what is below it. A refusal changes nothing at all.
  pub record Follows (before : Lock B) (r : Result ℕ LockRefusal) (after : Lock B) : Type 0 where
    pub keys : keys_of after ≡ keys_of before
    pub meaning : is_ok r ≡ true → lock_book m after ≡ locked (keys_of before) (m after.below)
    pub same : is_ok r ≡ false → after ≡ before

  -- The locks that come of any calls: each step is what the contract of that call says.
  pub data Lived : Lock B → Type 0 where
    made : (book : B) (s : Lock B) → Made book s → Lived s
    locks : (s : Lock B) (key : ℕ) (r : Result ℕ LockRefusal) (t : Lock B) → Lived s → Locks keys_of (lock_under m) (lock_book m) s key r t → Lived t
    follows : (s : Lock B) (r : Result ℕ LockRefusal) (t : Lock B) → Lived s → Follows s r t → Lived t

-- Whatever was called, a lock means the book below without the rules of its locked keys.
abbrev pub AlwaysLists : {B : Type 0} → (B → Book) → Type 0
AlwaysLists {B} m = (s : Lock B) → Lived m s → lock_book m s ≡ locked (keys_of s) (m s.below)

-- Whatever was called before, locking a key leaves out rules and changes nothing else.
abbrev pub OnlyLeavesOut : {B : Type 0} → (B → Book) → Type 0
OnlyLeavesOut {B} m =
    (s : Lock B) (key : ℕ) (r : Result ℕ LockRefusal) (t : Lock B) → Lived m s → Locks keys_of (lock_under m) (lock_book m) s key r t → Narrower (lock_book m s) (lock_book m t)
