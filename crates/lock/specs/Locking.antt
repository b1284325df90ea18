-- What it is to lock a key in a book that has a lock somewhere in its pile.
use Rattle.std.specs.Prelude.{◌≡◌, ℕ, true, false, List, is_ok, Result}
use Rattle.rulebook.specs.Book.{Book}
use Rattle.lock.specs.Locked.{lock_answer, keys_after}
use Rattle.lock.specs.declared.refusal.LockRefusal.{LockRefusal}

-- A key was locked in a book, or refused: `keys_in` are the keys that are locked in a book, `book_under` is the book that it means with given keys locked, and `book_of` the book that it means.
-- The answer, and the keys that are locked then, are those that the keys locked before say. An accepted call leaves the book that is meant under those keys. What the book would be under others stays. A refusal changes nothing at all.
pub record Locks {S : Type 0} (keys_in : S → List ℕ) (book_under : S → List ℕ → Book) (book_of : S → Book) (before : S) (key : ℕ) (r : Result ℕ LockRefusal) (after : S) : Type 0 where
  pub value : r ≡ lock_answer (keys_in before) key
  pub keys : keys_in after ≡ keys_after (keys_in before) key
  pub under : (given : List ℕ) → book_under after given ≡ book_under before given
  pub meaning : is_ok r ≡ true → book_of after ≡ book_under before (keys_in after)
  pub same : is_ok r ≡ false → after ≡ before
