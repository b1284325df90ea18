-- A lock by its parts: the keys that are locked in it, the book below, and the book that it means.
use Rattle.std.specs.Prelude.{ℕ, List, vec_items}
use Rattle.rulebook.specs.Book.{Book}
use Rattle.lock.specs.Formed.{picked}
use Rattle.lock.specs.Locked.{locked}
use Rattle.lock.specs.declared.lock.Lock.{Lock}

-- the keys that are locked, in the order in which they were locked
abbrev pub keys_of : {B : Type 0} → Lock B → List ℕ
keys_of s = s.keys.list.items

-- the book that a lock means, where m says what the book below means: the rules below at the places that it keeps
abbrev pub lock_book : {B : Type 0} → (B → Book) → Lock B → Book
lock_book m s = picked (vec_items s.places.list) (m s.below)

-- the book that it means with these keys locked
abbrev pub lock_under : {B : Type 0} → (B → Book) → Lock B → List ℕ → Book
lock_under m s keys = locked keys (m s.below)
