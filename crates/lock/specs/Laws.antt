-- The laws of a lock.
use Rattle.std.specs.Prelude.{◌≡◌, ℕ, List, [], ◌∷◌, ◌++◌}
use Rattle.rulebook.specs.Book.{Book, WellFormed}
use Rattle.lock.specs.Locked.{locked}
use Rattle.lock.specs.Narrower.{Narrower}

-- A lock over a well-formed book means a well-formed one.
abbrev pub LocksKeepFormed : Type 0
LocksKeepFormed = (keys : List ℕ) (b : Book) → WellFormed b → WellFormed (locked keys b)

-- Where no key is locked, the book below is listed.
abbrev pub NothingLocked : Type 0
NothingLocked = (b : Book) → locked [] b ≡ b

-- A lock over a lock lists what one lock with the keys of both would list.
abbrev pub LocksPile : Type 0
LocksPile = (keys more : List ℕ) (b : Book) → locked more (locked keys b) ≡ locked (keys ++ more) b

-- Locking a key and then another lists the same rules as locking them in the other order.
abbrev pub LocksInEitherOrder : Type 0
LocksInEitherOrder = (keys : List ℕ) (j k : ℕ) (b : Book) → locked ((keys ++ j ∷ []) ++ k ∷ []) b ≡ locked ((keys ++ k ∷ []) ++ j ∷ []) b

-- More locked keys leave out rules and change nothing else.
abbrev pub LocksNarrow : Type 0
LocksNarrow = (keys more : List ℕ) (b : Book) → Narrower (locked keys b) (locked (keys ++ more) b)

-- A lock over a narrower book means a narrower one.
abbrev pub LocksPassOn : Type 0
LocksPassOn = (keys : List ℕ) (before after : Book) → Narrower before after → Narrower (locked keys before) (locked keys after)
