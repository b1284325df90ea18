-- The key lock: a book without the rules of the locked keys, and what locking a key answers.
use Rattle.std.specs.Prelude.{◌≡◌, ℕ, ◌+◌, Bool, cond, not, List, [], ◌∷◌, ◌++◌, length, is_some, is_ok, Ok, Err, filter, Result, nat_eq, nat_lt, refl}
use Rattle.rulebook.specs.Book.{Book, Rule}
use Rattle.rulebook.specs.Search.{first_of}
use Rattle.rulebook.specs.declared.told.Screens.TheVariants.{Gone}
use Rattle.lock.specs.declared.refusal.LockRefusal.{LockRefusal}
use Rattle.lock.specs.declared.refusal.LockRefusal.TheVariants.{NoSuchKey, AlreadyLocked, Full}

-- the key has a place in the list
abbrev pub among : List ℕ → ℕ → Bool
among keys key = is_some (first_of (λ k. nat_eq k key) keys)

-- the rule's key is not in the list
abbrev pub free : List ℕ → Rule → Bool
free keys r = not (among keys r.key)

-- The book without the rules whose key is locked. The others keep their order and are numbered anew from 0.
abbrev pub locked : List ℕ → Book → Book
locked keys b = record { modes = b.modes; screens = b.screens; rules = filter (free keys) b.rules }

-- What locking a key answers, with these keys locked: how many are locked then, or the first of the refusals that applies.
abbrev pub lock_answer : List ℕ → ℕ → Result ℕ LockRefusal
lock_answer keys key =
    cond (nat_lt 63 key) (Err NoSuchKey) (cond (among keys key) (Err AlreadyLocked) (cond (nat_lt 15 (length keys)) (Err Full) (Ok (length keys + 1))))

-- The keys that are locked after it: one more, or the same where it was refused.
abbrev pub keys_after : List ℕ → ℕ → List ℕ
keys_after keys key = cond (is_ok (lock_answer keys key)) (keys ++ key ∷ []) keys

-- of three rules, of keys 3, 4 and 3, the second is listed where key 3 is locked
abbrev rule_of : ℕ → Rule
rule_of key = record { key = key; mode = 0; screen = 0; answers = record { mode = 0; screens = Gone } ∷ [] }

example_lists :
    locked (3 ∷ []) (record { modes = 1; screens = 1; rules = rule_of 3 ∷ rule_of 4 ∷ rule_of 3 ∷ [] })
    ≡ record { modes = 1; screens = 1; rules = rule_of 4 ∷ [] }
example_lists = refl

example_locked : keys_after (3 ∷ []) 5 ≡ 3 ∷ 5 ∷ []
example_locked = refl

example_twice : lock_answer (3 ∷ 5 ∷ []) 3 ≡ Err AlreadyLocked
example_twice = refl

-- a key that does not exist is told first, even where nothing more could be locked
example_no_key : lock_answer (0 ∷ 1 ∷ 2 ∷ 3 ∷ 4 ∷ 5 ∷ 6 ∷ 7 ∷ 8 ∷ 9 ∷ 10 ∷ 11 ∷ 12 ∷ 13 ∷ 14 ∷ 15 ∷ []) 64 ≡ Err NoSuchKey
example_no_key = refl
