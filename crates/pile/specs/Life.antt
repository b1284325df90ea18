-- The life of the program's pile: it is made over a plan, and then keys are locked in its lock and its allowance is set, in any order and any number of times, refusals included.
use Rattle.std.specs.Prelude.{◌≡◌, ℕ, Result}
use Rattle.image.specs.Held.{book_in}
use Rattle.image.specs.declared.image.Image.{Image}
use Rattle.lock.specs.Life.{Made as LockMade}
use Rattle.lock.specs.Lock.{keys_of, lock_book, lock_under}
use Rattle.lock.specs.Locked.{locked}
use Rattle.lock.specs.Locking.{Locks}
use Rattle.lock.specs.declared.refusal.LockRefusal.{LockRefusal}
use Rattle.allowance.specs.Allowed.{under}
use Rattle.allowance.specs.Life.{Made as AllowanceMade, Sets, Follows}
use Rattle.allowance.specs.declared.refusal.SettingRefusal.{SettingRefusal}
use Rattle.pile.specs.Pile.{Pile, pile_book}

-- The pile was made over a plan: no key is locked, and the allowance is not set.
pub record PileMade (plan : Image) (p : Pile) : Type 0 where
  pub low : LockMade book_in plan p.below
  pub high : AllowanceMade (lock_book book_in) p.below p

-- The piles that come of any calls over one plan: each step is what the contracts of the calls say.
pub data PileLived (plan : Image) : Pile → Type 0 where
  made : (p : Pile) → PileMade plan p → PileLived plan p
  sets : (p : Pile) (key A : ℕ) (r : Result ℕ SettingRefusal) (q : Pile) → PileLived plan p → Sets (lock_book book_in) p key A r q → PileLived plan q
  locks :
      (p : Pile) (key : ℕ) (r : Result ℕ LockRefusal) (q : Pile) → PileLived plan p → Locks keys_of (lock_under book_in) (lock_book book_in) p.below key r q.below
      → Follows (lock_book book_in) p r q → PileLived plan q

-- Whatever was called, the pile means the plan without the rules of the locked keys, with the key counted down as the allowance is set, if it is.
abbrev pub PileStands : Type 0
PileStands = (plan : Image) (p : Pile) → PileLived plan p → pile_book p ≡ under p.setting (locked (keys_of p.below) (book_in plan))
