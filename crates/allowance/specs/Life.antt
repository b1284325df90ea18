-- The life of an allowance: it is made, and then set, and keys are locked below it, in any order and any number of times, refusals included.
use Rattle.std.specs.Prelude.{◌≡◌, ℕ, true, false, cond, is_ok, Some, None, Result}
use Rattle.rulebook.specs.Book.{Book}
use Rattle.lock.specs.Narrower.{Narrower}
use Rattle.lock.specs.declared.refusal.LockRefusal.{LockRefusal}
use Rattle.allowance.specs.Allowance.{allowance_book, setting_of}
use Rattle.allowance.specs.Allowed.{allowed, under, allowance, fits, set_answer}
use Rattle.allowance.specs.declared.allowance.Allowance.{Allowance}
use Rattle.allowance.specs.declared.refusal.SettingRefusal.{SettingRefusal}
use Rattle.allowance.specs.declared.setting.Setting.{Setting}

-- m says what the book below means
module _ {B : Type 0} (m : B → Book) where
  -- An allowance was made over this book: it is not set, and lists what the book lists.
  pub record Made (book : B) (s : Allowance B) : Type 0 where
    pub below : s.below ≡ book
    pub setting : s.setting ≡ None
    pub meaning : allowance_book m s ≡ m book

  -- An allowance was set to a key and a number of times, or refused. The book below stays. An accepted setting replaces an earlier one, and the key is then counted over the book below. A refusal changes nothing at all.
  pub record Sets (before : Allowance B) (key A : ℕ) (r : Result ℕ SettingRefusal) (after : Allowance B) : Type 0 where
    pub value : r ≡ set_answer (m before.below) key A
    pub below : after.below ≡ before.below
    pub setting : after.setting ≡ cond (is_ok r) (Some (setting_of key A)) before.setting
    pub meaning : is_ok r ≡ true → allowance_book m after ≡ allowed key A (m before.below)
    pub same : is_ok r ≡ false → after ≡ before

  -- A key was locked below an allowance, or refused: the setting stays, and what is listed follows the book below. A refusal changes nothing at all.
  pub record Follows (before : Allowance B) (r : Result ℕ LockRefusal) (after : Allowance B) : Type 0 where
    pub setting : after.setting ≡ before.setting
    pub meaning : is_ok r ≡ true → allowance_book m after ≡ allowance before.setting (m after.below)
    pub same : is_ok r ≡ false → after ≡ before

  -- The allowances that come of any calls, where R holds of the book below before and after each call below: each step is what the contract of that call says.
  pub data LivedOver (R : Book → Book → Type 0) : Allowance B → Type 0 where
    made : (book : B) (s : Allowance B) → Made book s → LivedOver R s
    sets : (s : Allowance B) (key A : ℕ) (r : Result ℕ SettingRefusal) (t : Allowance B) → LivedOver R s → Sets s key A r t → LivedOver R t
    follows : (s : Allowance B) (r : Result ℕ LockRefusal) (t : Allowance B) → LivedOver R s → Follows s r t → R (m s.below) (m t.below) → LivedOver R t

  -- Those below which a book changes by locks alone, which leave out rules and change nothing else.
  abbrev pub Lived : Allowance B → Type 0
  Lived s = LivedOver Narrower s

  -- What an allowance keeps lists the book below under its setting, and while the setting fits that is the book below with the key counted down.
  pub record Lists (s : Allowance B) : Type 0 where
    pub places : allowance_book m s ≡ allowance s.setting (m s.below)
    pub counted : (x : Setting) → s.setting ≡ Some x → fits x.most (m s.below) ≡ true → allowance_book m s ≡ allowed x.key x.most (m s.below)

-- So it is with every allowance, whatever was called and whatever became of the book below.
abbrev pub AlwaysLists : {B : Type 0} → (B → Book) → Type 0
AlwaysLists {B} m = (s : Allowance B) → LivedOver m (λ before after. Unit) s → Lists m s

-- Whatever was called, an allowance means the book below with its key counted down as it is set, or the book below where it is not set: a setting that fitted goes on to fit.
abbrev pub AlwaysAllows : {B : Type 0} → (B → Book) → Type 0
AlwaysAllows {B} m = (s : Allowance B) → Lived m s → allowance_book m s ≡ under s.setting (m s.below)
