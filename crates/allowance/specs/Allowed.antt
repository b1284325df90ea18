-- The allowance: a book in which one key can be pressed so many times and no more.
use Rattle.std.specs.Prelude.{◌≡◌, ℕ, ◌+◌, ◌*◌, Bool, false, cond, List, [], ◌∷◌, ◌++◌, map, length, Some, None, Ok, Err, Option, Result, nat_le, nat_lt, refl}
use Rattle.std.specs.List.{range_with_len, flat_map}
use Rattle.rulebook.specs.Book.{Book, Rule}
use Rattle.rulebook.specs.declared.told.Screens.TheVariants.{Gone}
use Rattle.lock.specs.Locked.{locked}
use Rattle.allowance.specs.Moved.{rule_with}
use Rattle.lock.specs.Places.{picks}
use Rattle.allowance.specs.declared.refusal.SettingRefusal.{SettingRefusal}
use Rattle.allowance.specs.declared.refusal.SettingRefusal.TheVariants.{NoSuchKey, DoesNotFit}
use Rattle.allowance.specs.declared.setting.Setting.{Setting}

-- `first` with none left, and then all the rules with 1 left, with 2, and so on up to A
abbrev pub leveled : ℕ → ℕ → ℕ → List Rule → List Rule → List Rule
leveled counted A P first rules = map (rule_with counted P 0) first ++ flat_map (λ l. map (rule_with counted P l) rules) (range_with_len 1 A)

-- The book in which the key can be pressed A times: mode m with l left is number m + P × l. Where none is left, the key is locked.
abbrev pub allowed : ℕ → ℕ → Book → Book
allowed key A b =
    record { modes = b.modes * (A + 1); screens = b.screens; rules = leveled key A b.modes (locked (key ∷ []) b).rules b.rules }

-- The same with the rules that are listed where none is left given by their places.
abbrev pub allowed_at : List ℕ → ℕ → ℕ → Book → Book
allowed_at places key A b =
    record { modes = b.modes * (A + 1); screens = b.screens; rules = leveled key A b.modes (picks places b.rules) b.rules }

-- Whether A times fit a book: at most 60 modes, and at most 65,535 rules even if no rule has the key.
abbrev pub fits : ℕ → Book → Bool
fits A b = cond (nat_le (b.modes * (A + 1)) 60) (nat_le ((A + 1) * length b.rules) 65535) false

-- What setting a key and a number of times answers: how many modes there are then, or the first of the refusals that applies.
abbrev pub set_answer : Book → ℕ → ℕ → Result ℕ SettingRefusal
set_answer b key A = cond (nat_lt 63 key) (Err NoSuchKey) (cond (fits A b) (Ok (b.modes * (A + 1))) (Err DoesNotFit))

-- the setting that counts over a book: none where none was made, or where it does not fit
abbrev pub in_force : Option Setting → Book → Option Setting
in_force None b = None
in_force (Some s) b = cond (fits s.most b) (Some s) None

-- a book under a setting: the book itself where there is none
abbrev pub under : Option Setting → Book → Book
under None b = b
under (Some s) b = allowed s.key s.most b

-- The book that an allowance means over a book.
abbrev pub allowance : Option Setting → Book → Book
allowance s b = under (in_force s b) b

-- two rules, of keys 3 and 4, and key 3 allowed once: rule 3 is left out where none is left, and takes one where one is
abbrev two_keys : Book
two_keys =
    record {
      modes = 2;
      screens = 1;
      rules =
          record { key = 3; mode = 0; screen = 0; answers = record { mode = 1; screens = Gone } ∷ [] }
          ∷ record { key = 4; mode = 1; screen = 0; answers = record { mode = 1; screens = Gone } ∷ [] }
          ∷ [];
    }

example_allowed :
    allowed 3 1 two_keys
    ≡ record {
      modes = 4;
      screens = 1;
      rules =
          record { key = 4; mode = 1; screen = 0; answers = record { mode = 1; screens = Gone } ∷ [] }
          ∷ record { key = 3; mode = 2; screen = 0; answers = record { mode = 1; screens = Gone } ∷ [] }
          ∷ record { key = 4; mode = 3; screen = 0; answers = record { mode = 3; screens = Gone } ∷ [] }
          ∷ [];
    }
example_allowed = refl

-- allowed no times at all, the key is locked
example_never : (allowed 3 0 two_keys).rules ≡ (locked (3 ∷ []) two_keys).rules
example_never = refl

-- two modes with each of 0 to 29 left make 60: 29 times fit and 30 do not
example_fits : set_answer two_keys 3 29 ≡ Ok 60
example_fits = refl

example_does_not_fit : set_answer two_keys 3 30 ≡ Err DoesNotFit
example_does_not_fit = refl
