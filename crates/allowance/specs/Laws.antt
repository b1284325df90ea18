-- The laws of an allowance.
use Rattle.std.specs.Prelude.{◌≡◌, ℕ, ◌+◌, ◌-◌, ◌*◌, ◌≤◌, Bool, true, length, Some, None, filter, ◌==◌}
use Rattle.rulebook.specs.Book.{Book, Rule, WellFormed}
use Rattle.lock.specs.Narrower.{Narrower}
use Rattle.allowance.specs.Allowance.{setting_of}
use Rattle.allowance.specs.Allowed.{allowed, allowance, fits}

-- An allowance over a well-formed book, with no more modes than the limit and no more than 65,535 rules, means a well-formed one.
abbrev pub AllowancesKeepFormed : ℕ → Type 0
AllowancesKeepFormed limit =
    (key A : ℕ) (b : Book) → WellFormed b → b.modes * (A + 1) ≤ limit → (A + 1) * length b.rules ≤ 65535 → WellFormed (allowed key A b)

-- Before any setting, the book below is listed.
abbrev pub UnsetListsBelow : Type 0
UnsetListsBelow = (b : Book) → allowance None b ≡ b

-- the rule has the key
abbrev pub has_key : ℕ → Rule → Bool
has_key key r = key == r.key

-- There are A + 1 times the rules below, less those with the counted key where none is left.
abbrev pub RuleCount : Type 0
RuleCount = (key A : ℕ) (b : Book) → length (allowed key A b).rules ≡ (A + 1) * length b.rules - length (filter (has_key key) b.rules)

-- An allowance over a narrower book means a narrower one.
abbrev pub AllowancesPassOn : Type 0
AllowancesPassOn = (key A : ℕ) (before after : Book) → Narrower before after → Narrower (allowed key A before) (allowed key A after)

-- A setting that fits a book goes on to fit when the book becomes narrower, so the allowance goes on to count the key.
abbrev pub FittingLasts : Type 0
FittingLasts =
    (key A : ℕ) (before after : Book) → fits A before ≡ true → Narrower before after → (fits A after ≡ true) × (allowance (Some (setting_of key A)) after ≡ allowed key A after)
