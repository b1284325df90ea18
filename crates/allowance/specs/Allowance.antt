-- An allowance by its parts: what it is set to, and the book that it means.
use Rattle.std.specs.Prelude.{◌≡◌, ℕ, ◌≤◌, List, Some, None, vec_items, Option, MatchOption}
use Rattle.std.specs.Option.{option_map}
use Rattle.std.specs.List.{slice_get}
use Rattle.rulebook.specs.Book.{Book}
use Rattle.allowance.specs.Allowed.{allowed_at, in_force}
use Rattle.allowance.specs.declared.allowance.Allowance.{Allowance}
use Rattle.allowance.specs.Moved.{rule_with}
use Rattle.allowance.specs.declared.setting.Origin.{Origin}
use Rattle.allowance.specs.declared.setting.Setting.{Setting}

-- the setting that counts this key so many times
abbrev pub setting_of : ℕ → ℕ → Setting
setting_of key most = record { key = key; most = most }

-- a book under a setting, by the places of the rules that are listed where none is left
abbrev pub under_at : List ℕ → Option Setting → Book → Book
under_at places None b = b
under_at places (Some s) b = allowed_at places s.key s.most b

-- rule k of a book under a setting comes from there: it is the rule below at that place, with so many left; none where there is no such rule
abbrev pub Comes : List ℕ → Setting → Book → ℕ → Option Origin → Type 0
Comes places s b k r =
    MatchOption r (slice_get (allowed_at places s.key s.most b).rules k ≡ None)
    (λ o. (slice_get (allowed_at places s.key s.most b).rules k ≡ option_map (rule_with s.key b.modes o.left) (slice_get b.rules o.place)) × (o.left ≤ s.most))

-- the book that an allowance means, where m says what the book below means
abbrev pub allowance_book : {B : Type 0} → (B → Book) → Allowance B → Book
allowance_book m s = under_at (vec_items s.first.list) (in_force s.setting (m s.below)) (m s.below)
