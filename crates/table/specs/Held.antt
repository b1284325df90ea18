-- What a table holds.
use Rattle.std.specs.Prelude.{ℕ, Bool, false, List, [], vec_items}
use Rattle.forcing.specs.Entries.{table_of}
use Rattle.forcing.specs.declared.entry.Earned.{Earned}
use Rattle.forcing.specs.declared.entry.Entry.{Entry}
use Rattle.table.specs.declared.table.Table.{Table}

-- The given entries in the order of giving, the set of states with an end mark, the earned entries in the order of entering, and whether they are all: whether the table is settled, and not open.
pub record Held : Type 0 where
  pub given : List Entry
  pub marks : ℕ
  pub earned : List Earned
  pub settled : Bool

-- all entries: the given ones, then the earned ones
abbrev pub entries_in : Held → List Entry
entries_in h = table_of h.given h.earned

-- an open table with this goal, and nothing earned
abbrev pub opened : List Entry → ℕ → Held
opened given marks = record { given = given; marks = marks; earned = []; settled = false }

-- a new table: open, with an empty goal
abbrev pub blank : Held
blank = opened [] 0

-- what a table holds, of the code's table
abbrev pub held_in : Table → Held
held_in t = record { given = vec_items t.given; marks = t.marks; earned = vec_items t.earned; settled = t.settled }
