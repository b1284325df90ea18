-- Entries, tables of entries, and the lists of screens that a state accepts by a table.
use Rattle.std.specs.Prelude.{ℕ, ◌^◌, ◌<◌, ◌≤◌, Bool, false, cond, List, [], ◌∷◌, ◌++◌, map, ◌==◌}
use Rattle.states.specs.Sets.{Member}
use Rattle.states.specs.Lists.{In}
use Rattle.forcing.specs.declared.entry.Entry.{Entry}
use Rattle.forcing.specs.declared.entry.Earned.{Earned}

-- the entry with this state, screen and set
abbrev pub entry : ℕ → ℕ → ℕ → Entry
entry q a X = record { state = q; screen = a; set = X }

-- two entries agree in state, screen and set
abbrev pub same_entry : Entry → Entry → Bool
same_entry e f = cond (e.state == f.state) (cond (e.screen == f.screen) (e.set == f.set) false) false

-- earned entries without their rules
abbrev pub entries_of : List Earned → List Entry
entries_of earned = map (λ (e : Earned). e.entry) earned

-- The table: the given entries, then the earned ones in their order. Places in it count from 0.
abbrev pub table_of : List Entry → List Earned → List Entry
table_of given earned = given ++ entries_of earned

-- A state accepts a list of screens, top first, by a table and a set of end marks: the empty list where it has an end mark, another list where an entry with the state and the top screen has a set all of whose members accept the rest.
-- So an entry with the empty set accepts every rest.
abbrev pub Accepts : List Entry → ℕ → ℕ → List ℕ → Type 0
Accepts t marks q [] = Member q marks
Accepts t marks q (a ∷ w) = (X : ℕ) × In (entry q a X) t × ((s : ℕ) → Member s X → Accepts t marks s w)

-- What holds of given entries over a book with P modes: each set is a set of states, and no mode belongs to it.
pub record GivenFits (P : ℕ) (given : List Entry) : Type 0 where
  pub sets : (e : Entry) → In e given → e.set < 2 ^ 64
  pub plain : (e : Entry) → In e given → (q : ℕ) → Member q e.set → P ≤ q
