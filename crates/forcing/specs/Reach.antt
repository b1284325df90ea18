-- Which sets a table gives to an answer and to a rule, and which of them are due.
use Rattle.std.specs.Prelude.{◌≡◌, ℕ, List, [], ◌∷◌, drop, Some, bit_or}
use Rattle.std.specs.List.{slice_get}
use Rattle.rulebook.specs.Book.{Rule}
use Rattle.rulebook.specs.declared.told.Answer.{Answer}
use Rattle.rulebook.specs.declared.told.Screens.{Screens}
use Rattle.rulebook.specs.declared.told.Screens.TheVariants.{Gone, One, Two}
use Rattle.states.specs.Sets.{only, below}
use Rattle.forcing.specs.Entries.{entry}
use Rattle.states.specs.Lists.{In}
use Rattle.forcing.specs.declared.entry.Entry.{Entry}

-- X unites the sets of entries at screen b, one entry for each of these states.
abbrev pub Unites : List Entry → ℕ → List ℕ → ℕ → Type 0
Unites t b [] X = X ≡ 0
Unites t b (s ∷ ss) X = (Z : ℕ) × (U : ℕ) × In (entry s b Z) t × Unites t b ss U × (X ≡ bit_or U Z)

-- X is a reach of an answer with this mode and these screens. Without screens: the set of the mode alone. With one: the set of an entry at the mode and the screen.
-- With two: for an entry at the mode and the first screen, one entry at the second screen for each state of its set, their sets united.
abbrev pub ReachBy : List Entry → ℕ → Screens → ℕ → Type 0
ReachBy t m Gone X = X ≡ only m
ReachBy t m (One a) X = In (entry m a X) t
ReachBy t m (Two a b) X = (Y : ℕ) × In (entry m a Y) t × Unites t b (below 64 Y) X

abbrev pub Reach : List Entry → Answer → ℕ → Type 0
Reach t x X = ReachBy t x.mode x.screens X

-- X unites one reach for each of the answers.
abbrev pub United : List Entry → List Answer → ℕ → Type 0
United t [] X = X ≡ 0
United t (x ∷ xs) X = (R : ℕ) × (U : ℕ) × Reach t x R × United t xs U × (X ≡ bit_or U R)

-- The entry of the rule with this set is due: the set unites a reach for each answer, and no entry of the table equals it.
pub record Due (t : List Entry) (r : Rule) (X : ℕ) : Type 0 where
  pub united : United t r.answers X
  pub new : In (entry r.mode r.screen X) t → ⊥

-- X comes up on the way to the sets that unite a reach for each answer of the rule: it unites reaches of the last answers, or it is a reach of one answer, or on the way to such a reach it unites sets for the states below n.
pub data PartialUnion (t : List Entry) (r : Rule) (X : ℕ) : Type 0 where
  of_answers : (j : ℕ) → United t (drop j r.answers) X → PartialUnion t r X
  of_answer : (j : ℕ) (x : Answer) → slice_get r.answers j ≡ Some x → Reach t x X → PartialUnion t r X
  of_states :
      (j : ℕ) (x : Answer) (a b Y n : ℕ) → slice_get r.answers j ≡ Some x → x.screens ≡ Two a b → In (entry x.mode a Y) t → Unites t b (below n Y) X
      → PartialUnion t r X
