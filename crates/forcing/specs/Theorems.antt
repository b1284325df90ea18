-- What holds of settling over every well-formed book.
use Rattle.std.specs.Prelude.{◌≡◌, ℕ, ◌<◌, ◌≤◌, ◌↔◌, List, length}
use Rattle.rulebook.specs.Book.{Book, WellFormed}
use Rattle.forcing.specs.Entries.{Accepts, GivenFits, table_of}
use Rattle.forcing.specs.Forcing.{Forced, CanForce}
use Rattle.states.specs.Lists.{NoRepeats}
use Rattle.forcing.specs.Settling.{Closed, Inside, NothingDue, Settles, Steps, TooMany}
use Rattle.forcing.specs.declared.entry.Earned.{Earned}
use Rattle.forcing.specs.declared.entry.Entry.{Entry}

-- The goal of given entries and end marks: the stacks whose mode accepts their list by these alone.
abbrev pub GoalOf : List Entry → ℕ → ℕ → List ℕ → Type 0
GoalOf given marks p w = Accepts given marks p w

-- Sound: what a mode accepts by a table that settling reaches, some count of presses forces.
abbrev pub Sound : Type 0
Sound =
    (b : Book) (given : List Entry) (marks : ℕ) (earned : List Earned) → WellFormed b → GivenFits b.modes given → Steps b given earned → (p : ℕ) (w : List ℕ) → p < b.modes
    → Accepts (table_of given earned) marks p w → CanForce b (GoalOf given marks) p w

-- Complete: where nothing is due, each stack from which the goal is forced is accepted.
abbrev pub Complete : Type 0
Complete =
    (b : Book) (given : List Entry) (marks : ℕ) (earned : List Earned) → WellFormed b → NothingDue b (table_of given earned) → (n p : ℕ) (w : List ℕ) → Forced b (GoalOf given marks) n p w
    → Accepts (table_of given earned) marks p w

-- A settled table accepts a stack exactly when some count of presses forces the goal from it.
abbrev pub SettledForces : Type 0
SettledForces =
    (b : Book) (given : List Entry) (marks : ℕ) (earned : List Earned) → WellFormed b → GivenFits b.modes given → Settles b given earned → (p : ℕ) (w : List ℕ) → p < b.modes
    → Accepts (table_of given earned) marks p w ↔ CanForce b (GoalOf given marks) p w

-- Deterministic: the steps from given entries have one course, so two settled results are equal, in order and rules too.
abbrev pub OneCourse : Type 0
OneCourse = (b : Book) (given : List Entry) (one two : List Earned) → Steps b given one → Steps b given two → length one ≡ length two → one ≡ two

abbrev pub OneResult : Type 0
OneResult = (b : Book) (given : List Entry) (one two : List Earned) → Settles b given one → Settles b given two → one ≡ two

-- Where settling ends with at most 1,024 earned entries there is no 1,025th step.
abbrev pub NotBoth : Type 0
NotBoth = (b : Book) (given : List Entry) (earned : List Earned) → Settles b given earned → length earned ≤ 1024 → TooMany b given → ⊥

-- Least: the settled table is closed under the rules, each table that is closed and has the given entries has all of its entries, and no entry was earned twice or had been given.
pub record IsLeast (b : Book) (given : List Entry) (earned : List Earned) : Type 0 where
  pub closed : Closed b (table_of given earned)
  pub least : (t : List Entry) → Inside given t → Closed b t → Inside (table_of given earned) t
  pub once : NoRepeats given → NoRepeats (table_of given earned)

abbrev pub Least : Type 0
Least = (b : Book) (given : List Entry) (earned : List Earned) → Settles b given earned → IsLeast b given earned

-- Every table settles.
abbrev pub EverySettles : Type 0
EverySettles = (b : Book) (given : List Entry) → WellFormed b → GivenFits b.modes given → (earned : List Earned) × Settles b given earned
