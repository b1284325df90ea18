-- Settling a table: the due entry of the lowest rule is entered, among those of that rule the one whose set goes first, until none is due.
use Rattle.std.specs.Prelude.{◌≡◌, ℕ, ◌<◌, Bool, false, List, [], ◌∷◌, ◌++◌, length, Some, nat_lt}
use Rattle.std.specs.List.{AllByRecursion, slice_get}
use Rattle.rulebook.specs.Book.{Book, Rule}
use Rattle.forcing.specs.Entries.{entry, table_of}
use Rattle.states.specs.Lists.{In, NoRepeats}
use Rattle.forcing.specs.Reach.{United, Due, PartialUnion}
use Rattle.forcing.specs.declared.entry.Earned.{Earned}
use Rattle.forcing.specs.declared.entry.Entry.{Entry}

-- Of two due sets of one rule, whether the first goes before the second: the smaller number goes first.
abbrev pub goes_before : ℕ → ℕ → Bool
goes_before X Y = nat_lt X Y

-- Nothing is due by the rule.
abbrev pub RuleRests : List Entry → Rule → Type 0
RuleRests t r = (X : ℕ) → Due t r X → ⊥

-- Nothing is due by any rule.
abbrev pub NothingDue : Book → List Entry → Type 0
NothingDue b t = (k : ℕ) (r : Rule) → slice_get b.rules k ≡ Some r → RuleRests t r

-- The entry, with its rule's number, is the one to enter: it is due by that rule, no due set of the rule goes before its set, and nothing is due by a lower rule.
pub record Next (b : Book) (t : List Entry) (e : Earned) : Type 0 where
  pub rule : Rule
  pub listed : slice_get b.rules e.rule ≡ Some rule
  pub made : e.entry ≡ entry rule.mode rule.screen e.entry.set
  pub due : Due t rule e.entry.set
  pub first : (X : ℕ) → Due t rule X → goes_before X e.entry.set ≡ false
  pub lowest : (k : ℕ) (r : Rule) → k < e.rule → slice_get b.rules k ≡ Some r → RuleRests t r

-- These entries are earned from the given ones, each entered when it was the one to enter.
pub data Steps (b : Book) (given : List Entry) : List Earned → Type 0 where
  start : Steps b given []
  enter : (earned : List Earned) (e : Earned) (all : List Earned) → Steps b given earned → Next b (table_of given earned) e → all ≡ earned ++ e ∷ [] → Steps b given all

-- These entries are earned, and then nothing is due.
pub record Settles (b : Book) (given : List Entry) (earned : List Earned) : Type 0 where
  pub steps : Steps b given earned
  pub rests : NothingDue b (table_of given earned)

-- More than 1,024 entries would be earned: there is a 1,025th step.
pub record TooMany (b : Book) (given : List Entry) : Type 0 where
  pub earned : List Earned
  pub steps : Steps b given earned
  pub many : length earned ≡ 1025

-- Some rule has more than 65,536 distinct partial unions, in a table that settling reaches.
pub record TooWide (b : Book) (given : List Entry) : Type 0 where
  pub earned : List Earned
  pub steps : Steps b given earned
  pub number : ℕ
  pub rule : Rule
  pub listed : slice_get b.rules number ≡ Some rule
  pub sets : List ℕ
  pub distinct : NoRepeats sets
  pub partial : AllByRecursion (PartialUnion (table_of given earned) rule) sets
  pub many : 65536 < length sets

-- Closed under the rules: whatever unites a reach for each answer of a rule is in the table at the rule's mode and screen.
abbrev pub Closed : Book → List Entry → Type 0
Closed b t = (k : ℕ) (r : Rule) (X : ℕ) → slice_get b.rules k ≡ Some r → United t r.answers X → In (entry r.mode r.screen X) t

-- Whatever is in the first table is in the second.
abbrev pub Inside : List Entry → List Entry → Type 0
Inside s t = (e : Entry) → In e s → In e t
