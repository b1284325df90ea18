-- The meaning of a rule book, the bounds that it keeps, and what its questions are answered by.
use Rattle.std.specs.Prelude.{◌≡◌, ℕ, ◌<◌, ◌≤◌, List, [], ◌∷◌, length, Some, None, Option, refl}
use Rattle.std.specs.List.{AllByRecursion, slice_get}
use Rattle.rulebook.specs.declared.told.Answer.{Answer}
use Rattle.rulebook.specs.declared.told.RuleHead.{RuleHead}
use Rattle.rulebook.specs.declared.told.Screens.{Screens}
use Rattle.rulebook.specs.declared.told.Screens.TheVariants.{Gone, One, Two}

-- A rule: its key, the mode and the top screen of the stacks to which it applies, and the answers that the radio may give.
pub record Rule : Type 0 where
  pub key : ℕ
  pub mode : ℕ
  pub screen : ℕ
  pub answers : List Answer

-- A book: P modes, G screens and a list of rules, numbered from 0.
pub record Book : Type 0 where
  pub modes : ℕ
  pub screens : ℕ
  pub rules : List Rule

-- each of an answer's screens is below G
abbrev pub ScreensFit : ℕ → Screens → Type 0
ScreensFit G Gone = Unit {0}
ScreensFit G (One a) = a < G
ScreensFit G (Two a b) = (a < G) × (b < G)

-- an answer's mode is below P and its screens are below G
pub record AnswerFits (P G : ℕ) (a : Answer) : Type 0 where
  pub mode : a.mode < P
  pub screens : ScreensFit G a.screens

-- a rule's key is at most 63, its mode below P, its screen below G, and it has 1 to 8 answers, each of which fits
pub record RuleFits (P G : ℕ) (r : Rule) : Type 0 where
  pub key : r.key ≤ 63
  pub mode : r.mode < P
  pub screen : r.screen < G
  pub some : 1 ≤ length r.answers
  pub few : length r.answers ≤ 8
  pub answers : AllByRecursion (AnswerFits P G) r.answers

-- A book is well formed: 1 to 60 modes, 1 to 128 screens, at most 65,535 rules, and each rule fits.
pub record WellFormed (b : Book) : Type 0 where
  pub some_mode : 1 ≤ b.modes
  pub few_modes : b.modes ≤ 60
  pub some_screen : 1 ≤ b.screens
  pub few_screens : b.screens ≤ 128
  pub few_rules : length b.rules ≤ 65535
  pub rules : AllByRecursion (RuleFits b.modes b.screens) b.rules

-- a rule as a book tells it, its answers by their number
abbrev pub head_of : Rule → RuleHead
head_of r = record { key = r.key; mode = r.mode; screen = r.screen; answers = length r.answers }

-- the told form of a rule, where there is one
abbrev pub head_in : Option Rule → Option RuleHead
head_in None = None
head_in (Some r) = Some (head_of r)

-- answer j of a rule, where there is one
abbrev pub answer_in : Option Rule → ℕ → Option Answer
answer_in None j = None
answer_in (Some r) j = slice_get r.answers j

-- rule k of a book, or none beyond the list
abbrev pub rule_at : Book → ℕ → Option RuleHead
rule_at b k = head_in (slice_get b.rules k)

-- answer j of rule k, or none beyond either list
abbrev pub answer_at : Book → ℕ → ℕ → Option Answer
answer_at b k j = answer_in (slice_get b.rules k) j

-- a book of one rule with two answers
abbrev example : Book
example = record { modes = 2; screens = 3; rules = record { key = 3; mode = 0; screen = 1; answers = record { mode = 1; screens = Two 2 1 } ∷ record { mode = 1; screens = One 2 } ∷ [] } ∷ [] }

example_rule : rule_at example 0 ≡ Some (record { key = 3; mode = 0; screen = 1; answers = 2 })
example_rule = refl

example_no_rule : rule_at example 1 ≡ None
example_no_rule = refl

example_answer : answer_at example 0 1 ≡ Some (record { mode = 1; screens = One 2 })
example_answer = refl

example_no_answer : answer_at example 0 2 ≡ None
example_no_answer = refl
