-- The fields of a written word are what was written, and a good word is written by its fields.
use Rattle.std.proofs.Common.{◌≡◌, ℕ, ◌<◌, ◌≤◌, true, ltb, length, refl, ap, ◌∙◌, arith}
use Rattle.std.proofs.lemmas.Bool.{lt-ltb}
use Rattle.std.proofs.lemmas.Bool.Decides.{nat_tests}
use Rattle.rulebook.specs.declared.told.Answer.{Answer}
use Rattle.rulebook.specs.declared.told.Screens.{Screens}
use Rattle.rulebook.specs.declared.told.Screens.TheVariants.{Gone, One, Two}
use Rattle.rulebook.specs.Book.{Rule, Book, ScreensFit, AnswerFits, RuleFits}
use Rattle.rulebook.specs.Told.{count_of, first_screen, second_screen}
use Rattle.image.specs.Layout.{kind_of, spare_in, modes_in, screens_in, rules_in, heading_good, mode_in, screen_in, key_in, answers_in, rule_good, count_in, first_in, second_in, screen_good, answer_good, screens_of, answer_of}
use Rattle.image.specs.Encode.{heading_word_of, rule_word_of, answer_word_of, Holds}

abbrev answer : ℕ → Screens → Answer
answer m s = record { mode = m; screens = s }

-- the fields of a written heading
pub record HeadingFields (b : Book) : Type 0 where
  pub kind : kind_of (heading_word_of b) ≡ 1
  pub modes : modes_in (heading_word_of b) ≡ b.modes
  pub screens : screens_in (heading_word_of b) ≡ b.screens
  pub rules : rules_in (heading_word_of b) ≡ length b.rules

pub heading_fields : (b : Book) → Holds 1024 b → HeadingFields b
heading_fields b h =
    let P = h.formed.few_modes in
    let G = h.formed.few_screens in
    let n = h.few in
    record { kind = omega arith; modes = omega arith; screens = omega arith; rules = omega arith }

pub heading_written : (b : Book) → Holds 1024 b → heading_good (heading_word_of b) ≡ true
heading_written b h =
    let f = heading_fields b h in
    let formed = h.formed in
    grind (arith, nat_tests)

-- the fields of a written rule word
pub record RuleFields (r : Rule) : Type 0 where
  pub kind : kind_of (rule_word_of r) ≡ 2
  pub spare : spare_in (rule_word_of r) ≡ 0
  pub key : key_in (rule_word_of r) ≡ r.key
  pub mode : mode_in (rule_word_of r) ≡ r.mode
  pub screen : screen_in (rule_word_of r) ≡ r.screen
  pub answers : answers_in (rule_word_of r) ≡ length r.answers

module _ (P G : ℕ) (few_modes : P ≤ 60) (few_screens : G ≤ 128) where
  pub rule_fields : (r : Rule) → RuleFits P G r → RuleFields r
  rule_fields r h =
      let k = h.key in
      let m = h.mode in
      let s = h.screen in
      let n = h.few in
      record { kind = omega arith; spare = omega arith; key = omega arith; mode = omega arith; screen = omega arith; answers = omega arith }

  pub rule_written : (r : Rule) → RuleFits P G r → rule_good P G (rule_word_of r) ≡ true
  rule_written r h =
      let f = rule_fields r h in
      grind (arith, nat_tests)

  -- the numbers of an answer's screens are small
  screens_small : (s : Screens) → ScreensFit G s → (count_of s ≤ 2) × (first_screen s < 256) × (second_screen s < 256)
  screens_small Gone h = (omega arith, omega arith, omega arith)
  screens_small (One a) h = (omega arith, omega arith, omega arith)
  screens_small (Two a b) h = (omega arith, omega (arith, h.0), omega (arith, h.1))

  -- an answer's screens are told by their numbers, and these are good fields
  screens_told : (s : Screens) → screens_of (count_of s) (first_screen s) (second_screen s) ≡ s
  screens_told Gone = refl
  screens_told (One a) = refl
  screens_told (Two a b) = refl

  screens_good : (s : Screens) → ScreensFit G s → (screen_good G (ltb 0 (count_of s)) (first_screen s) ≡ true) × (screen_good G (ltb 1 (count_of s)) (second_screen s) ≡ true)
  screens_good Gone h = (refl, refl)
  screens_good (One a) h = (lt-ltb a G h, refl)
  screens_good (Two a b) h = (lt-ltb a G h.0, lt-ltb b G h.1)

  -- the fields of a written answer word
  record AnswerFields (a : Answer) : Type 0 where
    kind : kind_of (answer_word_of a) ≡ 3
    spare : spare_in (answer_word_of a) ≡ 0
    mode : mode_in (answer_word_of a) ≡ a.mode
    count : count_in (answer_word_of a) ≡ count_of a.screens
    first : first_in (answer_word_of a) ≡ first_screen a.screens
    second : second_in (answer_word_of a) ≡ second_screen a.screens

  answer_fields : (a : Answer) → AnswerFits P G a → AnswerFields a
  answer_fields a h =
      let m = h.mode in
      let small = screens_small a.screens h.screens in
      let count = small.0 in
      let first = small.1 in
      let second = small.2 in
      record { kind = omega arith; spare = omega arith; mode = omega arith; count = omega arith; first = omega arith; second = omega arith }

  pub answer_written : (a : Answer) → AnswerFits P G a → answer_good P G (answer_word_of a) ≡ true
  answer_written a h =
      let f = answer_fields a h in
      let few = (screens_small a.screens h.screens).0 in
      let good = screens_good a.screens h.screens in
      let first : screen_good G (ltb 0 (count_in (answer_word_of a))) (first_in (answer_word_of a)) ≡ true = rw (f.count, f.first) good.0 in
      let second : screen_good G (ltb 1 (count_in (answer_word_of a))) (second_in (answer_word_of a)) ≡ true = rw (f.count, f.second) good.1 in
      grind (arith, nat_tests)

  pub answer_read_back : (a : Answer) → AnswerFits P G a → answer_of (answer_word_of a) ≡ a
  answer_read_back a h =
      let f = answer_fields a h in
      let w : ℕ = answer_word_of a in
      let screens : screens_of (count_in w) (first_in w) (second_in w) ≡ a.screens = rw (f.count, f.first, f.second) (screens_told a.screens) in
      ap (λ (m : ℕ). answer m (screens_of (count_in w) (first_in w) (second_in w))) f.mode ∙ ap (answer a.mode) screens
