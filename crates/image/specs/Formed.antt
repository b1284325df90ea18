-- What the check of a plan shows of its words, and the proof that the book they say is well formed.
-- A rule book gives that proof with its meaning, so it stands here and not among the proofs.
use Rattle.std.specs.Prelude.{◌≡◌, ℕ, zero, suc, ◌+◌, ◌*◌, ◌<◌, ◌≤◌, true, List, map, length, Some, None, Option, nat_lt, refl}
use Rattle.std.proofs.Common.{sym, subst, ◌∙◌, zero-add}
use Rattle.std.proofs.Math.Path.{ap}
use native.Mathlib.Omega.{arith}
use Rattle.std.proofs.Math.Nat.{add-zero}
use Rattle.std.specs.List.{range_with_len, AllByRecursion}
use Rattle.std.proofs.ByRecursion.{All-from_get_or}
use Rattle.std.proofs.lemmas.Bool.{ltb-true}
use Rattle.std.proofs.lemmas.Bool.Decides.{nat_tests}
use Rattle.std.proofs.lemmas.List.FromFn.{length-map-range_with_len, get_or-map-range_with_len}
use Rattle.rulebook.specs.Book.{ScreensFit, AnswerFits, RuleFits, WellFormed}
use Rattle.image.specs.Layout.{modes_in, screens_in, rules_in, heading_good, mode_in, screen_in, answers_in, rule_good, kind_of, spare_in, answer_good, answer_of, screens_of, screen_good, count_in, first_in, second_in}
use Rattle.image.specs.Plan.{heading, rule_word, answer_word, decoded_rule, decoded, or_else, first_some, answer_fault, answers_fault, rule_fault, plan_fault, accepted}

-- the word of answer j of rule k is good where the rule uses it, and 0 where it does not
pub record AnswerChecked (ws : List ℕ) (k j : ℕ) : Type 0 where
  pub used : j < answers_in (rule_word ws k) → answer_good (modes_in (heading ws)) (screens_in (heading ws)) (answer_word ws k j) ≡ true
  pub unused : answers_in (rule_word ws k) ≤ j → answer_word ws k j ≡ 0

-- the rule word of rule k is good, and so is each of its answer words
pub record RuleChecked (ws : List ℕ) (k : ℕ) : Type 0 where
  pub word : rule_good (modes_in (heading ws)) (screens_in (heading ws)) (rule_word ws k) ≡ true
  pub answers : (j : ℕ) → j < 8 → AnswerChecked ws k j

-- the words passed the check of a plan
pub record Checked (ws : List ℕ) : Type 0 where
  pub head : heading_good (heading ws) ≡ true
  pub len : length ws ≡ 1 + 9 * rules_in (heading ws)
  pub rules : (k : ℕ) → k < rules_in (heading ws) → RuleChecked ws k

module _ {R : Type 0} where
  neither : (r s : Option R) → or_else r s ≡ None → (r ≡ None) × (s ≡ None)
  neither None s e = (refl, e)
  neither (Some x) s e = absurd (cc)

  first_some_none : (f : ℕ → Option R) (i n : ℕ) → first_some f i n ≡ None → (k : ℕ) → k < n → f (i + k) ≡ None
  unfolding first_some
  first_some_none f i zero e k h = absurd (omega arith)
  first_some_none f i (suc n) e zero h = rw add-zero (neither (f i) (first_some f (i + 1) n) e).0
  first_some_none f i (suc n) e (suc k) h =
      let place : i + suc k ≡ i + 1 + k = omega arith in
      ap f place ∙ first_some_none f (i + 1) n (neither (f i) (first_some f (i + 1) n) e).1 k (omega arith)

  none_first : (f : ℕ → Option R) (n : ℕ) → first_some f 0 n ≡ None → (k : ℕ) → k < n → f k ≡ None
  none_first f n e k h = rw zero-add at (first_some_none f 0 n e k h)

module _ (ws : List ℕ) where
  answer_checked : (k j : ℕ) → answer_fault ws k j ≡ None → AnswerChecked ws k j
  answer_checked k j e = grind (arith, nat_tests)

  rule_checked : (k : ℕ) → rule_fault ws k ≡ None → RuleChecked ws k
  rule_checked k e =
      let faultless : answers_fault ws k ≡ None = grind arith in
      record { word = grind arith; answers = λ j h. answer_checked k j (none_first (answer_fault ws k) 8 faultless j h) }

  -- an accepted load is of words that passed each test
  pub checked : accepted ws ≡ true → Checked ws
  checked e =
      let faultless : plan_fault ws ≡ None = grind (arith, nat_tests) in
      record {
        head = grind (arith, nat_tests);
        len = grind (arith, nat_tests);
        rules = λ k h. rule_checked k (none_first (rule_fault ws) (rules_in (heading ws)) faultless k h);
      }

-- what holds of f at each index holds of each element of the list made from f
all_counting : {X : Type 0} (Q : X → Type 0) (f : ℕ → X) (n : ℕ) → ((k : ℕ) → k < n → Q (f k)) → AllByRecursion Q (map f (range_with_len 0 n))
all_counting Q f n h =
    All-from_get_or Q (map f (range_with_len 0 n)) (f 0)
    (λ k l. let inside : k < n = omega (arith, length-map-range_with_len f 0 n) in subst Q (sym (get_or-map-range_with_len f 0 n k k (f 0) inside (zero-add k))) (h k inside))

screens_fit : (G count a b : ℕ) → count ≤ 2 → screen_good G (nat_lt 0 count) a ≡ true → screen_good G (nat_lt 1 count) b ≡ true → ScreensFit G (screens_of count a b)
screens_fit G zero a b few first second = tt
screens_fit G (suc zero) a b few first second = ltb-true a G first
screens_fit G (suc (suc zero)) a b few first second = (ltb-true a G first, ltb-true b G second)
screens_fit G (suc (suc (suc n))) a b few first second = absurd (omega arith)

-- the parts of a good answer word
pub record AnswerParts (P G w : ℕ) : Type 0 where
  pub kind : kind_of w ≡ 3
  pub spare : spare_in w ≡ 0
  pub mode : mode_in w < P
  pub count : count_in w ≤ 2
  pub first : screen_good G (nat_lt 0 (count_in w)) (first_in w) ≡ true
  pub second : screen_good G (nat_lt 1 (count_in w)) (second_in w) ≡ true

pub answer_parts : (P G w : ℕ) → answer_good P G w ≡ true → AnswerParts P G w
answer_parts P G w e = grind (arith, nat_tests)

-- the parts of a good rule word
pub record RuleParts (P G w : ℕ) : Type 0 where
  pub kind : kind_of w ≡ 2
  pub spare : spare_in w ≡ 0
  pub mode : mode_in w < P
  pub screen : screen_in w < G
  pub some : 1 ≤ answers_in w
  pub few : answers_in w ≤ 8

pub rule_parts : (P G w : ℕ) → rule_good P G w ≡ true → RuleParts P G w
rule_parts P G w e = grind (arith, nat_tests)

-- the parts of a good heading
pub record HeadingParts (w : ℕ) : Type 0 where
  pub kind : kind_of w ≡ 1
  pub some_mode : 1 ≤ modes_in w
  pub few_modes : modes_in w ≤ 60
  pub some_screen : 1 ≤ screens_in w
  pub few_screens : screens_in w ≤ 128
  pub few_rules : rules_in w ≤ 1024

pub heading_parts : (w : ℕ) → heading_good w ≡ true → HeadingParts w
heading_parts w e = grind (arith, nat_tests)

answer_fits : (P G w : ℕ) → answer_good P G w ≡ true → AnswerFits P G (answer_of w)
answer_fits P G w e =
    let parts = answer_parts P G w e in
    record { mode = parts.mode; screens = screens_fit G (count_in w) (first_in w) (second_in w) parts.count parts.first parts.second }

module _ (ws : List ℕ) (ok : accepted ws ≡ true) where
  rule_fits : (k : ℕ) → k < rules_in (heading ws) → RuleFits (modes_in (heading ws)) (screens_in (heading ws)) (decoded_rule ws k)
  rule_fits k h =
      let P : ℕ = modes_in (heading ws) in
      let G : ℕ = screens_in (heading ws) in
      let passed = (checked ws ok).rules k h in
      let parts = rule_parts P G (rule_word ws k) passed.word in
      let number = length-map-range_with_len (λ j. answer_of (answer_word ws k j)) 0 (answers_in (rule_word ws k)) in
      record {
        key = omega arith;
        mode = parts.mode;
        screen = parts.screen;
        some = omega (arith, number, parts.some);
        few = omega (arith, number, parts.few);
        answers = all_counting (AnswerFits P G) (λ j. answer_of (answer_word ws k j)) (answers_in (rule_word ws k))
            (λ j l. answer_fits P G (answer_word ws k j) ((passed.answers j (omega (arith, parts.few))).used l));
      }

  -- the book that accepted words say is well formed
  pub decoded_formed : WellFormed (decoded ws)
  decoded_formed =
      let passed = checked ws ok in
      let parts = heading_parts (heading ws) passed.head in
      record {
        some_mode = parts.some_mode;
        few_modes = parts.few_modes;
        some_screen = parts.some_screen;
        few_screens = parts.few_screens;
        few_rules = omega (arith, length-map-range_with_len (decoded_rule ws) 0 (rules_in (heading ws)), parts.few_rules);
        rules = all_counting (RuleFits (modes_in (heading ws)) (screens_in (heading ws))) (decoded_rule ws) (rules_in (heading ws)) rule_fits;
      }
