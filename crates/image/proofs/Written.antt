-- A written book is accepted and read back.
use Rattle.std.proofs.Common.{◌≡◌, ℕ, suc, ◌+◌, ◌-◌, ◌*◌, ◌<◌, ◌≤◌, true, List, [], ◌∷◌, map, length, get_or, take, replicate, None, Ok, sym, refl, ap, ◌∙◌, ⊎_elim, arith}
use Rattle.std.specs.List.{range_with_len, flat_map, AllByRecursion}
use Rattle.std.proofs.lemmas.List.{length-append, length-take, length-map, length-replicate, get_or_append_left, get_or-append_right, get_or-replicate, get_or-map}
use Rattle.std.proofs.ByRecursion.{All-get_or, All-take, All-weaker}
use Rattle.std.proofs.lemmas.List.Concat.{get_or-flat_map}
use Rattle.std.proofs.lemmas.List.FromFn.{fill_by_all}
use Rattle.std.proofs.lemmas.Bool.{cases_lt}
use Rattle.std.proofs.lemmas.Bool.Decides.{nat_tests}
use Rattle.rulebook.specs.declared.told.Answer.{Answer}
use Rattle.rulebook.specs.declared.told.Screens.TheVariants.{Gone}
use Rattle.rulebook.specs.Book.{Rule, Book, AnswerFits, RuleFits, WellFormed}
use Rattle.image.specs.Layout.{modes_in, screens_in, rules_in, key_in, mode_in, screen_in, answers_in, rule_good, answer_good, answer_of}
use Rattle.image.specs.Plan.{rule_word, answer_word, rule_place, answer_place, decoded_rule, decoded, answer_fault, answers_fault, rule_fault, plan_fault, outcome}
use Rattle.image.specs.Encode.{heading_word_of, rule_word_of, answer_word_of, rule_words, encoded, Holds, ReadsBack}
use Rattle.image.proofs.Faults.{none_in}
use Rattle.image.proofs.Words.{HeadingFields, RuleFields, heading_fields, heading_written, rule_fields, rule_written, answer_written, answer_read_back}

-- lists of nine, one after another
module _ {X : Type 0} (f : X → List ℕ) where
  abbrev pub Nine : X → Type 0
  Nine x = length (f x) ≡ 9

  pub length_nines : (xs : List X) → AllByRecursion Nine xs → length (flat_map f xs) ≡ 9 * length xs
  length_nines [] h = refl
  length_nines (x ∷ xs) h = length-append (f x) (flat_map f xs) ∙ omega (arith, h.0, length_nines xs h.1)

  pub get_or_nines : (xs : List X) (k i : ℕ) (d : X) → AllByRecursion Nine xs → k < length xs → i < 9 → get_or (flat_map f xs) (9 * k + i) 0 ≡ get_or (f (get_or xs k d)) i 0
  get_or_nines xs k i d h l m =
      let inside : i < length (f (get_or xs k d)) = omega (arith, All-get_or Nine xs k d l h) in
      let place : 9 * k + i ≡ length (flat_map f (take k xs)) + i = omega (arith, length_nines (take k xs) (All-take Nine k xs h), length-take k xs) in
      ap (λ (n : ℕ). get_or (flat_map f xs) n 0) place ∙ get_or-flat_map f xs k i d 0 l inside

abbrev rule_of : ℕ → ℕ → ℕ → List Answer → Rule
rule_of key mode screen answers = record { key = key; mode = mode; screen = screen; answers = answers }

abbrev book_of : ℕ → ℕ → List Rule → Book
book_of modes screens rules = record { modes = modes; screens = screens; rules = rules }

pub no_rule : Rule
no_rule = record { key = 0; mode = 0; screen = 0; answers = [] }

pub no_answer : Answer
no_answer = record { mode = 0; screens = Gone }

length-rule_words : (r : Rule) → length r.answers ≤ 8 → length (rule_words r) ≡ 9
length-rule_words r h =
    let zeros = length-replicate {A = ℕ} (8 - length r.answers) 0 in
    let answers = length-map r.answers answer_word_of in
    let both = length-append (map answer_word_of r.answers) (replicate (8 - length r.answers) 0) in
    omega (arith, zeros, answers, both)

-- the word of an answer that a rule has, and of one that it lacks
pub answer_there : (r : Rule) (j : ℕ) → j < length r.answers → get_or (rule_words r) (suc j) 0 ≡ answer_word_of (get_or r.answers j no_answer)
answer_there r j h =
    let inside : j < length (map answer_word_of r.answers) = omega (arith, length-map r.answers answer_word_of) in
    get_or_append_left (map answer_word_of r.answers) (replicate (8 - length r.answers) 0) 0 j inside ∙ get_or-map answer_word_of r.answers j no_answer 0 h

pub answer_lacking : (r : Rule) (j : ℕ) → length r.answers ≤ j → j < 8 → get_or (rule_words r) (suc j) 0 ≡ 0
answer_lacking r j h l =
    get_or-append_right (map answer_word_of r.answers) (replicate (8 - length r.answers) 0) (length r.answers) j 0 (length-map r.answers answer_word_of) h
    ∙ get_or-replicate (8 - length r.answers) (j - length r.answers) 0 0 (omega arith)

-- each rule of a well-formed book takes nine words
pub rules_nine : (b : Book) → WellFormed b → AllByRecursion (Nine rule_words) b.rules
rules_nine b formed =
    All-weaker (RuleFits b.modes b.screens) (Nine rule_words) (λ r fits. length-rule_words r fits.few) b.rules formed.rules

module _ (b : Book) (h : Holds 1024 b) where
  formed : WellFormed b
  formed = h.formed

  nines : AllByRecursion (Nine rule_words) b.rules
  nines = rules_nine b formed

  rule : ℕ → Rule
  rule k = get_or b.rules k no_rule

  fits : (k : ℕ) → k < length b.rules → RuleFits b.modes b.screens (rule k)
  unfolding rule
  fits k l = All-get_or (RuleFits b.modes b.screens) b.rules k no_rule l formed.rules

  rule_word_lem : (k : ℕ) → k < length b.rules → rule_word (encoded b) k ≡ rule_word_of (rule k)
  unfolding rule
  rule_word_lem k l =
      let place : rule_place k ≡ suc (9 * k + 0) = omega arith in
      ap (λ (n : ℕ). get_or (encoded b) n 0) place ∙ get_or_nines rule_words b.rules k 0 no_rule nines l (omega arith)

  answer_word_lem : (k j : ℕ) → k < length b.rules → j < 8 → answer_word (encoded b) k j ≡ get_or (rule_words (rule k)) (suc j) 0
  unfolding rule
  answer_word_lem k j l m =
      let place : answer_place k j ≡ suc (9 * k + suc j) = omega arith in
      ap (λ (n : ℕ). get_or (encoded b) n 0) place ∙ get_or_nines rule_words b.rules k (suc j) no_rule nines l (omega arith)

  module _ (k : ℕ) (l : k < length b.rules) where
    fields_of_rule : RuleFields (rule k)
    fields_of_rule = rule_fields b.modes b.screens formed.few_modes formed.few_screens (rule k) (fits k l)

    answer_count : answers_in (rule_word (encoded b) k) ≡ length (rule k).answers
    answer_count = ap answers_in (rule_word_lem k l) ∙ fields_of_rule.answers

    answer_fits : (j : ℕ) → j < length (rule k).answers → AnswerFits b.modes b.screens (get_or (rule k).answers j no_answer)
    answer_fits j m = All-get_or (AnswerFits b.modes b.screens) (rule k).answers j no_answer m (fits k l).answers

    used_word : (j : ℕ) → j < length (rule k).answers → answer_word (encoded b) k j ≡ answer_word_of (get_or (rule k).answers j no_answer)
    used_word j m = answer_word_lem k j l (omega (arith, (fits k l).few)) ∙ answer_there (rule k) j m

    answer_back : (j : ℕ) → j < length (rule k).answers → answer_of (answer_word (encoded b) k j) ≡ get_or (rule k).answers j no_answer
    answer_back j m =
        ap answer_of (used_word j m) ∙ answer_read_back b.modes b.screens formed.few_modes formed.few_screens (get_or (rule k).answers j no_answer) (answer_fits j m)

    answers_back : map (λ j. answer_of (answer_word (encoded b) k j)) (range_with_len 0 (answers_in (rule_word (encoded b) k))) ≡ (rule k).answers
    answers_back =
        ap (λ (n : ℕ). map (λ j. answer_of (answer_word (encoded b) k j)) (range_with_len 0 n)) answer_count
        ∙ sym (fill_by_all (λ j. answer_of (answer_word (encoded b) k j)) (rule k).answers (length (rule k).answers) no_answer refl (λ j m. sym (answer_back j m)))

    rule_back : decoded_rule (encoded b) k ≡ rule k
    rule_back =
        let key : key_in (rule_word (encoded b) k) ≡ (rule k).key = ap key_in (rule_word_lem k l) ∙ fields_of_rule.key in
        let mode : mode_in (rule_word (encoded b) k) ≡ (rule k).mode = ap mode_in (rule_word_lem k l) ∙ fields_of_rule.mode in
        let screen : screen_in (rule_word (encoded b) k) ≡ (rule k).screen = ap screen_in (rule_word_lem k l) ∙ fields_of_rule.screen in
        let answers = answers_back in
        let same : decoded_rule (encoded b) k ≡ rule_of (rule k).key (rule k).mode (rule k).screen (rule k).answers = cc in
        same

  fields : HeadingFields b
  fields = heading_fields b h

  rules_back : map (decoded_rule (encoded b)) (range_with_len 0 (rules_in (heading_word_of b))) ≡ b.rules
  unfolding rule
  rules_back =
      ap (λ (n : ℕ). map (decoded_rule (encoded b)) (range_with_len 0 n)) fields.rules
      ∙ sym (fill_by_all (decoded_rule (encoded b)) b.rules (length b.rules) no_rule refl (λ k l. sym (rule_back k l)))

  book_back : decoded (encoded b) ≡ b
  book_back =
      let modes = fields.modes in
      let screens = fields.screens in
      let rules = rules_back in
      let same : decoded (encoded b) ≡ book_of b.modes b.screens b.rules = cc in
      same

  answer_faultless : (k j : ℕ) → k < length b.rules → j < 8 → answer_fault (encoded b) k j ≡ None
  answer_faultless k j l m =
      let number = answer_count k l in
      ⊎_elim
      (λ here.
      let told : answer_good (modes_in (heading_word_of b)) (screens_in (heading_word_of b)) (answer_word (encoded b) k j) ≡ true =
      rw (fields.modes, fields.screens, used_word k l j here)
      (answer_written b.modes b.screens formed.few_modes formed.few_screens (get_or (rule k).answers j no_answer) (answer_fits k l j here)) in
      grind (arith, nat_tests))
      (λ past. let zeroed : answer_word (encoded b) k j ≡ 0 = answer_word_lem k j l m ∙ answer_lacking (rule k) j past m in grind (arith, nat_tests))
      (cases_lt j (length (rule k).answers))

  rule_faultless : (k : ℕ) → k < length b.rules → rule_fault (encoded b) k ≡ None
  rule_faultless k l =
      let good : rule_good (modes_in (heading_word_of b)) (screens_in (heading_word_of b)) (rule_word (encoded b) k) ≡ true =
      rw (fields.modes, fields.screens, rule_word_lem k l) (rule_written b.modes b.screens formed.few_modes formed.few_screens (rule k) (fits k l)) in
      let answers : answers_fault (encoded b) k ≡ None = none_in (answer_fault (encoded b) k) 8 8 (omega arith) (λ j m. answer_faultless k j l m) in
      grind arith

  book_accepted : outcome (encoded b) ≡ Ok (length b.rules)
  book_accepted =
      let head = heading_written b h in
      let len : length (encoded b) ≡ 1 + 9 * rules_in (heading_word_of b) = omega (arith, fields.rules, length_nines rule_words b.rules nines) in
      let rules : plan_fault (encoded b) ≡ None =
      none_in (rule_fault (encoded b)) (rules_in (heading_word_of b)) (length b.rules) (omega (arith, fields.rules)) (λ k l. rule_faultless k l) in
      let count = fields.rules in
      grind (arith, nat_tests)

pub reads_back : (most : ℕ) → most ≤ 1024 → ReadsBack most
reads_back most l b h =
    let few : Holds 1024 b = record { formed = h.formed; few = omega (arith, h.few) } in
    (book_accepted b few, book_back b few)
