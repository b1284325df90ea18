-- Accepted words are those that are written for the book they say.
use Rattle.std.proofs.Common.{◌≡◌, ℕ, zero, suc, ◌+◌, ◌*◌, ◌/◌, ◌%◌, ◌<◌, ◌≤◌, true, ltb, List, length, get_or, sym, refl, ap, ◌∙◌, ⊎_elim, arith}
use Rattle.std.specs.List.{flat_map, AllByRecursion}
use Rattle.std.proofs.lemmas.List.{ext_get_or}
use Rattle.std.proofs.lemmas.List.FromFn.{get_or-map-range_with_len}
use Rattle.std.proofs.lemmas.Bool.{cases_lt, eqb-true}
use Rattle.rulebook.specs.Book.{Rule}
use Rattle.rulebook.specs.Told.{count_of, first_screen, second_screen}
use Rattle.image.specs.Layout.{modes_in, screens_in, rules_in, answers_in, count_in, first_in, second_in, screen_good, answer_good, screens_of, answer_of}
use Rattle.image.specs.Plan.{heading, rule_word, answer_word, rule_place, answer_place, decoded_rule, decoded, accepted}
use Rattle.image.specs.Formed.{Checked, checked, RuleParts, heading_parts, rule_parts, answer_parts, decoded_formed}
use Rattle.image.specs.Encode.{heading_word_of, rule_word_of, answer_word_of, rule_words, encoded, WritesBack}
use Rattle.image.proofs.Questions.{rule_count, answer_count}
use Rattle.image.proofs.Written.{Nine, length_nines, get_or_nines, no_rule, no_answer, rules_nine, answer_there, answer_lacking}

-- the numbers that tell the screens of a good answer word are its fields
screens_fields : (G c a b : ℕ) → c ≤ 2 → screen_good G (ltb 0 c) a ≡ true → screen_good G (ltb 1 c) b ≡ true → (count_of (screens_of c a b) ≡ c) × (first_screen (screens_of c a b) ≡ a) × (second_screen (screens_of c a b) ≡ b)
screens_fields G zero a b few first second = (refl, sym (eqb-true a 0 first), sym (eqb-true b 0 second))
screens_fields G (suc zero) a b few first second = (refl, refl, sym (eqb-true b 0 second))
screens_fields G (suc (suc zero)) a b few first second = (refl, refl, refl)
screens_fields G (suc (suc (suc n))) a b few first second = absurd (omega arith)

answer_rewritten : (P G w : ℕ) → answer_good P G w ≡ true → answer_word_of (answer_of w) ≡ w
answer_rewritten P G w e =
    let parts = answer_parts P G w e in
    let told = screens_fields G (count_in w) (first_in w) (second_in w) parts.count parts.first parts.second in
    omega (arith, parts.kind, parts.spare, told.0, told.1, told.2)

module _ (ws : List ℕ) (ok : accepted ws ≡ true) where
  passed : Checked ws
  passed = checked ws ok

  heading_rewritten : heading_word_of (decoded ws) ≡ heading ws
  heading_rewritten =
      let parts = heading_parts (heading ws) passed.head in
      omega (arith, parts.kind, rule_count ws)

  module _ (k : ℕ) (l : k < rules_in (heading ws)) where
    parts : RuleParts (modes_in (heading ws)) (screens_in (heading ws)) (rule_word ws k)
    parts = rule_parts (modes_in (heading ws)) (screens_in (heading ws)) (rule_word ws k) (passed.rules k l).word

    rule_rewritten : rule_word_of (decoded_rule ws k) ≡ rule_word ws k
    rule_rewritten = omega (arith, parts.kind, parts.spare, answer_count ws k)

    answer_at_place : (j : ℕ) → j < answers_in (rule_word ws k) → get_or (decoded_rule ws k).answers j no_answer ≡ answer_of (answer_word ws k j)
    answer_at_place j m = get_or-map-range_with_len (λ i. answer_of (answer_word ws k i)) 0 (answers_in (rule_word ws k)) j j no_answer m (omega arith)

    answers_rewritten : (j : ℕ) → j < 8 → get_or (rule_words (decoded_rule ws k)) (suc j) 0 ≡ answer_word ws k j
    answers_rewritten j m =
        ⊎_elim
        (λ used.
        answer_there (decoded_rule ws k) j (omega (arith, answer_count ws k))
        ∙ ap answer_word_of (answer_at_place j used)
        ∙ answer_rewritten (modes_in (heading ws)) (screens_in (heading ws)) (answer_word ws k j) (((passed.rules k l).answers j m).used used))
        (λ unused.
        answer_lacking (decoded_rule ws k) j (omega (arith, answer_count ws k)) m
        ∙ sym (((passed.rules k l).answers j m).unused unused))
        (cases_lt j (answers_in (rule_word ws k)))

    -- word i of the nine words of rule k
    nine_rewritten : (i : ℕ) → i < 9 → get_or (rule_words (decoded_rule ws k)) i 0 ≡ get_or ws (suc (9 * k + i)) 0
    nine_rewritten zero m =
        let place : rule_place k ≡ suc (9 * k + 0) = omega arith in rule_rewritten ∙ ap (λ (n : ℕ). get_or ws n 0) place
    nine_rewritten (suc j) m =
        let place : answer_place k j ≡ suc (9 * k + suc j) = omega arith in answers_rewritten j (omega arith) ∙ ap (λ (n : ℕ). get_or ws n 0) place

  nines : AllByRecursion (Nine rule_words) (decoded ws).rules
  nines = rules_nine (decoded ws) (decoded_formed ws ok)

  length_rewritten : length (encoded (decoded ws)) ≡ length ws
  length_rewritten = omega (arith, length_nines rule_words (decoded ws).rules nines, rule_count ws, passed.len)

  word_rewritten : (i : ℕ) → i < length (encoded (decoded ws)) → get_or (encoded (decoded ws)) i 0 ≡ get_or ws i 0
  word_rewritten zero m = heading_rewritten
  word_rewritten (suc i) m =
      let k : ℕ = i / 9 in
      let within : i / 9 < rules_in (heading ws) = omega (arith, length_rewritten, passed.len) in
      let inside : i / 9 < length (decoded ws).rules = omega (arith, rule_count ws) in
      let place : i ≡ 9 * (i / 9) + i % 9 = omega arith in
      let rest : i % 9 < 9 = omega arith in
      ap (λ (n : ℕ). get_or (flat_map rule_words (decoded ws).rules) n 0) place
      ∙ get_or_nines rule_words (decoded ws).rules (i / 9) (i % 9) no_rule nines inside rest
      ∙ ap (λ (r : Rule). get_or (rule_words r) (i % 9) 0) (get_or-map-range_with_len (decoded_rule ws) 0 (rules_in (heading ws)) (i / 9) (i / 9) no_rule within (omega arith))
      ∙ nine_rewritten (i / 9) within (i % 9) rest
      ∙ ap (λ (n : ℕ). get_or ws (suc n) 0) (sym place)

pub writes_back : WritesBack
writes_back ws ok = ext_get_or 0 (encoded (decoded ws)) ws (length_rewritten ws ok) (word_rewritten ws ok)
