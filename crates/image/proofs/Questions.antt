-- How the questions to an image are answered from its words.
use Rattle.std.proofs.Common.{◌≡◌, ℕ, ◌<◌, ◌≤◌, true, List, map, length, Some, None, Option, ap, ◌∙◌, zero-add, arith}
use Rattle.std.specs.List.{range_with_len, slice_get}
use Rattle.std.proofs.lemmas.List.FromFn.{length-map-range_with_len, get_or-map-range_with_len}
use Rattle.std.proofs.lemmas.Option.{slice_get-get_or, slice_get_past}
use Rattle.rulebook.specs.Book.{Rule, head_in, answer_in, rule_at, answer_at}
use Rattle.image.specs.Layout.{rules_in, modes_in, screens_in, answers_in, head_of, answer_of}
use Rattle.image.specs.Plan.{heading, rule_word, answer_word, decoded_rule, decoded, accepted}
use Rattle.image.specs.Formed.{checked, rule_parts}

module _ {X : Type 0} (f : ℕ → X) (n k : ℕ) where
  nth_counted : k < n → slice_get (map f (range_with_len 0 n)) k ≡ Some (f k)
  nth_counted h =
      let long : k < length (map f (range_with_len 0 n)) = omega (arith, length-map-range_with_len f 0 n) in
      slice_get-get_or (map f (range_with_len 0 n)) k (f k) long ∙ ap Some (get_or-map-range_with_len f 0 n k k (f k) h (zero-add k))

  nth_counted_past : n ≤ k → slice_get (map f (range_with_len 0 n)) k ≡ None
  nth_counted_past h = slice_get_past (map f (range_with_len 0 n)) k (omega (arith, length-map-range_with_len f 0 n))

module _ (ws : List ℕ) where
  pub rule_count : length (decoded ws).rules ≡ rules_in (heading ws)
  rule_count = length-map-range_with_len (decoded_rule ws) 0 (rules_in (heading ws))

  pub rule_past : (k : ℕ) → rules_in (heading ws) ≤ k → rule_at (decoded ws) k ≡ None
  rule_past k h = ap head_in (nth_counted_past (decoded_rule ws) (rules_in (heading ws)) k h)

  pub no_answer_past : (k j : ℕ) → rules_in (heading ws) ≤ k → answer_at (decoded ws) k j ≡ None
  no_answer_past k j h = ap (λ (o : Option Rule). answer_in o j) (nth_counted_past (decoded_rule ws) (rules_in (heading ws)) k h)

  pub answer_count : (k : ℕ) → length (decoded_rule ws k).answers ≡ answers_in (rule_word ws k)
  answer_count k = length-map-range_with_len (λ j. answer_of (answer_word ws k j)) 0 (answers_in (rule_word ws k))

  module _ (k : ℕ) (h : k < rules_in (heading ws)) where
    pub rule_told : rule_at (decoded ws) k ≡ Some (head_of (rule_word ws k))
    rule_told = ap head_in (nth_counted (decoded_rule ws) (rules_in (heading ws)) k h) ∙ rw (answer_count k)

    answers_of : (j : ℕ) → answer_at (decoded ws) k j ≡ slice_get (decoded_rule ws k).answers j
    answers_of j = ap (λ (o : Option Rule). answer_in o j) (nth_counted (decoded_rule ws) (rules_in (heading ws)) k h)

    pub answer_past : (j : ℕ) → answers_in (rule_word ws k) ≤ j → answer_at (decoded ws) k j ≡ None
    answer_past j l = answers_of j ∙ nth_counted_past (λ i. answer_of (answer_word ws k i)) (answers_in (rule_word ws k)) j l

    pub answer_told : (j : ℕ) → j < answers_in (rule_word ws k) → answer_at (decoded ws) k j ≡ Some (answer_of (answer_word ws k j))
    answer_told j l = answers_of j ∙ nth_counted (λ i. answer_of (answer_word ws k i)) (answers_in (rule_word ws k)) j l

    pub few_answers : accepted ws ≡ true → answers_in (rule_word ws k) ≤ 8
    few_answers ok = (rule_parts (modes_in (heading ws)) (screens_in (heading ws)) (rule_word ws k) ((checked ws ok).rules k h).word).few

-- what each question to an image is answered by
pub ruleset questions = (rule_count, rule_past, rule_told, no_answer_past, answer_past, answer_told, few_answers)
