-- Which words are a plan, which book they say, and how a load of other words is refused.
use Rattle.std.specs.Prelude.{◌≡◌, ℕ, zero, suc, ◌+◌, ◌*◌, min, Bool, cond, List, [], ◌∷◌, map, length, is_ok, Some, None, Ok, Err, Option, Result, ◌==◌, nat_lt, slice_index, refl}
use Rattle.std.specs.List.{range_with_len}
use Rattle.rulebook.specs.Book.{Rule, Book}
use Rattle.image.specs.Layout.{modes_in, screens_in, rules_in, heading_good, mode_in, screen_in, key_in, answers_in, rule_good, answer_good, answer_of}
use Rattle.image.specs.declared.refusal.Refusal.{Refusal}
use Rattle.image.specs.declared.refusal.Refusal.TheVariants.{NoWords, BadHeading, WrongLength, BadRule, BadAnswer}

-- word 0
abbrev pub heading : List ℕ → ℕ
heading ws = slice_index ws 0

-- how many words of an input are the image: the heading and nine for each rule that it counts, or all where there are fewer
abbrev pub image_length : List ℕ → ℕ
image_length ws = min (length ws) (1 + 9 * rules_in (heading ws))

-- a heading that counts no rules is an image by itself
example_alone : image_length (0x10000302 ∷ 5 ∷ 6 ∷ []) ≡ 1
example_alone = refl

-- one rule wants ten words, and two are there
example_short : image_length (0x10010302 ∷ 5 ∷ []) ≡ 2
example_short = refl

-- where the word of rule k stands: after the heading each rule takes nine words
abbrev pub rule_place : ℕ → ℕ
rule_place k = 1 + 9 * k

-- where the word of answer j of rule k stands
abbrev pub answer_place : ℕ → ℕ → ℕ
answer_place k j = 2 + 9 * k + j

abbrev pub rule_word : List ℕ → ℕ → ℕ
rule_word ws k = slice_index ws (rule_place k)

abbrev pub answer_word : List ℕ → ℕ → ℕ → ℕ
answer_word ws k j = slice_index ws (answer_place k j)

-- rule k as the words say it
abbrev pub decoded_rule : List ℕ → ℕ → Rule
decoded_rule ws k =
    record {
      key = key_in (rule_word ws k);
      mode = mode_in (rule_word ws k);
      screen = screen_in (rule_word ws k);
      answers = map (λ j. answer_of (answer_word ws k j)) (range_with_len 0 (answers_in (rule_word ws k)));
    }

-- the book that the words say
abbrev pub decoded : List ℕ → Book
decoded ws =
    record {
      modes = modes_in (heading ws);
      screens = screens_in (heading ws);
      rules = map (decoded_rule ws) (range_with_len 0 (rules_in (heading ws)));
    }

-- the first answer, or else the second
abbrev pub or_else : {R : Type 0} → Option R → Option R → Option R
or_else None r = r
or_else (Some x) r = Some x

-- the first of f i, f (i + 1) and so on, n of them in all, that is not none
unfoldable pub first_some : {R : Type 0} → (ℕ → Option R) → ℕ → ℕ → Option R
first_some f i zero = None
first_some f i (suc n) = or_else (f i) (first_some f (i + 1) n)

-- what is wrong with the word of answer j of rule k, if anything: a used word is a good answer word, an unused one is 0
abbrev pub answer_fault : List ℕ → ℕ → ℕ → Option Refusal
answer_fault ws k j =
    cond
    (cond (nat_lt j (answers_in (rule_word ws k))) (answer_good (modes_in (heading ws)) (screens_in (heading ws)) (answer_word ws k j)) (answer_word ws k j == 0))
    None
    (Some (BadAnswer (answer_place k j)))

-- what is wrong first in the eight answer words of rule k, if anything
abbrev pub answers_fault : List ℕ → ℕ → Option Refusal
answers_fault ws k = first_some (answer_fault ws k) 0 8

-- what is wrong first in the nine words of rule k, if anything
abbrev pub rule_fault : List ℕ → ℕ → Option Refusal
rule_fault ws k =
    cond (rule_good (modes_in (heading ws)) (screens_in (heading ws)) (rule_word ws k)) (answers_fault ws k) (Some (BadRule (rule_place k)))

-- what is wrong first after the heading, word by word, if anything
abbrev pub plan_fault : List ℕ → Option Refusal
plan_fault ws = first_some (rule_fault ws) 0 (rules_in (heading ws))

-- how a load of the words is refused, if it is
abbrev pub refusal_of : List ℕ → Option Refusal
refusal_of ws =
    cond (length ws == 0) (Some NoWords)
    (cond (heading_good (heading ws))
    (cond (length ws == 1 + 9 * rules_in (heading ws)) (plan_fault ws) (Some (WrongLength (length ws))))
    (Some BadHeading))

-- an answer, where nothing is wrong
abbrev pub unless : {X R : Type 0} → Option R → X → Result X R
unless None x = Ok x
unless (Some r) x = Err r

-- what a load of the words answers: the number of rules, or its refusal
abbrev pub outcome : List ℕ → Result ℕ Refusal
outcome ws = unless (refusal_of ws) (rules_in (heading ws))

-- the words are a plan
abbrev pub accepted : List ℕ → Bool
accepted ws = is_ok (outcome ws)
