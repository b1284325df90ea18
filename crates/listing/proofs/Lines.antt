-- What the text has after the first answers of a rule, and after the lines of the first rules.
use Rattle.std.proofs.Common.{◌≡◌, ℕ, zero, suc, ◌+◌, ◌≤◌, List, [], ◌∷◌, ◌++◌, length, take, Some, None, codes, decimal, Option, refl, add-one, append_assoc, append-nil, arith}
use Rattle.std.proofs.lemmas.Grind.{put_two}
use Rattle.std.proofs.lemmas.List.{take_all}
use Rattle.std.specs.List.{slice_get}
use Rattle.rulebook.specs.Book.{Rule, head_of, head_in, answer_in}
use Rattle.rulebook.specs.declared.told.Answer.{Answer}
use Rattle.rulebook.specs.declared.told.RuleHead.{RuleHead}
use Rattle.listing.specs.Pieces.{answers_in, line_in}
use Rattle.listing.specs.Text.{newline, answer_text, answers_text, rule_lines}

-- the text of an answer after one space, where there is one
abbrev pub next_text : Option Answer → List ℕ
next_text None = []
next_text (Some a) = codes " " ++ answer_text a

-- the first answers of a rule and the next one
pub answers_more : (o : Option Rule) (j : ℕ) → answers_text (take (j + 1) (answers_in o)) ≡ answers_text (take j (answers_in o)) ++ next_text (answer_in o j)
answers_more o j = rw (add-one j) (within o)
  where
    more : (xs : List Answer) (j : ℕ) → answers_text (take (suc j) xs) ≡ answers_text (take j xs) ++ next_text (slice_get xs j)
    more [] zero = refl
    more [] (suc j) = refl
    more (x ∷ xs) zero = grind (arith, append-nil)
    more (x ∷ xs) (suc j) = grind (arith, append_assoc, more xs j)

    within : (o : Option Rule) → answers_text (take (suc j) (answers_in o)) ≡ answers_text (take j (answers_in o)) ++ next_text (answer_in o j)
    within None = more [] j
    within (Some r) = more r.answers j

-- the line of a rule by what is told of it, where no answer is left after the first n
pub line_told : (k : ℕ) (o : Option Rule) (head : RuleHead) (n : ℕ) → Some head ≡ head_in o → head.answers ≤ n → line_in k o ≡ codes "rule " ++ decimal k ++ codes ": key " ++ decimal head.key ++ codes ", mode " ++ decimal head.mode ++ codes ", screen " ++ decimal head.screen ++ codes ", answers" ++ answers_text (take n (answers_in o)) ++ newline
line_told k None head n told all = cc
line_told k (Some r) head n told all = let same : head ≡ head_of r = cc in rw (same, take_all n r.answers (rw same at all)) refl

-- the lines of the rules before rule i, numbered from k, and its own
pub lines_more : (k : ℕ) (rules : List Rule) (i : ℕ) → rule_lines k (take (i + 1) rules) ≡ rule_lines k (take i rules) ++ line_in (k + i) (slice_get rules i)
lines_more k rules i = rw (add-one i) (more k rules i)
  where
    more : (k : ℕ) (rules : List Rule) (i : ℕ) → rule_lines k (take (suc i) rules) ≡ rule_lines k (take i rules) ++ line_in (k + i) (slice_get rules i)
    more k [] zero = refl
    more k [] (suc i) = refl
    more k (r ∷ rest) zero = let here : k + 0 ≡ k = omega arith in rw here (grind (arith, append-nil))
    more k (r ∷ rest) (suc i) =
        let later : k + 1 + i ≡ k + suc i = omega arith in
        let rest_more = more (k + 1) rest i in
        grind (arith, append_assoc, rw later at rest_more)

-- the facts by which a turn of a loop adds to what has been written
pub ruleset written = (append_assoc, append-nil, put_two, answers_more, lines_more)
