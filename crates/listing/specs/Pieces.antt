-- The pieces of the text that come from a rule, where there may be no rule.
-- A book's list of rules has none beyond its end.
use Rattle.std.specs.Prelude.{ℕ, List, [], Some, None, Option}
use Rattle.rulebook.specs.Book.{Rule}
use Rattle.rulebook.specs.declared.told.Answer.{Answer}
use Rattle.listing.specs.Text.{rule_line}

-- The answers of a rule, and none where there is no rule.
abbrev pub answers_in : Option Rule → List Answer
answers_in None = []
answers_in (Some r) = r.answers

-- The line of a rule, and nothing where there is no rule.
abbrev pub line_in : ℕ → Option Rule → List ℕ
line_in k None = []
line_in k (Some r) = rule_line k r
