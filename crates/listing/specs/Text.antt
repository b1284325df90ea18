-- The text that shows a book to a person: a first line, then a line for each rule.
-- A text is the list of its bytes.
use Rattle.std.specs.Prelude.{◌≡◌, ℕ, ◌+◌, List, [], ◌∷◌, ◌++◌, length, codes, decimal, refl}
use Rattle.std.specs.Fmt.{digits}
use Rattle.rulebook.specs.Book.{Book, Rule}
use Rattle.rulebook.specs.declared.told.Answer.{Answer}
use Rattle.rulebook.specs.declared.told.Screens.{Screens}
use Rattle.rulebook.specs.declared.told.Screens.TheVariants.{Gone, One, Two}

-- Each line ends with this byte.
abbrev pub newline : List ℕ
newline = 0x0A ∷ []

-- The screens of an answer, the new top first, or the word none.
abbrev pub screens_text : Screens → List ℕ
screens_text Gone = codes "none"
screens_text (One a) = decimal a
screens_text (Two a b) = decimal a ++ codes ", " ++ decimal b

-- An answer, in brackets: its mode and its screens.
abbrev pub answer_text : Answer → List ℕ
answer_text a = codes "(" ++ decimal a.mode ++ codes ": " ++ screens_text a.screens ++ codes ")"

-- Answers, each after one space.
abbrev pub answers_text : List Answer → List ℕ
answers_text [] = []
answers_text (a ∷ rest) = codes " " ++ answer_text a ++ answers_text rest

-- The line of a rule: its number, its key, its mode, its screen and its answers.
abbrev pub rule_line : ℕ → Rule → List ℕ
rule_line k r =
    codes "rule " ++ decimal k ++ codes ": key " ++ decimal r.key ++ codes ", mode " ++ decimal r.mode ++ codes ", screen " ++ decimal r.screen ++ codes ", answers" ++ answers_text r.answers
    ++ newline

-- The lines of rules that are numbered from k on.
abbrev pub rule_lines : ℕ → List Rule → List ℕ
rule_lines k [] = []
rule_lines k (r ∷ rest) = rule_line k r ++ rule_lines (k + 1) rest

-- The first line: how many modes, screens and rules the book has.
abbrev pub first_line : Book → List ℕ
first_line b = codes "modes " ++ (decimal b.modes ++ (codes ", screens " ++ (decimal b.screens ++ (codes ", rules " ++ (decimal (length b.rules) ++ newline)))))

-- The text of a book: the first line, then a line for each rule, numbered from 0.
abbrev pub listed : Book → List ℕ
listed b = first_line b ++ rule_lines 0 b.rules

-- a book of two modes, three screens and two rules
example_listed :
    listed
    record {
      modes = 2;
      screens = 3;
      rules =
          record { key = 1; mode = 0; screen = 0; answers = record { mode = 0; screens = Two 1 0 } ∷ [] }
          ∷ record { key = 12; mode = 1; screen = 2; answers = record { mode = 1; screens = One 2 } ∷ record { mode = 0; screens = Gone } ∷ [] }
          ∷ [];
    }
    ≡ codes "modes 2, screens 3, rules 2\nrule 0: key 1, mode 0, screen 0, answers (0: 1, 0)\nrule 1: key 12, mode 1, screen 2, answers (1: 2) (0: none)\n"
unfolding digits
example_listed = refl
