-- The words that a writer of the format writes for a book.
use Rattle.std.specs.Prelude.{◌≡◌, ℕ, ◌+◌, ◌-◌, ◌*◌, ◌^◌, ◌≤◌, true, List, [], ◌∷◌, ◌++◌, map, length, replicate, Ok, refl}
use Rattle.std.specs.List.{flat_map}
use Rattle.rulebook.specs.declared.told.Answer.{Answer}
use Rattle.rulebook.specs.declared.told.Screens.TheVariants.{Two}
use Rattle.rulebook.specs.Book.{Rule, Book, WellFormed}
use Rattle.rulebook.specs.Told.{count_of, first_screen, second_screen}
use Rattle.image.specs.Plan.{decoded, outcome, accepted}

-- kind 1, the number of rules, G and P
abbrev pub heading_word_of : Book → ℕ
heading_word_of b = 2 ^ 28 * 1 + 2 ^ 16 * length b.rules + 2 ^ 8 * b.screens + b.modes

-- kind 2, the number of answers, the key, the screen and the mode
abbrev pub rule_word_of : Rule → ℕ
rule_word_of r = 2 ^ 28 * 2 + 2 ^ 22 * length r.answers + 2 ^ 16 * r.key + 2 ^ 8 * r.screen + r.mode

-- kind 3, the second screen, the first screen, the number of screens and the mode
abbrev pub answer_word_of : Answer → ℕ
answer_word_of a = 2 ^ 28 * 3 + 2 ^ 18 * second_screen a.screens + 2 ^ 10 * first_screen a.screens + 2 ^ 8 * count_of a.screens + a.mode

-- the nine words of a rule: its rule word, its answer words, and zeros for the answers that it lacks
abbrev pub rule_words : Rule → List ℕ
rule_words r = rule_word_of r ∷ (map answer_word_of r.answers ++ replicate (8 - length r.answers) 0)

-- the heading, and the words of each rule in order
abbrev pub encoded : Book → List ℕ
encoded b = heading_word_of b ∷ flat_map rule_words b.rules

-- a book that an image can hold: well formed, with at most `most` rules
pub record Holds (most : ℕ) (b : Book) : Type 0 where
  pub formed : WellFormed b
  pub few : length b.rules ≤ most

-- every such book, once written, is accepted and read back
abbrev pub ReadsBack : ℕ → Type 0
ReadsBack most = (b : Book) → Holds most b → (outcome (encoded b) ≡ Ok (length b.rules)) × (decoded (encoded b) ≡ b)

-- words that are accepted are the very words that are written for the book they say
abbrev pub WritesBack : Type 0
WritesBack = (ws : List ℕ) → accepted ws ≡ true → encoded (decoded ws) ≡ ws

-- a book with a rule of one answer
example_rule : Rule
example_rule = record { key = 1; mode = 0; screen = 0; answers = record { mode = 0; screens = Two 1 0 } ∷ [] }

-- key 1, mode 0, screen 0, answer (0: 1, 0)
example_words : rule_words example_rule ≡ 0x20410000 ∷ 0x30000600 ∷ 0 ∷ 0 ∷ 0 ∷ 0 ∷ 0 ∷ 0 ∷ 0 ∷ []
unfolding example_rule
example_words = refl

-- P = 2, G = 3 and four rules
example_heading : heading_word_of (record { modes = 2; screens = 3; rules = example_rule ∷ example_rule ∷ example_rule ∷ example_rule ∷ [] }) ≡ 0x10040302
example_heading = refl
