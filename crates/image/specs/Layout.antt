-- The layout of a plan's words. A word has 32 bits; bits 31 to 28 are its kind.
-- A word is good where it keeps to its layout and to the bounds of a book with P modes and G screens.
use Rattle.std.specs.Prelude.{◌≡◌, ℕ, ◌/◌, ◌%◌, ◌^◌, Bool, true, false, cond, ◌&&◌, ◌==◌, nat_le, nat_lt, refl}
use Rattle.rulebook.specs.declared.told.Answer.{Answer}
use Rattle.rulebook.specs.declared.told.RuleHead.{RuleHead}
use Rattle.rulebook.specs.declared.told.Screens.{Screens}
use Rattle.rulebook.specs.declared.told.Screens.TheVariants.{Gone, One, Two}

-- the bits of a word from bit `low` up, `width` of them, as a number
abbrev pub field : ℕ → ℕ → ℕ → ℕ
field w low width = w / 2 ^ low % 2 ^ width

-- bits 31 to 28
abbrev pub kind_of : ℕ → ℕ
kind_of w = w / 2 ^ 28

-- Heading: P in bits 7 to 0, G in bits 15 to 8, the number of rules in bits 27 to 16.
abbrev pub modes_in : ℕ → ℕ
modes_in w = field w 0 8

abbrev pub screens_in : ℕ → ℕ
screens_in w = field w 8 8

abbrev pub rules_in : ℕ → ℕ
rules_in w = field w 16 12

-- kind 1, P from 1 to 60, G from 1 to 128, at most 1,024 rules
abbrev pub heading_good : ℕ → Bool
heading_good w =
    (kind_of w == 1) && (nat_le 1 (modes_in w) && (nat_le (modes_in w) 60 && (nat_le 1 (screens_in w) && (nat_le (screens_in w) 128 && nat_le (rules_in w) 1024))))

-- Rule and answer words: a mode in bits 7 to 0; bits 27 and 26 have no meaning and are 0.
abbrev pub mode_in : ℕ → ℕ
mode_in w = field w 0 8

abbrev pub spare_in : ℕ → ℕ
spare_in w = field w 26 2

-- Rule word: the screen in bits 15 to 8, the key in bits 21 to 16, the number of answers in bits 25 to 22.
abbrev pub screen_in : ℕ → ℕ
screen_in w = field w 8 8

abbrev pub key_in : ℕ → ℕ
key_in w = field w 16 6

abbrev pub answers_in : ℕ → ℕ
answers_in w = field w 22 4

-- the rule that a rule word tells, without its answers
abbrev pub head_of : ℕ → RuleHead
head_of w = record { key = key_in w; mode = mode_in w; screen = screen_in w; answers = answers_in w }

-- kind 2, mode below P, screen below G, 1 to 8 answers
abbrev pub rule_good : ℕ → ℕ → ℕ → Bool
rule_good P G w =
    (kind_of w == 2) && (spare_in w == 0 && (nat_lt (mode_in w) P && (nat_lt (screen_in w) G && (nat_le 1 (answers_in w) && nat_le (answers_in w) 8))))

-- Answer word: the number of screens in bits 9 to 8, the first in bits 17 to 10, the second in bits 25 to 18.
abbrev pub count_in : ℕ → ℕ
count_in w = field w 8 2

abbrev pub first_in : ℕ → ℕ
first_in w = field w 10 8

abbrev pub second_in : ℕ → ℕ
second_in w = field w 18 8

-- a screen that is there is below G, and the field of an absent one is 0
abbrev pub screen_good : ℕ → Bool → ℕ → Bool
screen_good G present a = cond present (nat_lt a G) (a == 0)

-- kind 3, mode below P, at most two screens, each good
abbrev pub answer_good : ℕ → ℕ → ℕ → Bool
answer_good P G w =
    (kind_of w == 3) && (spare_in w == 0 && (nat_lt (mode_in w) P && (nat_le (count_in w) 2 && (screen_good G (nat_lt 0 (count_in w)) (first_in w) && screen_good G (nat_lt 1 (count_in w)) (second_in w)))))

-- the screens that an answer word tells
abbrev pub screens_of : ℕ → ℕ → ℕ → Screens
screens_of count a b = cond (count == 0) Gone (cond (count == 1) (One a) (Two a b))

-- the answer that an answer word tells
abbrev pub answer_of : ℕ → Answer
answer_of w = record { mode = mode_in w; screens = screens_of (count_in w) (first_in w) (second_in w) }

-- key 1 at mode 0 and screen 0 with one answer; the same with bit 26 set
example_rule : rule_good 2 3 0x20410000 ≡ true
example_rule = refl

example_spare_bit : rule_good 2 3 0x24410000 ≡ false
example_spare_bit = refl

-- mode 0 with screen 1 on top of screen 0
example_answer : answer_of 0x30000600 ≡ record { mode = 0; screens = Two 1 0 }
example_answer = refl

-- no screen is told, and yet a first screen stands there
example_absent : answer_good 2 3 0x30000400 ≡ false
example_absent = refl
