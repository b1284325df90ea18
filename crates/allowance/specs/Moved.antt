-- Modes, answers and rules of a book below an allowance, with so many presses of the counted key left.
use Rattle.std.specs.Prelude.{ℕ, ◌+◌, ◌-◌, ◌*◌, cond, map, ◌==◌}
use Rattle.rulebook.specs.Book.{Rule}
use Rattle.rulebook.specs.declared.told.Answer.{Answer}

-- the number of mode m with l left, over a book of P modes
abbrev pub mode_with : ℕ → ℕ → ℕ → ℕ
mode_with P l m = m + P * l

-- an answer that goes on with l left
abbrev pub answer_with : ℕ → ℕ → Answer → Answer
answer_with P l a = record { mode = mode_with P l a.mode; screens = a.screens }

-- how many are left after a press of the key with l left: one fewer where it is the counted one
abbrev pub left_after : ℕ → ℕ → ℕ → ℕ
left_after counted key l = cond (key == counted) (l - 1) l

-- a rule with l left
abbrev pub rule_with : ℕ → ℕ → ℕ → Rule → Rule
rule_with counted P l r =
    record {
      key = r.key;
      mode = mode_with P l r.mode;
      screen = r.screen;
      answers = map (answer_with P (left_after counted r.key l)) r.answers;
    }
