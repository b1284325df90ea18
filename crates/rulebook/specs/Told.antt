-- The numbers that stand for an answer: its mode, its screen count and two screens.
use Rattle.std.specs.Prelude.{◌≡◌, ℕ, refl}
use Rattle.rulebook.specs.declared.told.Screens.{Screens}
use Rattle.rulebook.specs.declared.told.Screens.TheVariants.{Gone, One, Two}
use Rattle.rulebook.specs.declared.told.Answer.{Answer}
use Rattle.rulebook.specs.declared.told.ToldAnswer.{ToldAnswer}

-- how many screens there are
abbrev pub count_of : Screens → ℕ
count_of Gone = 0
count_of (One a) = 1
count_of (Two a b) = 2

-- the first of them, the new top; 0 where there is none
abbrev pub first_screen : Screens → ℕ
first_screen Gone = 0
first_screen (One a) = a
first_screen (Two a b) = a

-- the second of them, below the first; 0 where there is none
abbrev pub second_screen : Screens → ℕ
second_screen Gone = 0
second_screen (One a) = 0
second_screen (Two a b) = b

-- the numbers that tell an answer
abbrev pub told_of : Answer → ToldAnswer
told_of a = record { mode = a.mode; count = count_of a.screens; first = first_screen a.screens; second = second_screen a.screens }

-- one screen: the second is absent
example_told : told_of (record { mode = 1; screens = One 2 }) ≡ record { mode = 1; count = 1; first = 2; second = 0 }
example_told = refl
