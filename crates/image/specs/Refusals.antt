-- The number and the place by which a refused load is told.
use Rattle.std.specs.Prelude.{ℕ}
use Rattle.image.specs.declared.refusal.Refusal.{Refusal}
use Rattle.image.specs.declared.refusal.Refusal.TheVariants.{NoWords, BadHeading, WrongLength, BadRule, BadAnswer}

-- 1: no word, or a wrong length; 2: a bad heading; 3: a bad rule word; 4: a bad answer word
abbrev pub number_of : Refusal → ℕ
number_of NoWords = 1
number_of BadHeading = 2
number_of (WrongLength n) = 1
number_of (BadRule w) = 3
number_of (BadAnswer w) = 4

-- the number of the word at fault, counted from 0; for refusal 1 the number of words
abbrev pub place_of : Refusal → ℕ
place_of NoWords = 0
place_of BadHeading = 0
place_of (WrongLength n) = n
place_of (BadRule w) = w
place_of (BadAnswer w) = w
