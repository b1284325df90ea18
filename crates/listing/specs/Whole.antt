-- The whole text for an input: the listing of its plan, or the line that tells why and where loading refused it.
use Rattle.std.specs.Prelude.{◌≡◌, ℕ, List, [], ◌∷◌, ◌++◌, take, Ok, Err, codes, decimal, Result, refl}
use Rattle.std.specs.Fmt.{digits}
use Rattle.rulebook.specs.Book.{Book}
use Rattle.image.specs.Plan.{image_length, decoded, outcome, first_some}
use Rattle.image.specs.Refusals.{number_of, place_of}
use Rattle.image.specs.declared.refusal.Refusal.{Refusal}
use Rattle.input.specs.Words.{words_of}
use Rattle.listing.specs.Text.{newline, listed}

-- A refused load is told by its number and its place.
abbrev pub refusal_line : Refusal → List ℕ
refusal_line r = codes "load !" ++ (decimal (number_of r) ++ (codes " " ++ (decimal (place_of r) ++ newline)))

-- After a load: the listing of the book, or the refusal's line alone.
abbrev pub load_text : Result ℕ Refusal → Book → List ℕ
load_text (Ok n) b = listed b
load_text (Err r) b = refusal_line r

-- The text for the words of a plan.
abbrev pub plan_text : List ℕ → List ℕ
plan_text ws = load_text (outcome ws) (decoded ws)

-- The first words of the input that are the plan's image.
abbrev pub image_of : List ℕ → List ℕ
image_of ws = take (image_length ws) ws

-- The text for the bytes of an input.
abbrev pub input_text : List ℕ → List ℕ
input_text bytes = plan_text (image_of (words_of bytes))

-- no byte at all
example_nothing : input_text [] ≡ codes "load !1 0\n"
unfolding digits
example_nothing = refl

-- one mode, one screen and no rules, and a part word that is dropped
example_blank : input_text (0x01 ∷ 0x01 ∷ 0x00 ∷ 0x10 ∷ 0xFF ∷ []) ≡ codes "modes 1, screens 1, rules 0\n"
unfolding digits first_some
example_blank = refl
