-- A lock whose places were gathered lists the rules whose keys are free.
use Rattle.std.proofs.Common.{◌≡◌, ℕ, List, [], ◌∷◌, filter, refl, ap, ◌∙◌}
use Rattle.std.proofs.lemmas.Grind.{common_steps}
use Rattle.rulebook.specs.Book.{Book, Rule}
use Rattle.lock.specs.Formed.{picked}
use Rattle.lock.specs.Locked.{free, locked}
use Rattle.lock.specs.Places.{places_of}
use Rattle.lock.proofs.Standing.{picks_places, places_more}

abbrev pub book_of : ℕ → ℕ → List Rule → Book
book_of modes screens rules = record { modes = modes; screens = screens; rules = rules }

pub picked_locked : (places keys : List ℕ) (b : Book) → places ≡ places_of (free keys) b.rules → picked places b ≡ locked keys b
picked_locked places keys b e =
    ap (λ (ps : List ℕ). picked ps b) e ∙ ap (book_of b.modes b.screens) (picks_places (free keys) b.rules)

-- where no key is locked every rule is listed
pub locked_none : (b : Book) → locked [] b ≡ b
locked_none b = ap (book_of b.modes b.screens) (all_free b.rules)
  where
    all_free : (rules : List Rule) → filter (free []) rules ≡ rules
    all_free [] = refl
    all_free (r ∷ rest) = ap (λ (rs : List Rule). r ∷ rs) (all_free rest)

-- what `refill` rests on
pub ruleset refilled = (picked_locked, places_more, common_steps)
