-- Books whose rules are picked by place out of another, and the proof that they are well formed.
-- A rule book gives that proof with its meaning, so it stands here and not among the proofs.
use Rattle.std.specs.Prelude.{◌≡◌, ℕ, zero, suc, ◌+◌, ◌-◌, ◌≤◌, true, List, [], ◌∷◌, length}
use Rattle.std.proofs.Common.{arith}
use Rattle.std.specs.Option.{option_to_list}
use Rattle.std.specs.List.{AllByRecursion, slice_get}
use Rattle.std.proofs.ByRecursion.{All-append, all_kept_by}
use Rattle.std.proofs.lemmas.List.{length-append}
use Rattle.std.proofs.lemmas.List.Sums.{length-filter, count_by-le-length}
use Rattle.std.proofs.lemmas.Bool.Decides.{nat_tests}
use Rattle.rulebook.specs.Book.{Book, RuleFits, WellFormed}
use Rattle.lock.specs.Locked.{free, locked}
use Rattle.lock.specs.Places.{rises_from, picks}

-- The book with the rules that stand at these places.
abbrev pub picked : List ℕ → Book → Book
picked ps b = record { modes = b.modes; screens = b.screens; rules = picks ps b.rules }

-- the first place of a rising list is no lower than the list may begin, and the others rise from after it
pub rises_parts : (i p : ℕ) (ps : List ℕ) → rises_from i (p ∷ ps) ≡ true → (i ≤ p) × (rises_from (p + 1) ps ≡ true)
rises_parts i p ps e = (grind (arith, nat_tests), grind (arith, nat_tests))

module _ {X : Type 0} where
  -- what stands at one place of a list is one element, or nothing beyond its end
  one_at_most : (xs : List X) (p : ℕ) → (length (option_to_list (slice_get xs p)) ≤ 1) × (length (option_to_list (slice_get xs p)) ≤ length xs - p)
  one_at_most [] p = (omega arith, omega arith)
  one_at_most (x ∷ xs) zero = (omega arith, omega arith)
  one_at_most (x ∷ xs) (suc p) = let rest = one_at_most xs p in (rest.0, omega (arith, rest.1))

  -- rising places pick no more than there is from their beginning on
  pub picks_few : (i : ℕ) (ps : List ℕ) (xs : List X) → rises_from i ps ≡ true → length (picks ps xs) ≤ length xs - i
  picks_few i [] xs e = omega arith
  picks_few i (p ∷ ps) xs e =
      let parts = rises_parts i p ps e in
      let one = one_at_most xs p in
      let rest = picks_few (p + 1) ps xs parts.1 in
      omega (arith, parts.0, one.0, one.1, rest, length-append (option_to_list (slice_get xs p)) (picks ps xs))

  -- what holds of each element holds of what stands at one place
  all_at : (P : X → Type 0) (xs : List X) (p : ℕ) → AllByRecursion P xs → AllByRecursion P (option_to_list (slice_get xs p))
  all_at P [] p all = tt
  all_at P (x ∷ xs) zero all = (all.0, tt)
  all_at P (x ∷ xs) (suc p) all = all_at P xs p all.1

  -- what holds of each element holds of each that is picked
  pub picks_all : (P : X → Type 0) (ps : List ℕ) (xs : List X) → AllByRecursion P xs → AllByRecursion P (picks ps xs)
  picks_all P [] xs all = tt
  picks_all P (p ∷ ps) xs all = All-append P (option_to_list (slice_get xs p)) (picks ps xs) (all_at P xs p all) (picks_all P ps xs all)

-- rising places pick a well-formed book out of a well-formed one
pub picked_formed : (ps : List ℕ) (b : Book) → rises_from 0 ps ≡ true → WellFormed b → WellFormed (picked ps b)
picked_formed ps b e formed =
    record {
      some_mode = formed.some_mode;
      few_modes = formed.few_modes;
      some_screen = formed.some_screen;
      few_screens = formed.few_screens;
      few_rules = omega (arith, picks_few 0 ps b.rules e, formed.few_rules);
      rules = picks_all (RuleFits b.modes b.screens) ps b.rules formed.rules;
    }

-- A lock over a well-formed book means a well-formed one.
pub locked_formed : (keys : List ℕ) (b : Book) → WellFormed b → WellFormed (locked keys b)
locked_formed keys b formed =
    record {
      some_mode = formed.some_mode;
      few_modes = formed.few_modes;
      some_screen = formed.some_screen;
      few_screens = formed.few_screens;
      few_rules = omega (arith, length-filter (free keys) b.rules, count_by-le-length (free keys) b.rules, formed.few_rules);
      rules = all_kept_by (free keys) (RuleFits b.modes b.screens) b.rules formed.rules;
    }
