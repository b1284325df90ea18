-- From which stacks a goal can be forced, whatever the radio answers.
-- A stack is a mode with a list of screens, top first. A goal says of each stack whether it is in it.
use Rattle.std.specs.Prelude.{◌≡◌, ℕ, zero, suc, ◌⊎◌, List, [], ◌∷◌, Some}
use Rattle.std.specs.List.{AllByRecursion, slice_get}
use Rattle.rulebook.specs.Book.{Book, Rule}
use Rattle.rulebook.specs.declared.told.Answer.{Answer}
use Rattle.rulebook.specs.declared.told.Screens.{Screens}
use Rattle.rulebook.specs.declared.told.Screens.TheVariants.{Gone, One, Two}

-- the list of screens with these in place of its top, which is gone already
abbrev pub onto : Screens → List ℕ → List ℕ
onto Gone w = w
onto (One a) w = a ∷ w
onto (Two a b) w = a ∷ b ∷ w

-- Rule number k of the book applies to the stack of this mode with a on top.
pub record Applies (b : Book) (k : ℕ) (r : Rule) (p a : ℕ) : Type 0 where
  pub listed : slice_get b.rules k ≡ Some r
  pub mode : r.mode ≡ p
  pub screen : r.screen ≡ a

-- Some rule applies to the stack, and each of its answers leads to a stack with the property. To an empty list no rule applies.
abbrev pub Presses : Book → (ℕ → List ℕ → Type 0) → ℕ → List ℕ → Type 0
Presses b Then p [] = ⊥
Presses b Then p (a ∷ w) = (k : ℕ) × (r : Rule) × Applies b k r p a × AllByRecursion (λ (x : Answer). Then x.mode (onto x.screens w)) r.answers

-- The goal is forced from the stack within n presses: the stack is in the goal, or the goal is forced with a press less, or some rule applies all of whose answers lead to stacks from which it is forced with a press less.
abbrev pub Forced : Book → (ℕ → List ℕ → Type 0) → ℕ → ℕ → List ℕ → Type 0
Forced b Goal zero p w = Goal p w
Forced b Goal (suc n) p w = Forced b Goal n p w ⊎ Presses b (Forced b Goal n) p w

-- Some count of presses forces the goal.
abbrev pub CanForce : Book → (ℕ → List ℕ → Type 0) → ℕ → List ℕ → Type 0
CanForce b Goal p w = (n : ℕ) × Forced b Goal n p w
