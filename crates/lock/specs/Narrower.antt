-- How a book below a layer changes: rules are left out, and nothing else.
use Rattle.std.specs.Prelude.{◌≡◌, ℕ, List, [], ◌∷◌}
use Rattle.rulebook.specs.Book.{Book}

-- the first list is the second with some elements left out, in the same order
pub data LeavesOut {X : Type 0} : List X → List X → Type 0 where
  nothing : LeavesOut [] []
  leaves : {xs ys : List X} (y : X) → LeavesOut xs ys → LeavesOut xs (y ∷ ys)
  keeps : {xs ys : List X} (y : X) → LeavesOut xs ys → LeavesOut (y ∷ xs) (y ∷ ys)

-- The second book has the modes and the screens of the first, and lists its rules with some left out.
pub record Narrower (before after : Book) : Type 0 where
  pub modes : after.modes ≡ before.modes
  pub screens : after.screens ≡ before.screens
  pub rules : LeavesOut after.rules before.rules

-- the second of two rules is left out
example_left_out : LeavesOut {X = ℕ} (3 ∷ []) (3 ∷ 4 ∷ [])
example_left_out = keeps 3 (leaves 4 nothing)
