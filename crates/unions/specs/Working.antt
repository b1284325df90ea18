-- Working lists of sets: what is added to one, and when it may outgrow its room.
use Rattle.std.specs.Prelude.{ℕ, ◌<◌, ◌⊎◌, List, [], length, Result, MatchResult}
use Rattle.std.specs.List.{AllByRecursion}
use Rattle.std.specs.declared.alloc.AllocError.{AllocError}
use Rattle.states.specs.Lists.{In, NoRepeats}

-- The second list has what the first has, and each number with the property, and nothing else.
pub record Adds (before after : List ℕ) (Has : ℕ → Type 0) : Type 0 where
  pub keeps : (X : ℕ) → In X before → In X after
  pub has : (X : ℕ) → Has X → In X after
  pub only : (X : ℕ) → In X after → In X before ⊎ Has X

-- The list has just the numbers with the property.
abbrev pub Lists : List ℕ → (ℕ → Type 0) → Type 0
Lists xs Has = Adds [] xs Has

-- More than 65,536 distinct numbers have the property.
pub record Crowded (Has : ℕ → Type 0) : Type 0 where
  pub sets : List ℕ
  pub distinct : NoRepeats sets
  pub each : AllByRecursion Has sets
  pub many : 65536 < length sets

-- What adding the numbers with a property to a list comes to: they are added, or memory was wanting, which it can be only where the list and they are more than 65,536.
abbrev pub Added : Result (Unit {0}) AllocError → List ℕ → List ℕ → (ℕ → Type 0) → Type 0
Added r before after Has = MatchResult r (λ _. Adds before after Has) (λ _. Crowded (λ X. In X before ⊎ Has X))
