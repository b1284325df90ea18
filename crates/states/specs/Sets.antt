-- Sets of states as numbers. States are 0 to 63; bit q of the number, worth 2^q, says that state q belongs.
use Rattle.std.specs.Prelude.{◌≡◌, refl, Bool, true, false, cond, List, [], ◌∷◌, ℕ, zero, suc, ◌/◌, ◌%◌, ◌^◌, eqb, ltb}

-- whether state q belongs to the set; no number from 64 on is a state
abbrev pub holds : ℕ → ℕ → Bool
holds q X = cond (ltb q 64) (eqb (X / 2 ^ q % 2) 1) false

-- State q belongs to the set.
abbrev pub Member : ℕ → ℕ → Type 0
Member q X = holds q X ≡ true

-- Each member of the first set is a member of the second.
abbrev pub Within : ℕ → ℕ → Type 0
Within X Y = (q : ℕ) → Member q X → Member q Y

-- the set of state q alone; empty where there is no such state
abbrev pub only : ℕ → ℕ
only q = cond (ltb q 64) (2 ^ q) 0

-- the members below n, the highest first
abbrev pub below : ℕ → ℕ → List ℕ
below zero X = []
below (suc n) X = cond (holds n X) (n ∷ below n X) (below n X)

-- whether a state below n belongs to the set
abbrev pub holds_below : ℕ → ℕ → Bool
holds_below zero X = false
holds_below (suc n) X = cond (holds n X) true (holds_below n X)

-- how many of the states below n belong to the set
abbrev pub count_below : ℕ → ℕ → ℕ
count_below zero X = 0
count_below (suc n) X = cond (holds n X) (suc (count_below n X)) (count_below n X)

-- 10 is the set of 1 and 3
example_members : below 64 10 ≡ 3 ∷ 1 ∷ []
example_members = refl

example_not : holds 0 10 ≡ false
example_not = refl

example_only : only 5 ≡ 32
example_only = refl

example_count : count_below 64 10 ≡ 2
example_count = refl
