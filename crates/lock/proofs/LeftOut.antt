-- Laws of lists with elements left out.
use Rattle.std.proofs.Common.{◌≤◌, Bool, true, false, cond, List, [], ◌∷◌, ◌++◌, map, length, filter, arith}
use Rattle.std.specs.List.{flat_map}
use Rattle.lock.specs.Narrower.{LeavesOut}
use Rattle.lock.specs.Narrower.LeavesOut.{nothing, leaves, keeps}

module _ {X : Type 0} where
  pub left_out_length : {xs ys : List X} → LeavesOut xs ys → length xs ≤ length ys
  left_out_length nothing = omega arith
  left_out_length (leaves y l) = omega (arith, left_out_length l)
  left_out_length (keeps y l) = omega (arith, left_out_length l)

  pub left_out_append : {xs ys zs ws : List X} → LeavesOut xs ys → LeavesOut zs ws → LeavesOut (xs ++ zs) (ys ++ ws)
  left_out_append nothing m = m
  left_out_append (leaves y l) m = leaves y (left_out_append l m)
  left_out_append (keeps y l) m = keeps y (left_out_append l m)

  pub left_out_map : {Y : Type 0} (f : X → Y) {xs ys : List X} → LeavesOut xs ys → LeavesOut (map f xs) (map f ys)
  left_out_map f nothing = nothing
  left_out_map f (leaves y l) = leaves (f y) (left_out_map f l)
  left_out_map f (keeps y l) = keeps (f y) (left_out_map f l)

  pub left_out_joined : {I : Type 0} (f g : I → List X) → ((i : I) → LeavesOut (f i) (g i)) → (is : List I) → LeavesOut (flat_map f is) (flat_map g is)
  left_out_joined f g h [] = nothing
  left_out_joined f g h (i ∷ is) = left_out_append (h i) (left_out_joined f g h is)

  module _ (p : X → Bool) where
    -- a filter leaves out
    pub kept_leaves_out : (xs : List X) → LeavesOut (filter p xs) xs
    kept_leaves_out [] = nothing
    kept_leaves_out (x ∷ xs) =
        elim (p x) as (λ t. LeavesOut (cond t (x ∷ filter p xs) (filter p xs)) (x ∷ xs)) [
          | true ↦ keeps x (kept_leaves_out xs)
          | false ↦ leaves x (kept_leaves_out xs)
        ]

    -- and keeps less of less
    pub left_out_kept : {xs ys : List X} → LeavesOut xs ys → LeavesOut (filter p xs) (filter p ys)
    left_out_kept nothing = nothing
    left_out_kept (leaves {xs} {ys} y l) =
        elim (p y) as (λ t. LeavesOut (filter p xs) (cond t (y ∷ filter p ys) (filter p ys))) [ true ↦ leaves y (left_out_kept l) | false ↦ left_out_kept l ]
    left_out_kept (keeps {xs} {ys} y l) =
        elim (p y) as (λ t. LeavesOut (cond t (y ∷ filter p xs) (filter p xs)) (cond t (y ∷ filter p ys) (filter p ys))) [
          | true ↦ keeps y (left_out_kept l)
          | false ↦ left_out_kept l
        ]
