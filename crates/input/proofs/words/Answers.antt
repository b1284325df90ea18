use Rattle.std.proofs.Common.{rules, ◌≡◌, ℕ, zero, suc, ◌+◌, ◌*◌, ◌<◌, ◌≤◌, ◌/◌, min, List, ◌∷◌, take, drop, map, length, slice_index, w32, refl, ap, ◌∙◌, arith, get_or-take, get_or-drop, drop-drop}
use native.Mathlib.Numerals.{unary_clauses}
use Rattle.std.specs.Int.{from_le_bytes}
use Rattle.std.specs.List.{range_with_len}
use Rattle.std.specs.Simd.{first_chunks}
use Rattle.std.proofs.Math.Nat.{suc-min-suc}
use Rattle.std.proofs.Math.Seq.{take-nil}
use Rattle.std.proofs.lemmas.Iterator.{YieldsList-from_slice, YieldsList-from_take, YieldsList-from_map, items_from_collect}
use Rattle.input.specs.Words.{word_at, words_of}
use Rattle.input.proofs.words.Goals as goal

-- of the first k groups, the first m are the first of them all
take_groups : {X : Type 0} (n m k : ℕ) (xs : List X) → take m (first_chunks n k xs) ≡ first_chunks n (min k m) xs
take_groups n m zero xs = simp unary_clauses (take-nil m)
take_groups n zero (suc k) xs = simp unary_clauses refl
take_groups {X} n (suc m) (suc k) xs = rw (suc-min-suc k m) (ap (λ (groups : List (List X)). take n xs ∷ groups) (take_groups n m k (drop n xs)))

-- a group of four bytes is a word
word_of_group : (bytes : List ℕ) (i : ℕ) → 4 * i + 4 ≤ length bytes → from_le_bytes w32 (take 4 (drop (4 * i) bytes)) ≡ word_at bytes i
word_of_group bytes i h =
    let group : List ℕ = take 4 (drop (4 * i) bytes) in
    let value : from_le_bytes w32 group ≡ slice_index group 0 + slice_index group 1 * 256 + slice_index group 2 * 65536 + slice_index group 3 * 16777216 = refl in
    let at : (j k : ℕ) → j < 4 → 4 * i + j ≡ k → slice_index group j ≡ slice_index bytes k =
    λ j k l e. get_or-take 4 (drop (4 * i) bytes) j 0 l ∙ get_or-drop (4 * i) bytes j 0 ∙ ap (λ (n : ℕ). slice_index bytes n) e in
    value ∙ omega (arith, at 0 (4 * i) (omega arith) (omega arith), at 1 (4 * i + 1) (omega arith) (omega arith), at 2 (4 * i + 2) (omega arith) (omega arith), at 3 (4 * i + 3) (omega arith) (omega arith))

words_of_groups : (bytes : List ℕ) (i n : ℕ) → 4 * (i + n) ≤ length bytes → map (λ w. from_le_bytes w32 w) (first_chunks 4 n (drop (4 * i) bytes)) ≡ map (word_at bytes) (range_with_len i n)
words_of_groups bytes i zero h = refl
words_of_groups bytes i (suc n) h =
    let here = word_of_group bytes i (omega arith) in
    let next : 4 * (i + 1) ≡ 4 * i + 4 = omega arith in
    let rest = rw (next, ← drop-drop 4 (4 * i) bytes) at (words_of_groups bytes (i + 1) n (omega arith)) in
    cc

-- as many groups as an input has, and at most 13,314, are its words
words_taken : (bytes : List ℕ) (groups : List (List ℕ)) (n : ℕ) → groups ≡ first_chunks 4 (length bytes / 4) bytes → n ≡ 13314 → map (λ w. from_le_bytes w32 w) (take n groups) ≡ words_of bytes
words_taken bytes groups n e most =
    rw (e, most, take_groups 4 13314 (length bytes / 4) bytes) (words_of_groups bytes 0 (min (length bytes / 4) 13314) (omega arith))

pub returns : goal.returns
returns c =
    let most : c.take.result.n ≡ 13314 = omega arith in
    let all = items_from_collect c.collect.result c.collect.ensures.ran (YieldsList-from_map _ (λ (w : List ℕ). from_le_bytes w32 w) (YieldsList-from_take c.take.result.n (YieldsList-from_slice c.as_chunks.result.0.now (cc)) (cc)) (cc) (λ x r q k. search rules)) in
    rw (← words_taken c.args.bytes.now c.as_chunks.result.0.now c.take.result.n c.as_chunks.ensures.front most) all
