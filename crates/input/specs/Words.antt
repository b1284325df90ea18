-- The words of an input, by its bytes.
-- An input is a list of bytes; a word is a number of four bytes, least first.
use Rattle.std.specs.Prelude.{◌≡◌, ℕ, ◌+◌, ◌*◌, ◌/◌, ◌^◌, min, List, [], ◌∷◌, map, length, slice_index, refl}
use Rattle.std.specs.List.{range_with_len}

-- Word i is the number whose bytes, least first, are bytes 4i to 4i + 3.
abbrev pub word_at : List ℕ → ℕ → ℕ
word_at bytes i =
    slice_index bytes (4 * i) + 2 ^ 8 * slice_index bytes (4 * i + 1) + 2 ^ 16 * slice_index bytes (4 * i + 2) + 2 ^ 24 * slice_index bytes (4 * i + 3)

-- As many words are taken as the bytes fill, and at most 13,314.
abbrev pub whole_words : List ℕ → ℕ
whole_words bytes = min (length bytes / 4) 13314

-- The words of an input are its words from the first on, as many as are taken.
abbrev pub words_of : List ℕ → List ℕ
words_of bytes = map (word_at bytes) (range_with_len 0 (whole_words bytes))

-- five bytes are one word, and the fifth is dropped
example_words : words_of (0x02 ∷ 0x03 ∷ 0x04 ∷ 0x10 ∷ 0x07 ∷ []) ≡ 0x10040302 ∷ []
example_words = refl
