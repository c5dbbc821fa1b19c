-- How a cell's value is kept in its word: unchanged or, if the cell is 32 bits wide, in the upper
-- half above zeros. So a sum wraps when the word does.
use Rattle.std.specs.Prelude.{◌≡◌, ℕ, suc, ◌*◌, ◌/◌, ◌^◌, ◌<◌, nat_lt, if◌then◌else◌}
use Rattle.std.specs.Prelude.{List, [], ◌∷◌, length, slice_index}

-- a 64-bit cell's word is its value; a 32-bit cell's value is in the upper half, above zeros
abbrev pub stored_word : ℕ → ℕ → ℕ
stored_word cell value = if nat_lt cell 4096 then value else value * 2 ^ 32

-- the value in a word
abbrev pub stored_value : ℕ → ℕ → ℕ
stored_value cell word = if nat_lt cell 4096 then word else word / 2 ^ 32

-- the values in words, of the cells from number `cell` on
abbrev pub stored_values : ℕ → List ℕ → List ℕ
stored_values cell [] = []
stored_values cell (w ∷ words) = stored_value cell w ∷ stored_values (suc cell) words

-- the words of cells with these values
pub record AreWordsOf (values words : List ℕ) : Type 0 where
  pub count : length words ≡ 8192
  pub stored : (c : ℕ) → c < 8192 → slice_index words c ≡ stored_word c (slice_index values c)
