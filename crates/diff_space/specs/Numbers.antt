-- A line of numbers in cells. Each cell begins at a start, and has the numbers up to the next one.
use Rattle.std.specs.Prelude.{ℕ, ◌+◌, ◌-◌, ◌*◌, ◌^◌, List, [], ◌∷◌, slice_index, Bool, false, ◌&&◌}
use Rattle.std.specs.Prelude.{◌||◌, ◌==◌, nat_le, nat_lt}
use Rattle.std.specs.List.{count_by, list_any}
use Rattle.rule_lang.specs.declared.test.Comparison.{Comparison}
use Rattle.rule_lang.specs.declared.test.Comparison.TheVariants.{Lt, Le, Eq, Ne, Ge, Gt}

-- a version as one number; such numbers compare as the versions do
abbrev pub version_number : List ℕ → ℕ
version_number v =
    ((slice_index v 0 * 2 ^ 32 + slice_index v 1) * 2 ^ 32 + slice_index v 2) * 2 ^ 32
    + slice_index v 3

-- each start is above the one before, and the last one isn't above `last`
abbrev pub is_rising_from : (last start : ℕ) → List ℕ → Bool
is_rising_from last start [] = nat_le start last
is_rising_from last start (next ∷ starts) = nat_lt start next && is_rising_from last next starts

-- there is a start, and they rise up to at most `last`: no cell of a line to there is empty
abbrev pub are_rising : (last : ℕ) → List ℕ → Bool
are_rising last [] = false
are_rising last (start ∷ starts) = is_rising_from last start starts

-- the cell of a number: the last one that begins at it or below
abbrev pub cell_at : (starts : List ℕ) → ℕ → ℕ
cell_at starts n = count_by (λ start. nat_le start n) starts - 1

-- the number at which its cell begins
abbrev pub begin_at : (starts : List ℕ) → ℕ → ℕ
begin_at starts n = slice_index starts (cell_at starts n)

-- no cell has numbers on both sides of a cut before n
abbrev pub has_cut : (starts : List ℕ) → (last : ℕ) → (n : ℕ) → Bool
has_cut starts last n =
    nat_le n (slice_index starts 0) || nat_lt last n || list_any (λ start. start == n) starts

-- all numbers of a cell compare alike with n
abbrev pub decides : (starts : List ℕ) → (last : ℕ) → Comparison → (n : ℕ) → Bool
decides starts last Lt n = has_cut starts last n
decides starts last Ge n = has_cut starts last n
decides starts last Le n = has_cut starts last (n + 1)
decides starts last Gt n = has_cut starts last (n + 1)
decides starts last Eq n = has_cut starts last n && has_cut starts last (n + 1)
decides starts last Ne n = has_cut starts last n && has_cut starts last (n + 1)
