-- How many buckets get which release, and how many move from which release to which.
use Rattle.std.specs.Prelude.{◌≡◌, ℕ, ◌+◌, ◌*◌, ◌≤◌, ◌==◌, ◌&&◌, List, length, All, replicate}
use Rattle.std.specs.Prelude.{Option, Some, None, slice_index}
use Rattle.std.specs.List.{count_by, zip}
use Rattle.simulate.specs.Course.{bucket_count}

-- a choice for each bucket, 0 or a release up to 64
pub record AreChoices (choices : List ℕ) : Type 0 where
  pub all : length choices ≡ bucket_count
  pub releases : All (λ choice. choice ≤ 64) choices

-- how many buckets get a release; 0 is none
abbrev pub buckets_with : List ℕ → ℕ → ℕ
buckets_with choices release = count_by (λ choice. choice == release) choices

-- no bucket gets a release of an app that a ruleset doesn't have
abbrev pub choices_or_none : Option (List ℕ) → List ℕ
choices_or_none (Some choices) = choices
choices_or_none None = replicate bucket_count 0

-- how many buckets get `from` by the first choices and `to` by the second
abbrev pub buckets_moving : (now next : List ℕ) → (from to : ℕ) → ℕ
buckets_moving now next from to =
    count_by (λ move. (move.0 == from) && (move.1 == to)) (zip now next)

-- the count of a move in a table, which has 65 numbers for each release that buckets move from
abbrev pub moves_in : List ℕ → (from to : ℕ) → ℕ
moves_in table from to = slice_index table (65 * from + to)

-- the table has the counts of all moves
abbrev pub AreMoves : (now next table : List ℕ) → Type 0
AreMoves now next table = (from to : ℕ) → from ≤ 64 → to ≤ 64
    → moves_in table from to ≡ buckets_moving now next from to
