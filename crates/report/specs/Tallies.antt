-- A table that counts the occurrences of names. It has at most `limit` rows; names that get no row
-- are counted together.
use Rattle.std.specs.Prelude.{◌≡◌, ℕ, ◌^◌, ◌-◌, ◌<◌, ◌≤◌, List, ◌++◌, min, count_by}
use Rattle.std.specs.Prelude.{◌+◌, Bool, Some, String, is_none, if◌then◌else◌}
use Rattle.std.specs.BTreeMap.{btree_map_len, get_by_text}
use Rattle.std.specs.Str.{bytes_eq}
use Rattle.std.specs.declared.alloc.Global.{Global}
use Rattle.report.specs.declared.tally.Tally.{Tally}

abbrev pub RowName : Type 0
RowName = List ℕ

-- the entries of a table
abbrev pub Rows : Type 0
Rows = List (String Global × ℕ)

-- a count stops at the greatest 64-bit number
abbrev pub capped : ℕ → ℕ
capped n = min n (2 ^ 64 - 1)

abbrev pub occurrences_of : RowName → List RowName → ℕ
occurrences_of name names = count_by (bytes_eq name) names

abbrev pub has_no_row : Tally → RowName → Bool
has_no_row t name = is_none (get_by_text t.rows name)

-- the table counts these names, and has rows for at most `limit` of them
pub record IsTally (limit : ℕ) (names : List RowName) (t : Tally) : Type 0 where
  -- a row has the number of its name's occurrences, of which there is at least one
  pub rows : (name : RowName) (n : ℕ) → get_by_text t.rows name ≡ Some n
      → (0 < n) × (n ≡ capped (occurrences_of name names))
  -- and `others` is the number of occurrences of names without a row
  pub others : t.others ≡ capped (count_by (has_no_row t) names)
  -- there are others only if no row is free
  pub full : 0 < t.others → limit ≤ btree_map_len t.rows
  pub within : btree_map_len t.rows ≤ limit
  pub limit_is : t.limit ≡ limit

-- adds these names to any names counted before
pub record Notes (old new : Tally) (names : List RowName) : Type 0 where
  pub extends : (limit : ℕ) (before : List RowName)
      → IsTally limit before old → IsTally limit (before ++ names) new

-- the name has this row, and all else is unchanged
pub record Sets (old new : Tally) (name : RowName) (n : ℕ) : Type 0 where
  pub row : (other : RowName) → get_by_text new.rows other
      ≡ (if bytes_eq name other then Some n else get_by_text old.rows other)
  pub len : btree_map_len new.rows
      ≡ btree_map_len old.rows + (if has_no_row old name then 1 else 0)
  pub others : new.others ≡ old.others
  pub limit : new.limit ≡ old.limit

-- the table with this number of names without a row
abbrev pub with_others : ℕ → Tally → Tally
with_others n t = record { rows = t.rows; others = n; limit = t.limit }
