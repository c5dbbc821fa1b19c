-- Which cells of a group a machine can have together: the cell of its version, whether the version
-- is known, and its text; or its bucket, whether the cohort names it, and the cohort.
use Rattle.std.specs.Prelude.{ℕ, List, [], ◌∷◌, is_some, Option, Some, None, Bool, false, ◌&&◌}
use Rattle.std.specs.Prelude.{◌||◌, ◌==◌, not, nat_le, nat_lt, if◌then◌else◌}
use Rattle.std.specs.List.{list_any}
use Rattle.attrs.specs.Bucket.{cohort_bucket}
use Rattle.attrs.specs.Version.{version_of}
use Rattle.diff_space.specs.Numbers.{version_number}

-- ---- versions

-- a number of the cell from `low` to before `high`; the last cell has no end
abbrev pub in_cell : (low : ℕ) → (high : Option ℕ) → ℕ → Bool
in_cell low (Some high) n = nat_le low n && nat_lt n high
in_cell low None n = nat_le low n

-- a text that is a version is known, and has its number; any other isn't known, and counts as 0
abbrev pub numbers_fit : Option (List ℕ) → (is_known : Bool) → (low : ℕ) → (high : Option ℕ) → Bool
numbers_fit (Some v) is_known low high = is_known && in_cell low high (version_number v)
numbers_fit None is_known low high = not is_known && (low == 0)

-- a text that isn't named may be any version, or none. The empty text may be that of a version that
-- is too long to be kept
abbrev pub version_fits : (text : Option (List ℕ)) → (is_known : Bool) → (low : ℕ)
    → (high : Option ℕ) → Bool
version_fits None is_known low high = is_known || (low == 0)
version_fits (Some []) is_known low high = is_known || (low == 0)
version_fits (Some (c ∷ cs)) is_known low high = numbers_fit (version_of (c ∷ cs)) is_known low high

-- ---- buckets

abbrev pub is_bucket : Option ℕ → (bucket : ℕ) → Bool
is_bucket (Some b) bucket = b == bucket
is_bucket None bucket = false

abbrev pub names_bucket : (bucket : ℕ) → (cohort : List ℕ) → Bool
names_bucket bucket cohort = is_bucket (cohort_bucket cohort) bucket

-- a cohort that names a bucket fits only that one. A cohort that isn't among the texts may name any
-- bucket that none of them names
abbrev pub cohort_fits : (texts : List (List ℕ)) → (cohort : Option (List ℕ)) → (is_known : Bool)
    → (bucket : ℕ) → Bool
cohort_fits texts None is_known bucket = not is_known || not (list_any (names_bucket bucket) texts)
cohort_fits texts (Some cohort) is_known bucket =
    if is_some (cohort_bucket cohort) then is_known && names_bucket bucket cohort else not is_known
