-- The coordinates of a machine in a state: one number for each dimension.
use Rattle.std.specs.Prelude.{ℕ, ◌+◌, ◌-◌, List, [], map, Option, Some, None, ◌==◌, bit_and}
use Rattle.std.specs.Prelude.{slice_get, slice_index, slice_index_or, if◌then◌else◌}
use Rattle.std.specs.List.{position_or_len}
use Rattle.std.specs.Str.{bytes_eq}
use Rattle.attrs.specs.Attributes.{Attributes}
use Rattle.attrs.specs.Vocabulary.{flag_bit, attribute_number}
use Rattle.rule_lang.specs.Meaning.{bucket_by, remainder}
use Rattle.diff_space.specs.declared.coordinate.Coordinate.{Coordinate}
use Rattle.diff_space.specs.declared.coordinate.Coordinate.TheVariants as coordinate
use Rattle.diff_space.specs.Machines.{State, declared}
use Rattle.diff_space.specs.Numbers.{cell_at, version_number}

-- a dimension: what its number is, the texts that it distinguishes, the starts of its cells, and
-- its greatest number
pub record Dimension : Type 0 where
  pub of : Coordinate
  pub texts : List (List ℕ)
  pub starts : List ℕ
  pub last : ℕ

-- the index of a text among these, or their count if it is another one
abbrev pub index_or_count : (texts : List (List ℕ)) → List ℕ → ℕ
index_or_count texts text = position_or_len (λ t. bytes_eq t text) texts

-- 1 if a flag's bit is set
abbrev pub flag_number : (flags bit : ℕ) → ℕ
flag_number flags bit = if bit_and flags bit == 0 then 0 else 1

-- the number of a machine in a state: its version, a day, its bucket, 1 if a flag is set, the index
-- of a text, or how many takes a cell grants
abbrev pub number_in : Coordinate → (texts : List (List ℕ)) → Attributes → State → ℕ
number_in coordinate.Version texts a g = version_number a.context.version
number_in coordinate.Today texts a g = a.context.today
number_in coordinate.Installed texts a g = a.context.install_day
number_in (coordinate.Bucket salt modulus) texts a g = remainder modulus (bucket_by a salt)
number_in (coordinate.Flag f) texts a g = flag_number a.context.flags (flag_bit f)
number_in (coordinate.Text n) texts a g =
    index_or_count texts (slice_index_or a.texts (attribute_number n) [])
number_in (coordinate.Takes array index) texts a g = g (declared array) index

abbrev pub number_of : Dimension → Attributes → State → ℕ
number_of d a g = number_in d.of d.texts a g

-- the cell of a machine in a state
abbrev pub cell_in : Dimension → Attributes → State → ℕ
cell_in d a g = cell_at d.starts (number_of d a g)

-- the number at which a cell begins
abbrev pub begin_of : Dimension → (cell : ℕ) → ℕ
begin_of d cell = slice_index d.starts cell

-- the greatest number of a cell, if the next one begins at this start
abbrev pub last_before : (start : Option ℕ) → (last : ℕ) → ℕ
last_before (Some start) last = start - 1
last_before None last = last

abbrev pub last_in : Dimension → (cell : ℕ) → ℕ
last_in d cell = last_before (slice_get d.starts (cell + 1)) d.last

-- the place of a machine in a state: its cell in each dimension
abbrev pub place_of : List Dimension → Attributes → State → List ℕ
place_of dimensions a g = map (λ d. cell_in d a g) dimensions
