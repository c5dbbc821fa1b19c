-- The lines of a file of counters, and what each adds to the arrays and values before it.
use Rattle.std.specs.Prelude.{ℕ, ◌+◌, ◌-◌, ◌^◌, ◌<◌, ◌==◌, nat_lt, nat_le, Bool, true, ◌&&◌, not}
use Rattle.std.specs.Prelude.{IsTrue}
use Rattle.std.specs.Prelude.{if◌then◌else◌, List, [], ◌∷◌, ◌++◌, codes}
use Rattle.std.specs.Prelude.{slice_index, slice_set}
use Rattle.std.specs.Prelude.{Option, Some, None, option_and_then, option_map}
use Rattle.std.specs.Fmt.{decimal}
use Rattle.std.specs.List.{list_any, slice_split}
use Rattle.std.specs.Str.{bytes_eq}
use Rattle.cells.specs.declared.array.CellArray.{CellArray}
use Rattle.cells.specs.Directory.{Declaration, array_named, next_array, taken}
use Rattle.cells.specs.Events.{limit}
use Rattle.declarations.specs.Spec.{of_fields}
use Rattle.declarations.specs.Texts.{width_text}
use Rattle.lexing.specs.Decimal.{decimal_within}

-- arrays, and the value of each of the 8192 cells
pub record Counters : Type 0 where
  pub arrays : List CellArray
  pub values : List ℕ

abbrev pub counters : List CellArray → (values : List ℕ) → Counters
counters arrays values = record { arrays = arrays; values = values }

abbrev pub is_blank : ℕ → Bool
is_blank b = b == 32

abbrev pub is_line_feed : ℕ → Bool
is_line_feed b = b == 10

-- ---- the lines as they are written

abbrev pub array_word : List ℕ
array_word = codes "array"

abbrev pub quota_field : Option ℕ → List ℕ
quota_field None = []
quota_field (Some quota) = 32 ∷ decimal quota

-- `array NAME WIDTH LENGTH`, or `array NAME 64 LENGTH QUOTA`
abbrev pub array_line : CellArray → List ℕ
array_line a =
    array_word ++ 32 ∷ (a.name ++ 32 ∷ (width_text a.width
    ++ 32 ∷ (decimal a.length ++ quota_field a.quota)))

-- `NAME INDEX VALUE`
abbrev pub counter_line : CellArray → (index value : ℕ) → List ℕ
counter_line a index value = a.name ++ 32 ∷ (decimal index ++ 32 ∷ decimal value)

-- ---- the lines as they are read

abbrev pub has_name : List CellArray → (name : List ℕ) → Bool
has_name arrays name = list_any (λ a. bytes_eq a.name name) arrays

-- one more array, if no array has its name, and enough cells of its width are left
abbrev pub array_declared : Declaration → List CellArray → Option (List CellArray)
array_declared d arrays =
    if not (has_name arrays d.name) && nat_le (taken d.width arrays + d.length) 4096
    then Some (arrays ++ next_array d arrays ∷ []) else None

abbrev pub array_added : Option Declaration → List CellArray → Option (List CellArray)
array_added (Some d) arrays = array_declared d arrays
array_added None arrays = None

abbrev pub number_in : List ℕ → Option ℕ
number_in digits = decimal_within 0 (2 ^ 64 - 1) digits

-- the cell is still 0, and the value fits
abbrev pub takes_value : (cell value : ℕ) → List ℕ → Bool
takes_value cell value values =
    nat_lt cell 8192 && nat_lt value (limit cell) && (slice_index values cell == 0)

-- the values, of which the cell has this one
abbrev pub cell_set : (cell value : ℕ) → List ℕ → Option (List ℕ)
cell_set cell value values =
    if takes_value cell value values then Some (slice_set values cell value) else None

-- a counter with a quota has less than 2^63, so that additions don't overflow it
abbrev pub can_count : (quota : Option ℕ) → (value : ℕ) → Bool
can_count None value = true
can_count (Some quota) value = nat_lt value (2 ^ 63)

-- the array has a counter with this index, which can have the value
abbrev pub value_set : (index value : ℕ) → List ℕ → CellArray → Option (List ℕ)
value_set index value values a =
    if nat_lt index a.length && can_count a.quota value then cell_set (a.base + index) value values
    else None

-- the array's counters can have these values
abbrev pub CanCount : (values : List ℕ) → CellArray → Type 0
CanCount values a = (index : ℕ) → index < a.length
    → IsTrue (can_count a.quota (slice_index values (a.base + index)))

abbrev pub counter_set : List CellArray → (name : List ℕ) → (index value : Option ℕ) → List ℕ
    → Option (List ℕ)
counter_set arrays name (Some index) (Some value) values =
    option_and_then (value_set index value values) (array_named name arrays)
counter_set arrays name index value values = None

abbrev pub with_arrays : Option (List CellArray) → Counters → Option Counters
with_arrays arrays c = option_map (λ a. counters a c.values) arrays

abbrev pub with_values : Option (List ℕ) → Counters → Option Counters
with_values values c = option_map (λ v. counters c.arrays v) values

-- the array that a line with this first word and these fields declares
abbrev pub array_of : (word : List ℕ) → List (List ℕ) → List CellArray → Option (List CellArray)
array_of word fields arrays =
    if bytes_eq word array_word then array_added (of_fields fields) arrays else None

-- what a line with these fields between blanks adds: three are a counter, more an array
abbrev pub with_fields : List (List ℕ) → Counters → Option Counters
with_fields (name ∷ index ∷ value ∷ []) c =
    with_values (counter_set c.arrays name (number_in index) (number_in value) c.values) c
with_fields (word ∷ fields) c = with_arrays (array_of word fields c.arrays) c
with_fields [] c = None

abbrev pub with_line : List ℕ → Counters → Option Counters
with_line line c = with_fields (slice_split is_blank line) c
