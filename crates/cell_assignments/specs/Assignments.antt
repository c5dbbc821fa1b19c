-- A cell as a text: NAME[INDEX], and its value.
use Rattle.std.specs.Prelude.{ℕ, ◌-◌, ◌^◌, ◌==◌, nat_lt, Bool, if◌then◌else◌}
use Rattle.std.specs.Prelude.{List, length, Option, Some, None}
use Rattle.std.specs.List.{filter_map, position_or_len, before_first, after_first}
use Rattle.std.specs.Str.{byte}
use Rattle.lexing.specs.Decimal.{decimal_within}

-- a cell of an array, and its value
pub record Assignment : Type 0 where
  pub array : List ℕ
  pub index : ℕ
  pub value : ℕ

-- the text has such a byte
abbrev pub has_byte : (ℕ → Bool) → List ℕ → Bool
has_byte is_it text = nat_lt (position_or_len is_it text) (length text)

abbrev pub is_opening : ℕ → Bool
is_opening b = b == byte "["

abbrev pub is_closing : ℕ → Bool
is_closing b = b == byte "]"

abbrev pub is_equals : ℕ → Bool
is_equals b = b == byte "="

abbrev pub is_blank : ℕ → Bool
is_blank b = b == byte " "

abbrev pub of_parts : (array : List ℕ) → (index value : Option ℕ) → Option Assignment
of_parts array (Some index) (Some value) =
    Some (record { array = array; index = index; value = value })
of_parts array index value = None

-- nothing follows the index
abbrev pub ended : (array behind : List ℕ) → (index value : Option ℕ) → Option Assignment
ended array behind index value =
    if length behind == 0 then of_parts array index value else None

-- the rest after the name and `[`
abbrev pub indexed : (array rest : List ℕ) → (value : Option ℕ) → Option Assignment
indexed array rest value =
    if has_byte is_closing rest
    then ended array (after_first is_closing rest)
    (decimal_within 0 65535 (before_first is_closing rest)) value else None

-- NAME[INDEX]
abbrev pub valued : (cell : List ℕ) → (value : Option ℕ) → Option Assignment
valued cell value =
    if has_byte is_opening cell
    then indexed (before_first is_opening cell) (after_first is_opening cell) value else None

-- a value of 64 bits
abbrev pub value_in : List ℕ → Option ℕ
value_in digits = decimal_within 0 (2 ^ 64 - 1) digits

-- NAME[INDEX]=VALUE
abbrev pub assigned : List ℕ → Option Assignment
assigned text =
    if has_byte is_equals text
    then valued (before_first is_equals text) (value_in (after_first is_equals text)) else None

-- NAME[INDEX] VALUE
abbrev pub listed : List ℕ → Option Assignment
listed text =
    if has_byte is_blank text
    then valued (before_first is_blank text) (value_in (after_first is_blank text)) else None

-- the cells in lines; other lines are skipped
abbrev pub assignments_in : List (List ℕ) → List Assignment
assignments_in lines = filter_map listed lines
