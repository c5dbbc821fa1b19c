-- What is known about a value, in words.
use Rattle.std.specs.Prelude.{ℕ, zero, suc, ◌+◌, ◌*◌, ◌-◌, ◌/◌, ◌^◌, List, [], ◌++◌, codes}
use Rattle.std.specs.Prelude.{Bool, ◌&&◌, not, ◌==◌, nat_le, nat_lt, if◌then◌else◌}
use Rattle.std.specs.Prelude.{Option, Some, None, slice_get}
use Rattle.std.specs.Fmt.{decimal}
use Rattle.std.specs.Int.{bit_at}
use Rattle.std.specs.List.{find}
use Rattle.bpf_semantics.specs.Memory.{stack_size}
use Rattle.cells.specs.Arrays.{AppShape}
use Rattle.cells.specs.declared.array.CellArray.{CellArray}
use Rattle.abs_value.specs.declared.number.Number.{Number}
use Rattle.abs_value.specs.declared.origin.Lookup.{Lookup}
use Rattle.abs_value.specs.declared.origin.Origin.TheVariants.{Found, Fixed}
use Rattle.abs_value.specs.declared.value.Abs.{Abs}
use Rattle.abs_value.specs.declared.value.Abs.TheVariants.{Unusable, Num, Ctx, Stk}
use Rattle.abs_value.specs.declared.value.Abs.TheVariants.{Map, MayCell, Cell}
use Rattle.abs_value.specs.Known.{unknown}

-- ---- numbers

abbrev pub range_text : ℕ → ℕ → List ℕ
range_text lo hi =
    if lo == hi then decimal lo
    else if (lo == 0) && (hi == 2 ^ 64 - 1) then codes "any number"
    else decimal lo ++ codes " to " ++ decimal hi

-- all numbers of the range have the same bits from the j-th on
abbrev pub range_fixes : Number → ℕ → Bool
range_fixes a j = a.range.lo / 2 ^ j == a.range.hi / 2 ^ j

-- the j-th bit is known and doesn't follow from the range
abbrev pub adds_to_range : Number → ℕ → Bool
adds_to_range a j = (bit_at (unknown a.bits) j == 0) && not (range_fixes a j)

-- the place after the highest bit below k that says more than the range; 0 if there is none
abbrev pub bits_beyond_range : Number → ℕ → ℕ
bits_beyond_range a zero = 0
bits_beyond_range a (suc j) = if adds_to_range a j then suc j else bits_beyond_range a j

abbrev pub bit_text : Number → ℕ → List ℕ
bit_text a j =
    if bit_at (unknown a.bits) j == 1 then codes "x"
    else if bit_at a.bits.has j == 1 then codes "1" else codes "0"

-- the lowest bits, the highest of them first
abbrev pub lowest_bits : Number → ℕ → List ℕ
lowest_bits a zero = []
lowest_bits a (suc j) = bit_text a j ++ lowest_bits a j

-- the bits of the low bytes, up to the highest byte with a bit that says more
abbrev pub bits_text : Number → ℕ → List ℕ
bits_text a n = if n == 0 then [] else codes " bits " ++ lowest_bits a (8 * ((n + 7) / 8))

-- the range of a number, and the bits of its low bytes if one says more
abbrev pub number_text : Number → List ℕ
number_text a = range_text a.range.lo a.range.hi ++ bits_text a (bits_beyond_range a 64)

-- ---- arrays and counters, by name if there is one

abbrev pub name_or : Option CellArray → ℕ → List ℕ
name_or None index = decimal index
name_or (Some a) index = a.name

abbrev pub array_text : AppShape → ℕ → List ℕ
array_text shape index = name_or (slice_get shape.arrays index) index

abbrev pub holds_cell : ℕ → CellArray → Bool
holds_cell cell a = nat_le a.base cell && nat_lt cell (a.base + a.length)

abbrev pub counter_in : Option CellArray → ℕ → List ℕ
counter_in None cell = codes "cell " ++ decimal cell
counter_in (Some a) cell = a.name ++ codes "[" ++ decimal (cell - a.base) ++ codes "]"

-- a counter by its array and its index there, such as `q[0]`
abbrev pub counter_text : AppShape → ℕ → List ℕ
counter_text shape cell = counter_in (find (holds_cell cell) shape.arrays) cell

abbrev pub found_text : AppShape → Lookup → List ℕ
found_text shape l =
    codes "a cell of " ++ array_text shape l.array ++ codes " by slot " ++ decimal l.slot

-- ---- values

abbrev pub place_text : ℕ → ℕ → List ℕ
place_text lo hi =
    if lo == hi then codes "context+" ++ decimal lo
    else codes "context+" ++ decimal lo ++ codes " to " ++ decimal hi

-- by its distance from the top
abbrev pub stack_place_text : ℕ → List ℕ
stack_place_text place = codes "stack-" ++ decimal (stack_size - place)

-- what is known about a value
abbrev pub value_text : AppShape → Abs → List ℕ
value_text shape Unusable = codes "unusable"
value_text shape (Num a) = number_text a
value_text shape (Ctx from) = place_text from.lo from.hi
value_text shape (Stk place) = stack_place_text place
value_text shape (Map index) = codes "map " ++ array_text shape index
value_text shape (MayCell l) = codes "0 or " ++ found_text shape l
value_text shape (Cell (Found l)) = found_text shape l
value_text shape (Cell (Fixed cell)) = counter_text shape cell
