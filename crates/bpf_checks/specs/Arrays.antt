-- The arrays of a program's shape: which of them an instruction (RFC 9669, "64-bit Immediate
-- Instructions") or an address names.
use Rattle.std.specs.Prelude.{ℕ, ◌+◌, ◌/◌, ◌%◌, pos, Option, Some, None, is_some, option_map}
use Rattle.std.specs.Prelude.{Bool, false, ◌&&◌, nat_le, nat_lt, ◌==◌, if◌then◌else◌, slice_get}
use Rattle.std.specs.List.{list_any}
use Rattle.bpf_insn.specs.declared.operand.WideValue.{WideValue}
use Rattle.bpf_insn.specs.declared.operand.WideValue.TheVariants as wide
use Rattle.bpf_insn.specs.Program.{◌>>=◌}
use Rattle.cells.specs.declared.array.CellArray.{CellArray}
use Rattle.cells.specs.declared.array.CellWidth.{CellWidth}
use Rattle.cells.specs.declared.array.CellWidth.TheVariants.{Bits32, Bits64}
use Rattle.cells.specs.Arrays.{AppShape}
use Rattle.cells.specs.Events.{width}
use Rattle.abs_value.specs.declared.origin.Origin.{Origin}
use Rattle.abs_value.specs.declared.origin.Origin.TheVariants.{Found, Fixed}
use Rattle.abs_value.specs.declared.value.Abs.{Abs}
use Rattle.abs_value.specs.declared.value.Abs.TheVariants.{Num, Map, Cell}
use Rattle.abs_value.specs.Numbers.{single}

-- ---- wide loads

-- the cell n bytes after the array's first cell; each cell has 8 bytes of addresses
abbrev pub cell_after : CellArray → ℕ → Option ℕ
cell_after a n =
    if (n % 8 == 0) && nat_lt (n / 8) a.length then Some (a.base + n / 8) else None

abbrev pub fixed_cell : ℕ → Abs
fixed_cell cell = Cell (Fixed cell)

-- the value of a wide load; none if the shape has no such array, or the array no such cell
abbrev pub wide_abs : AppShape → WideValue → Option Abs
wide_abs shape (wide.Number n) = Some (Num (single n))
wide_abs shape (wide.Map (pos i)) = slice_get shape.arrays i >>= λ a. Some (Map i)
wide_abs shape (wide.Cell (pos i) (pos n)) =
    slice_get shape.arrays i >>= λ a. option_map fixed_cell (cell_after a n)
wide_abs shape value = None

-- ---- cells

abbrev pub width_bits : CellWidth → ℕ
width_bits Bits32 = 32
width_bits Bits64 = 64

abbrev pub array_bits : Option CellArray → ℕ
array_bits None = 0
array_bits (Some a) = width_bits a.width

-- the number of bits of a cell, by the origin of its address
abbrev pub origin_bits : AppShape → Origin → ℕ
origin_bits shape (Found call) = array_bits (slice_get shape.arrays call.array)
origin_bits shape (Fixed cell) = width cell

abbrev pub has_quota_cell : ℕ → CellArray → Bool
has_quota_cell cell a = is_some a.quota && nat_le a.base cell && nat_lt cell (a.base + a.length)

abbrev pub array_quota : Option CellArray → Bool
array_quota None = false
array_quota (Some a) = is_some a.quota

-- the cell belongs to an array that has a quota
abbrev pub has_quota : AppShape → Origin → Bool
has_quota shape (Found call) = array_quota (slice_get shape.arrays call.array)
has_quota shape (Fixed cell) = list_any (has_quota_cell cell) shape.arrays
