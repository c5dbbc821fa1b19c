-- The least value of a cell at several servers.
use Rattle.std.specs.Prelude.{ℕ, ◌==◌, ◌&&◌, nat_lt, if◌then◌else◌, Bool, List, find}
use Rattle.std.specs.Prelude.{option_map, unwrap_or}
use Rattle.std.specs.Str.{bytes_eq}
use Rattle.cell_assignments.specs.Assignments.{Assignment}

abbrev pub is_cell : Assignment → Assignment → Bool
is_cell cell other = bytes_eq other.array cell.array && other.index == cell.index

-- a server's value of a cell; it leaves out a counter that is 0
abbrev pub value_among : Assignment → List Assignment → ℕ
value_among cell others =
    unwrap_or (option_map (λ other. other.value) (find (is_cell cell) others)) 0

-- the lesser one of the cell's own value and another server's
abbrev pub least_value : Assignment → List Assignment → ℕ
least_value cell others =
    if nat_lt (value_among cell others) cell.value then value_among cell others else cell.value
