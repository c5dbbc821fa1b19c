-- The cells whose values bound the states, by the arrays of both manifests.
use Rattle.std.specs.Prelude.{List, ◌++◌, Option, Some, None, option_map, is_some}
use Rattle.std.specs.Prelude.{Bool, true, ◌&&◌, nat_lt, if◌then◌else◌}
use Rattle.std.specs.List.{filter_map, find, list_all}
use Rattle.std.specs.Str.{bytes_eq}
use Rattle.cells.specs.Directory.{Declaration}
use Rattle.diff_space.specs.declared.bounds.CellBound.{CellBound}
use Rattle.cell_assignments.specs.Assignments.{Assignment}
use Rattle.diff_manifests.specs.Arrays.{declared_as, is_declared_alike}
use Rattle.diff_manifests.specs.declared.opened.OpenedBoth.{OpenedBoth}

abbrev pub declares_cell : Assignment → Declaration → Bool
declares_cell cell array = bytes_eq array.name cell.array && nat_lt cell.index array.length

abbrev pub array_with : List Declaration → Assignment → Option Declaration
array_with arrays cell = find (declares_cell cell) arrays

-- a cell with at least this value
abbrev pub used_cell : Assignment → Declaration → CellBound
used_cell cell array =
    record { array = array.name; index = cell.index; value = cell.value }

-- each cell is one of an array
abbrev pub are_declared : List Declaration → List Assignment → Bool
are_declared arrays cells = list_all (λ cell. is_some (array_with arrays cell)) cells

-- either manifest lacks the array, or both declare it alike
abbrev pub is_alike : (one other : Option Declaration) → Bool
is_alike (Some d) (Some e) = is_declared_alike d e
is_alike one other = true

module _ (old new : List Declaration) where
  -- A value bounds an array that only one manifest declares, or that both declare alike. If they
  -- declare it in different ways, only a restarted server has NEW's array, and with other values.
  abbrev pub used_if_declared : Assignment → Option CellBound
  used_if_declared cell =
      if is_alike (declared_as old cell.array) (declared_as new cell.array)
      then option_map (used_cell cell) (array_with (old ++ new) cell) else None

  abbrev pub used_declared : List Assignment → List CellBound
  used_declared cells = filter_map used_if_declared cells

-- the arrays of both
abbrev pub arrays_in : OpenedBoth → List Declaration
arrays_in both = both.old.arrays.items ++ both.new.arrays.items

-- a server's cells that one of the manifests has, and then the given ones; the last value of a cell
-- counts
abbrev pub used_in : OpenedBoth → (served given : List Assignment) → List CellBound
used_in both served given =
    used_declared both.old.arrays.items both.new.arrays.items served
    ++ used_declared both.old.arrays.items both.new.arrays.items given
