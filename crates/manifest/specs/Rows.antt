-- Lists of tables, which are numbered from 1.
use Rattle.std.specs.Prelude.{ℕ, ◌+◌, Bool, ◌==◌, ◌&&◌, nat_le}
use Rattle.std.specs.Prelude.{if◌then◌else◌, List, [], ◌∷◌, length}
use Rattle.std.specs.Prelude.{Option, Some, None, option_map, Result, Ok, Err}
use Rattle.toml.specs.Data.{Data, Items, no_items, item, Members, as_array, as_table}
use Rattle.manifest.specs.declared.schema_error.InList.{InList}
use Rattle.manifest.specs.declared.schema_error.InList.TheVariants.{Count, NoTable, At}

-- the items of a list
abbrev pub data_of : Items → List Data
data_of no_items = []
data_of (item d ds) = d ∷ data_of ds

abbrev pub items_in : Data → Option (List Data)
items_in value = option_map data_of (as_array value)

-- whether there are `from` to `to` items
abbrev pub are_between : {X : Type 0} → ℕ → ℕ → List X → Bool
are_between from to xs = nat_le from (length xs) && nat_le (length xs) to

abbrev pub some_between : ℕ → ℕ → Option (List Data) → Option (List Data)
some_between from to None = None
some_between from to (Some ds) = if are_between from to ds then Some ds else None

-- the items of a list of `from` to `to` items; if `from` is 0 it may be absent
abbrev pub items_between : ℕ → ℕ → Option Data → Option (List Data)
items_between from to None = if from == 0 then Some [] else None
items_between from to (Some value) = some_between from to (items_in value)

-- the result of a table, with its number in a list
abbrev pub at_place : {X M : Type 0} → ℕ → Result X M → Result X (InList M)
at_place n (Ok x) = Ok x
at_place n (Err schema_error) = Err (At n schema_error)

-- the first fault, or all rows
abbrev pub with_first : {X E : Type 0} → Result X E → Result (List X) E → Result (List X) E
with_first (Err e) rest = Err e
with_first (Ok x) (Err e) = Err e
with_first (Ok x) (Ok xs) = Ok (x ∷ xs)

module _ {X M : Type 0} (row_of : Members → Result X M) where
  abbrev pub row_in : ℕ → Option Members → Result X (InList M)
  row_in n None = Err (NoTable n)
  row_in n (Some table) = at_place n (row_of table)

  -- the item with this number, which must be a table
  abbrev pub item_of : ℕ → Data → Result X (InList M)
  item_of n value = row_in n (as_table value)

  -- the items, which are numbered from this number
  abbrev pub items_from : ℕ → List Data → Result (List X) (InList M)
  items_from n [] = Ok []
  items_from n (d ∷ ds) = with_first (item_of n d) (items_from (n + 1) ds)

  abbrev pub rows_or_count : Option (List Data) → Result (List X) (InList M)
  rows_or_count None = Err Count
  rows_or_count (Some ds) = items_from 1 ds

  -- the rows of a list of `from` to `to` tables
  abbrev pub rows_of : ℕ → ℕ → Option Data → Result (List X) (InList M)
  rows_of from to value = rows_or_count (items_between from to value)
