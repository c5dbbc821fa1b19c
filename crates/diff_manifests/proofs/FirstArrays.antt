-- The array of a cell among those of two manifests.
use Rattle.std.proofs.Common.{◌≡◌, ◌∙◌, ap, List, Option, Some, None}
use Rattle.std.specs.Prelude.{◌++◌}
use Rattle.std.specs.Option.{option_or}
use Rattle.std.proofs.lemmas.List.Folds.{find-append}
use Rattle.cells.specs.Directory.{Declaration}
use Rattle.cell_assignments.specs.Assignments.{Assignment}
use Rattle.diff_manifests.specs.Counters.{array_with, declares_cell}

pub in_old : (cell : Assignment) (old new : List Declaration) (d : Declaration)
    → array_with old cell ≡ Some d → array_with (old ++ new) cell ≡ Some d
in_old cell old new d is =
    find-append (declares_cell cell) old new
    ∙ ap (λ (o : Option Declaration). option_or o (array_with new cell)) is

pub in_new : (cell : Assignment) (old new : List Declaration)
    → array_with old cell ≡ None → array_with (old ++ new) cell ≡ array_with new cell
in_new cell old new is =
    find-append (declares_cell cell) old new
    ∙ ap (λ (o : Option Declaration). option_or o (array_with new cell)) is
