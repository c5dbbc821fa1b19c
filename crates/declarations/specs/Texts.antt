-- The text of a declaration.
use Rattle.std.specs.Prelude.{ℕ, List, [], ◌++◌, codes, Option, Some, None}
use Rattle.std.specs.Fmt.{decimal}
use Rattle.cells.specs.declared.array.CellWidth.{CellWidth}
use Rattle.cells.specs.declared.array.CellWidth.TheVariants.{Bits32, Bits64}
use Rattle.cells.specs.Directory.{Declaration}

abbrev pub width_text : CellWidth → List ℕ
width_text Bits32 = codes "32"
width_text Bits64 = codes "64"

abbrev pub quota_text : Option ℕ → List ℕ
quota_text None = []
quota_text (Some quota) = codes ":" ++ decimal quota

-- `name:width:length`, or `name:64:length:quota`
abbrev pub declaration_text : Declaration → List ℕ
declaration_text d =
    d.name ++ codes ":" ++ width_text d.width ++ codes ":" ++ decimal d.length
    ++ quota_text d.quota
