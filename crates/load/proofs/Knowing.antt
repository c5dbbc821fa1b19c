-- The programs of a load know only the arrays of the directory after it.
use Rattle.std.proofs.Common.{List, [], ◌∷◌, All}
use Rattle.std.proofs.lemmas.List.Elements.{All-nil, All-cons}
use Rattle.bounded_files.specs.Files.{KnownFiles}
use Rattle.manifest.specs.App.{AppEntry}
use Rattle.cells.specs.Apart.{NumberedArraysAreNamed}
use Rattle.cells.specs.Directory.{HasDistinctNames, HasArray}
use Rattle.cells.specs.declared.array.ArrayNo.{ArrayNo}
use Rattle.cells.specs.declared.array.CellArray.{CellArray}
use Rattle.ruleset.specs.Rules.{AppRule}
use Rattle.load.specs.Apps.{AreAppsOf, none, next}

module _ (law : NumberedArraysAreNamed) (known : KnownFiles) (directory : List CellArray)
    (numbers : List ArrayNo) (apart : HasDistinctNames directory) where
  pub apps_know : (entries : List AppEntry) (apps : List AppRule)
      → AreAppsOf known directory numbers entries apps
      → All (λ app. All (HasArray directory) app.program.shape.arrays) apps
  apps_know [] [] none = All-nil (λ app. All (HasArray directory) app.program.shape.arrays)
  apps_know [] (a ∷ apps) are = elim are [ ]
  apps_know (e ∷ entries) [] are = elim are [ ]
  apps_know (e ∷ entries) (a ∷ apps) (next head tail) =
      All-cons (λ app. All (HasArray directory) app.program.shape.arrays) a apps
      (law directory numbers a.program.shape.arrays apart head.shape_is.arrays_are)
      (apps_know entries apps tail)
