-- An app of a manifest, with the program of its file.
use Rattle.std.specs.Prelude.{◌≡◌, List, length}
use Rattle.cells.specs.Arrays.{AppShape, AreNumbered}
use Rattle.cells.specs.declared.array.ArrayNo.{ArrayNo}
use Rattle.cells.specs.declared.array.CellArray.{CellArray}
use Rattle.manifest.specs.App.{AppEntry}
use Rattle.ruleset.specs.Rules.{AppRule}
use Rattle.load.specs.declared.load_fault.AppFault.{AppFault}
use Rattle.load.specs.declared.load_fault.AppFault.TheVariants.{Memory}
use Rattle.bounded_files.specs.Files.{KnownFiles}
use Rattle.load.specs.Source.{IsProgramIn, RefusesSource}

-- the shape of an app: the number of its releases, and all arrays of the manifest in order, which
-- have these numbers in the directory
pub record IsShapeOf (directory : List CellArray) (numbers : List ArrayNo) (entry : AppEntry)
    (shape : AppShape) : Type 0 where
  pub releases_are : shape.releases ≡ length entry.releases
  pub arrays_are : AreNumbered directory numbers shape.arrays

module _ (known : KnownFiles) (directory : List CellArray) (numbers : List ArrayNo) where
  -- the app of an entry
  pub record IsAppOf (entry : AppEntry) (app : AppRule) : Type 0 where
    pub appid_is : app.appid ≡ entry.appid
    pub releases_are : app.releases ≡ entry.releases
    pub shape_is : IsShapeOf directory numbers entry app.program.shape
    pub program_is : IsProgramIn known entry.source app.program

  -- why an entry has no program
  abbrev pub RefusesApp : AppEntry → AppFault → Type 0
  RefusesApp entry Memory = Unit {0}
  RefusesApp entry fault =
      (shape : AppShape) × IsShapeOf directory numbers entry shape
      × RefusesSource known entry.source shape fault
