-- If an array can't be declared: what the manifest's bytes were parsed as, and its arrays.
use Rattle.std.proofs.Common.{ℕ, List, inr, refl}
use Rattle.cells.specs.Directory.{Declaration}
use Rattle.cells.specs.declared.array.CellArray.{CellArray}
use Rattle.manifest.specs.declared.refused.Parsed.TheVariants.{Nothing}
use Rattle.load.specs.declared.load_fault.LoadFault.{LoadFault}
use Rattle.load.specs.declared.load_fault.LoadFault.TheVariants.{Manifest as NoManifest, File}
use Rattle.load.specs.declared.load_fault.LoadFault.TheVariants.{Program}
use Rattle.load.specs.declared.load_fault.LoadFault.TheVariants.{Rule, Cells, Memory}
use Rattle.load.specs.Sources.{AreArraysWithFault, AreArraysOf, IsParsedWithFault}
use Rattle.load.specs.Load.{RefusesArrays}

-- with an array's fault nothing is parsed
pub nothing_parsed : (bytes : List ℕ) (old : List CellArray) (arrays : List Declaration)
    (fault : LoadFault) → RefusesArrays old arrays fault → IsParsedWithFault bytes fault Nothing
nothing_parsed bytes old arrays (NoManifest fault) refuses = absurd refuses
nothing_parsed bytes old arrays (File number) refuses = refl
nothing_parsed bytes old arrays (Program number fault) refuses = refl
nothing_parsed bytes old arrays (Rule number fault) refuses = refl
nothing_parsed bytes old arrays (Cells number fault) refuses = refl
nothing_parsed bytes old arrays Memory refuses = refl

-- and the manifest's own arrays are known
pub known_arrays : (bytes : List ℕ) (old : List CellArray) (arrays shown : List Declaration)
    (fault : LoadFault) → RefusesArrays old arrays fault → AreArraysOf bytes shown
    → AreArraysWithFault bytes fault shown
known_arrays bytes old arrays shown (NoManifest fault) refuses are = absurd refuses
known_arrays bytes old arrays shown (File number) refuses are = absurd refuses
known_arrays bytes old arrays shown (Program number fault) refuses are = absurd refuses
known_arrays bytes old arrays shown (Rule number fault) refuses are = absurd refuses
known_arrays bytes old arrays shown (Cells number fault) refuses are = are
known_arrays bytes old arrays shown Memory refuses are = inr are
