-- A manifest has one load, and what is gathered of one has one verdict.
use Rattle.std.specs.Prelude.{◌≡◌, ◌≢◌, ℕ, List, Option, Some, Result, Ok, Err}
use Rattle.bounded_files.specs.Files.{KnownFile}
use Rattle.bpf_semantics.specs.Program.{ShapedProgram}
use Rattle.cells.specs.Directory.{IsDirectory}
use Rattle.cells.specs.declared.array.CellArray.{CellArray}
use Rattle.ruleset.specs.Rules.{Rules}
use Rattle.load.specs.declared.load_fault.LoadFault.{LoadFault}
use Rattle.load.specs.declared.load_fault.LoadFault.TheVariants.{Memory}
use Rattle.load.specs.declared.load_fault.PathFault.{PathFault}
use Rattle.load.specs.declared.load_fault.PathFault.TheVariants as path
use Rattle.bounded_files.specs.declared.resource_fault.ResourceFault.TheVariants as resource
use Rattle.load.specs.declared.sources.AppSources.{AppSources}
use Rattle.load.specs.Judged.{AreJudged, RefusesFirst}
use Rattle.load.specs.Load.{Loads}
use Rattle.load.specs.Loaded.{LoadsFrom}

-- for files with known bytes, one directory and one manifest have one load, unless memory runs out:
-- one ruleset or one fault, and one directory after it
abbrev pub HasOneLoad : Type 0
HasOneLoad = (files : List ℕ → Option KnownFile) (old : List CellArray) (bytes : List ℕ)
    (r s : Result Rules LoadFault) (new last : List CellArray) → IsDirectory old
    → Loads (Some files) old bytes r new → Loads (Some files) old bytes s last
    → r ≢ Err Memory → s ≢ Err Memory → (r ≡ s) × (new ≡ last)

-- the verdict on gathered apps: a program for each, or the first fault
abbrev pub Judges : List AppSources → Result (List ShapedProgram) LoadFault → Type 0
Judges apps (Ok programs) = AreJudged apps programs
Judges apps (Err fault) = RefusesFirst apps fault

-- there is only one verdict, unless memory runs out
abbrev pub HasOneJudgement : Type 0
HasOneJudgement = (apps : List AppSources) (r s : Result (List ShapedProgram) LoadFault)
    → Judges apps r → Judges apps s → r ≢ Err Memory → s ≢ Err Memory → r ≡ s

-- no allocation failed for it
abbrev pub IsNotOutOfMemory : Result (Rules × List CellArray) PathFault → Type 0
IsNotOutOfMemory r = (r ≢ Err (path.Resource resource.Memory)) × (r ≢ Err (path.Load Memory))

-- and the manifest at a path, with the files of its folder, has one load
abbrev pub HasOneLoadFrom : Type 0
HasOneLoadFrom = (files : List ℕ → Option KnownFile) (place : List ℕ) (old : List CellArray)
    (r s : Result (Rules × List CellArray) PathFault) → IsDirectory old
    → LoadsFrom (Some files) place old r → LoadsFrom (Some files) place old s
    → IsNotOutOfMemory r → IsNotOutOfMemory s → r ≡ s
