-- The verdict on gathered apps, only from what is kept of their files.
use Rattle.std.specs.Prelude.{◌≡◌, ◌<◌, ◌+◌, ℕ, suc, List, [], ◌∷◌, All, Result, Ok, Err}
use Rattle.bounded_files.specs.Files.{KnownFiles}
use Rattle.bpf_semantics.specs.Program.{ShapedProgram}
use Rattle.cells.specs.declared.array.ArrayNo.{ArrayNo}
use Rattle.cells.specs.declared.array.CellArray.{CellArray}
use Rattle.manifest.specs.App.{AppEntry}
use Rattle.ruleset.specs.Rules.{AppRule}
use Rattle.load.specs.declared.load_fault.AppFault.{AppFault}
use Rattle.load.specs.declared.load_fault.AppFault.TheVariants as app
use Rattle.load.specs.declared.load_fault.LoadFault.{LoadFault}
use Rattle.load.specs.declared.load_fault.LoadFault.TheVariants.{Manifest as NoManifest, Cells}
use Rattle.load.specs.declared.load_fault.LoadFault.TheVariants.{Memory}
use Rattle.load.specs.declared.load_fault.LoadFault.TheVariants.{File, Program, Rule}
use Rattle.load.specs.declared.sources.Sources.{Sources}
use Rattle.load.specs.declared.sources.AppSources.{AppSources}
use Rattle.load.specs.App.{IsAppOf, RefusesApp}
use Rattle.load.specs.Sources.{AreAllSources, HasItsReleases, AreSources, AreAppSources}
use Rattle.load.specs.Sources.{failures_in}
use Rattle.load.specs.Kept.{IsProgramKept, RefusesKept}
use Rattle.load.specs.Load.{IsLoadFault, IsRulesetOf}

-- the program of an app, from what is kept of its file
pub record IsJudged (app : AppSources) (program : ShapedProgram) : Type 0 where
  pub shape_is : program.shape ≡ app.shape
  pub program_is : IsProgramKept app.entry.source app.kept program

-- why the app has no program
abbrev pub RefusesSources : AppSources → AppFault → Type 0
RefusesSources app fault = RefusesKept app.entry.source app.kept app.shape fault

-- each app has its program
pub data AreJudged : List AppSources → List ShapedProgram → Type 0 where
  no_program : AreJudged [] []
  next_program : {apps : List AppSources} {programs : List ShapedProgram} {app : AppSources}
      {program : ShapedProgram} → IsJudged app program → AreJudged apps programs
      → AreJudged (app ∷ apps) (program ∷ programs)

-- the first app without a program has this number, from 1
pub data IsFirstRefused : List AppSources → ℕ → AppFault → Type 0 where
  here : {app : AppSources} {behind : List AppSources} {fault : AppFault}
      → RefusesSources app fault → IsFirstRefused (app ∷ behind) 1 fault
  there : {app : AppSources} {behind : List AppSources} {number : ℕ} {fault : AppFault}
      (program : ShapedProgram) → IsJudged app program → IsFirstRefused behind number fault
      → IsFirstRefused (app ∷ behind) (suc number) fault

-- the fault of the first app without a program; running out of memory is always allowed
abbrev pub RefusesFirst : List AppSources → LoadFault → Type 0
RefusesFirst apps (File number) = IsFirstRefused apps number app.File
RefusesFirst apps (Program number fault) = IsFirstRefused apps number (app.Program fault)
RefusesFirst apps (Rule number fault) = IsFirstRefused apps number (app.Rule fault)
RefusesFirst apps Memory = Unit {0}
RefusesFirst apps fault = ⊥

-- ---- how the count of unreadable files changes

module _ (known : KnownFiles) (directory : List CellArray) (bytes : List ℕ) (old new : ℕ) where
  -- the manifest is gathered, its first app without a program has this fault, and the count grows
  -- by the number of its unreadable files
  pub record CountsFailures (fault : LoadFault) : Type 0 where
    pub sources : Sources
    pub are_sources : AreSources known directory bytes sources
    pub refused : RefusesFirst sources.apps.items fault
    pub count : new ≡ old + failures_in sources.apps.items

  -- M1 to M3, M7: no file is read; M4 to M6: each unreadable file is counted, and M4 is returned
  -- only if there is one; M8 is left open
  abbrev pub CountsFault : LoadFault → Type 0
  CountsFault (NoManifest fault) = new ≡ old
  CountsFault (Cells number fault) = new ≡ old
  CountsFault (File number) = CountsFailures (File number) × (old < new)
  CountsFault (Program number fault) = CountsFailures (Program number fault)
  CountsFault (Rule number fault) = CountsFailures (Rule number fault)
  CountsFault Memory = Unit {0}

  -- if there is a ruleset, each file was read
  abbrev pub CountsLoad : {X : Type 0} → Result X LoadFault → Type 0
  CountsLoad (Ok loaded) = new ≡ old
  CountsLoad (Err fault) = CountsFault fault

-- ---- the verdict on what is gathered is that of the load

-- an app with its program
abbrev pub app_of : AppSources → ShapedProgram → AppRule
app_of app program = record {
  appid = app.entry.appid;
  program = program;
  releases = app.entry.releases;
}

abbrev pub apps_of : List AppSources → List ShapedProgram → List AppRule
apps_of (app ∷ apps) (program ∷ programs) = app_of app program ∷ apps_of apps programs
apps_of apps programs = []

pub record IsLoadedApp (known : KnownFiles) (directory : List CellArray) (numbers : List ArrayNo)
    (entry : AppEntry) (app : AppSources) : Type 0 where
  pub supplied : (program : ShapedProgram) → IsJudged app program
      → IsAppOf known directory numbers entry (app_of app program)
  pub refused : (fault : AppFault) → RefusesSources app fault
      → RefusesApp known directory numbers entry fault

pub record IsLoadOf (known : KnownFiles) (old : List CellArray) (bytes : List ℕ) (g : Sources)
    (is : AreSources known old bytes g) : Type 0 where
  pub shaped : All HasItsReleases g.apps.items
  -- if each app has its program, no file was left unread
  pub sources : (programs : List ShapedProgram) → AreJudged g.apps.items programs
      → AreAllSources known g.directory is.numbers is.manifest.apps g.apps.items
  pub supplied : (programs : List ShapedProgram) → AreJudged g.apps.items programs
      → IsRulesetOf known old bytes
      (record { server = is.manifest.server; apps = apps_of g.apps.items programs }) g.directory
  pub refused : (fault : LoadFault) → RefusesFirst g.apps.items fault
      → IsLoadFault known old bytes fault
  -- a file is the fault only if one couldn't be read
  pub failed : (number : ℕ) → RefusesFirst g.apps.items (File number)
      → 0 < failures_in g.apps.items

pub record SourcesAreLoaded : Type 0 where
  pub app : (known : KnownFiles) (directory : List CellArray) (numbers : List ArrayNo)
      (entry : AppEntry) (app : AppSources) → AreAppSources known directory numbers entry app
      → IsLoadedApp known directory numbers entry app
  pub manifest : (known : KnownFiles) (old : List CellArray) (bytes : List ℕ) (g : Sources)
      (is : AreSources known old bytes g) → IsLoadOf known old bytes g is
