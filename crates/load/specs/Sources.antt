-- What is gathered of a manifest and its files before any app is judged.
use Rattle.std.specs.Prelude.{◌≡◌, ◌⊎◌, ℕ, ◌+◌, ◌^◌, ◌<◌, ◌≤◌, List, [], ◌∷◌, length, Ok}
use Rattle.std.specs.List.{count_by}
use Rattle.bounded_files.specs.Files.{KnownFiles}
use Rattle.cells.specs.Directory.{Declaration}
use Rattle.cells.specs.declared.array.ArrayNo.{ArrayNo}
use Rattle.cells.specs.declared.array.CellArray.{CellArray}
use Rattle.declarations.specs.Order.{AreDeclared}
use Rattle.manifest.specs.App.{AppEntry}
use Rattle.manifest.specs.Manifest.{Manifest, ReadsManifest}
use Rattle.manifest.specs.Parsed.{IsParsed}
use Rattle.manifest.specs.declared.refused.Parsed.{Parsed}
use Rattle.manifest.specs.declared.refused.Parsed.TheVariants.{Nothing}
use Rattle.load.specs.declared.load_fault.LoadFault.{LoadFault}
use Rattle.load.specs.declared.load_fault.LoadFault.TheVariants.{Manifest as NoManifest, Cells}
use Rattle.load.specs.declared.load_fault.LoadFault.TheVariants.{Memory}
use Rattle.load.specs.declared.sources.Sources.{Sources}
use Rattle.load.specs.declared.sources.AppSources.{AppSources}
use Rattle.load.specs.declared.refusal.SourcesRefusal.{SourcesRefusal}
use Rattle.load.specs.App.{IsShapeOf}
use Rattle.load.specs.Kept.{IsKeptFrom, is_unread, long_count}
use Rattle.load.specs.Load.{IsLoadFault}

-- once files that are too long have more bytes than this in all, no further file is read: 64 MiB
abbrev pub most_long : ℕ
most_long = 2 ^ 26

module _ (known : KnownFiles) (directory : List CellArray) (numbers : List ArrayNo) where
  -- the app of an entry: its shape, and what is kept of its file
  pub record AreAppSources (entry : AppEntry) (app : AppSources) : Type 0 where
    pub entry_is : app.entry ≡ entry
    pub shape_is : IsShapeOf directory numbers entry app.shape
    pub kept_is : IsKeptFrom known entry.source app.kept

  -- each entry has its app
  pub data AreAllSources : List AppEntry → List AppSources → Type 0 where
    no_app : AreAllSources [] []
    next_app : {entries : List AppEntry} {apps : List AppSources} {entry : AppEntry}
        {app : AppSources} → AreAppSources entry app → AreAllSources entries apps
        → AreAllSources (entry ∷ entries) (app ∷ apps)

  -- the same for the entries whose files are read, after `long` bytes of files that are too long;
  -- `unread` entries follow whose files aren't read
  pub data AreReadInTurn : (long : ℕ) → List AppEntry → List AppSources → (unread : ℕ)
      → Type 0 where
    all_read : {long : ℕ} → AreReadInTurn long [] [] 0
    not_read : {long : ℕ} {entries : List AppEntry} → most_long < long
        → AreReadInTurn long entries [] (length entries)
    next_read : {long : ℕ} {entries : List AppEntry} {apps : List AppSources} {entry : AppEntry}
        {app : AppSources} {unread : ℕ} → long ≤ most_long → AreAppSources entry app
        → AreReadInTurn (long + long_count app.kept) entries apps unread
        → AreReadInTurn long (entry ∷ entries) (app ∷ apps) unread

-- how many files of these apps couldn't be read
abbrev pub failures_in : List AppSources → ℕ
failures_in apps = count_by (λ app. is_unread app.kept) apps

-- an app's shape has as many releases as the app
abbrev pub HasItsReleases : AppSources → Type 0
HasItsReleases app = app.shape.releases ≡ length app.entry.releases

-- from the manifest of these bytes: its server's text, its arrays, declared after the existing
-- ones, and those of its apps whose files are read
pub record AreSources (known : KnownFiles) (old : List CellArray) (bytes : List ℕ) (g : Sources)
    : Type 0 where
  pub manifest : Manifest
  pub read : ReadsManifest bytes (Ok manifest)
  pub server_is : g.server ≡ manifest.server
  pub arrays_are : g.arrays.items ≡ manifest.arrays
  pub numbers : List ArrayNo
  pub declared : AreDeclared old manifest.arrays numbers g.directory
  pub apps_are : AreReadInTurn known g.directory numbers 0 manifest.apps g.apps.items g.unread

-- the arrays of the manifest that these bytes spell
abbrev pub AreArraysOf : List ℕ → List Declaration → Type 0
AreArraysOf bytes arrays =
    (manifest : Manifest) × ReadsManifest bytes (Ok manifest) × (arrays ≡ manifest.arrays)

-- the arrays that come with a fault that depends on no file: none if the bytes aren't a manifest;
-- the manifest's if one of them can't be declared; either if memory ran out
abbrev pub AreArraysWithFault : List ℕ → LoadFault → List Declaration → Type 0
AreArraysWithFault bytes (NoManifest fault) arrays = arrays ≡ []
AreArraysWithFault bytes (Cells number fault) arrays = AreArraysOf bytes arrays
AreArraysWithFault bytes Memory arrays = (arrays ≡ []) ⊎ AreArraysOf bytes arrays
AreArraysWithFault bytes fault arrays = ⊥

-- what the bytes were parsed as, if they aren't a manifest; nothing for any other fault
abbrev pub IsParsedWithFault : List ℕ → LoadFault → Parsed → Type 0
IsParsedWithFault bytes (NoManifest fault) parsed = IsParsed bytes fault parsed
IsParsedWithFault bytes fault parsed = parsed ≡ Nothing

-- why nothing is gathered, whatever the files would give; the arrays that are known then; and what
-- the bytes were parsed as
pub record IsSourcesRefusal (old : List CellArray) (bytes : List ℕ)
    (u : SourcesRefusal) : Type 0 where
  pub fault_is : (known : KnownFiles) → IsLoadFault known old bytes u.fault
  pub arrays_are : AreArraysWithFault bytes u.fault u.arrays.items
  pub parsed_is : IsParsedWithFault bytes u.fault u.parsed
