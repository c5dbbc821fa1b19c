-- What `put` does to the files of a folder, and what it doesn't undo.
use Rattle.std.specs.Prelude.{◌≡◌, ◌⊎◌, ℕ, List, [], ◌∷◌, ◌++◌, All, codes, filter, find}
use Rattle.std.specs.Prelude.{Bool, true, false, Some, None, IfSome}
use Rattle.bounded_files.specs.Files.{KnownFiles}
use Rattle.load.specs.Kept.{whole_file}
use Rattle.load.specs.Opened.{IsCollected}
use Rattle.load.specs.declared.opened.CollectedManifest.{CollectedManifest}
use Rattle.load.specs.declared.sources.AppSources.{AppSources}
use Rattle.manifest.specs.App.{file_of}
use Rattle.stage_folder.specs.Folders.{GivesFile, KnownFolder, KnownRecords}
use Rattle.stage_folder.specs.Steps.{IsFoundBy, has_distinct_names, has_name}
use Rattle.stage_folder.specs.Steps.{is_change, left_by}
use Rattle.stage_folder.specs.declared.records.RecordedSteps.{RecordedSteps}
use Rattle.stage_records.specs.Steps.{ReplacedFile, StagingStep}
use Rattle.stage_records.specs.declared.step.StepAction.TheVariants.{Put}
use Rattle.stage_rules.specs.Lifting.{LiftsNothing}
use Rattle.stage_servers.specs.declared.options.StageOptions.{StageOptions}
use Rattle.stage_commands.specs.Compared.{IsAccepted}
use Rattle.stage_commands.specs.Taken.{IsTaken}
use Rattle.stage_servers.specs.Whole.{AreAllRead}

-- ---- the files of a manifest

-- a file of this name and these bytes is among the files, or is added, with its bytes in place
pub data AddsFile (known : KnownFolder) (name bytes : List ℕ)
    : List ReplacedFile → List ReplacedFile → Type 0 where
  is_there : {files : List ReplacedFile} → left_by files name ≡ Some bytes
      → AddsFile known name bytes files files
  file_added : (files : List ReplacedFile) (file : ReplacedFile)
      → find (has_name name) files ≡ None → file.name ≡ name → file.after ≡ bytes
      → GivesFile known name file.before → AddsFile known name bytes files (files ++ file ∷ [])

-- the same of an app's file, if it was gathered whole
pub data AddsAppFile (known : KnownFolder) (app : AppSources)
    : List ReplacedFile → List ReplacedFile → Type 0 where
  no_file : {files : List ReplacedFile} → whole_file app.kept ≡ None
      → AddsAppFile known app files files
  app_file : {old new : List ReplacedFile} (bytes : List ℕ) → whole_file app.kept ≡ Some bytes
      → AddsFile known (file_of app.entry.source) bytes old new → AddsAppFile known app old new

-- the file of an app, as it was gathered
abbrev pub IsAppFile : AppSources → ReplacedFile → Type 0
IsAppFile app file =
    (file.name ≡ file_of app.entry.source) × (whole_file app.kept ≡ Some file.after)

-- the file of one of these apps
abbrev pub IsAmongFiles : List AppSources → ReplacedFile → Type 0
IsAmongFiles [] file = ⊥
IsAmongFiles (app ∷ apps) file = IsAppFile app file ⊎ IsAmongFiles apps file

-- the manifest itself, or a file that it names
abbrev pub IsFileOf : (manifest : List ℕ) → List AppSources → ReplacedFile → Type 0
IsFileOf manifest apps file =
    ((file.name ≡ codes "current.toml") × (file.after ≡ manifest)) ⊎ IsAmongFiles apps file

-- a longer list of files leaves all that a shorter one does
abbrev pub Extends : (files more : List ReplacedFile) → Type 0
Extends files more =
    (name bytes : List ℕ) → left_by files name ≡ Some bytes → left_by more name ≡ Some bytes

-- these files leave an app's file with the bytes that were gathered, if they are whole
abbrev pub IsGivenBy : List ReplacedFile → AppSources → Type 0
IsGivenBy files app =
    IfSome (whole_file app.kept) (λ bytes. left_by files (file_of app.entry.source) ≡ Some bytes)

-- the files of some apps, each once, with their bytes in place, and the apps that are left
pub record AreFilesSoFar (known : KnownFolder) (apps left : List AppSources)
    (files : List ReplacedFile) : Type 0 where
  pub are : All (IsAmongFiles apps) files
  pub left_are : (file : ReplacedFile) → IsAmongFiles left file → IsAmongFiles apps file
  pub given : (more : List ReplacedFile) → Extends files more → All (IsGivenBy more) left
      → All (IsGivenBy more) apps
  pub found : IfSome known (IsFoundBy files)
  pub distinct : has_distinct_names files ≡ true

-- all files of a manifest, each once, with their bytes in place
pub record AreFilesOf (known : KnownFolder) (manifest : List ℕ) (apps : List AppSources)
    (all : List ReplacedFile) : Type 0 where
  pub are : All (IsFileOf manifest apps) all
  pub given : All (IsGivenBy all) apps
  pub manifest_given : left_by all (codes "current.toml") ≡ Some manifest
  pub found : IfSome known (IsFoundBy all)
  pub distinct : has_distinct_names all ≡ true

-- those that change
pub record AreChangesTo (known : KnownFolder) (manifest : List ℕ) (apps : List AppSources)
    (files : List ReplacedFile) : Type 0 where
  pub all : List ReplacedFile
  pub are_files : AreFilesOf known manifest apps all
  pub changes : files ≡ filter is_change all

-- ---- halts

-- the next manifest lifts no halt of these steps that is in force under the manifest in place; or
-- none is in place, and it offers no app of a halt
pub data LiftsNone (known : KnownFiles) (current : List ℕ) (folder : KnownFolder)
    (steps : List StagingStep) (next : List AppSources) : Type 0 where
  none_lifted : (manifest : CollectedManifest) → IsCollected known current manifest
      → LiftsNothing steps manifest.sources.apps.items next
      → LiftsNone known current folder steps next
  none_offered : GivesFile folder (codes "current.toml") None → LiftsNothing steps [] next
      → LiftsNone known current folder steps next

-- ---- the whole

-- an app's file has the bytes that were gathered, if they are whole
abbrev pub IsInPlace : KnownFolder → AppSources → Type 0
IsInPlace folder app = IfSome (whole_file app.kept)
    (λ bytes. GivesFile folder (file_of app.entry.source) (Some bytes))

-- a manifest and its files are in place
pub record AreInPlace (folder : KnownFolder) (manifest : List ℕ) (apps : List AppSources)
    : Type 0 where
  pub manifest_is : GivesFile folder (codes "current.toml") (Some manifest)
  pub apps_are : All (IsInPlace folder) apps

module _ (known : KnownFiles) (current manifest : List ℕ) where
  pub record PlansPut (folder : KnownFolder) (steps : List StagingStep) (anyway : Bool)
      (files : List ReplacedFile) : Type 0 where
    pub next : CollectedManifest
    pub collected : IsCollected known manifest next
    pub accepted : IsAccepted next
    pub changes : AreChangesTo folder next.bytes.items next.sources.apps.items files
    pub lifts_none : anyway ≡ false
        → LiftsNone known current folder steps next.sources.apps.items

  -- the manifest at a path, of which no file is at fault, and its files are in place, no other file
  -- has changed, and without `--anyway` no halt that is recorded is lifted
  pub record HasPut (options : StageOptions) (old_records new_records : KnownRecords)
      (old new : KnownFolder) : Type 0 where
    pub recorded : RecordedSteps
    pub are : AreAllRead old_records recorded
    pub files : List ReplacedFile
    pub plan : PlansPut old recorded.steps.items options.anyway files
    pub taken : IsTaken options (Put manifest) files old_records new_records old new
    pub in_place : AreInPlace new plan.next.bytes.items plan.next.sources.apps.items
