-- When each file of a folder is as the last step that replaced it left it.
use Rattle.std.specs.Prelude.{◌≡◌, ◌==◌, ◌&&◌, ◌||◌, ℕ, List, [], ◌∷◌, All, Bool, true, false}
use Rattle.std.specs.Prelude.{is_some, not}
use Rattle.std.specs.List.{list_all, list_any}
use Rattle.stage_folder.specs.Folders.{KnownFolder, KnownRecords}
use Rattle.stage_folder.specs.declared.records.RecordedSteps.{RecordedSteps}
use Rattle.stage_records.specs.Steps.{ReplacedFile, StagingStep, last_step}
use Rattle.stage_records.specs.declared.action.StageAction.{StageAction}
use Rattle.stage_servers.specs.Drift.{is_halt, is_put}
use Rattle.stage_servers.specs.Replaced.{file_named}
use Rattle.stage_servers.specs.Whole.{AreAllRead, IsAsLeft, only_looks}
use Rattle.stage_servers.specs.declared.options.StageOptions.{StageOptions}
use Rattle.stage_servers.specs.declared.serves.Serves.{Serves}
use Rattle.stage_servers.specs.declared.serves.Serves.TheVariants as serves
use Rattle.stage_servers.specs.declared.serves.Surveyed.{Surveyed}

-- a step that isn't undone replaced the file of this name
abbrev pub replaces : (name : List ℕ) → StagingStep → Bool
replaces name step = not step.is_undone && is_some (file_named step.files name)

-- a file that no later step replaced is as a step left it
abbrev pub IsLastLeft : KnownFolder → (later : List StagingStep) → ReplacedFile → Type 0
IsLastLeft folder later file =
    list_any (replaces file.name) later ≡ false → IsAsLeft folder file

-- a step whose files count: it isn't undone, and `back` isn't to undo it, which compares its files
-- then
abbrev pub counts : (is_back : Bool) → StagingStep → (later : List StagingStep) → Bool
counts is_back step later = not step.is_undone && (not is_back || is_some (last_step later))

-- each file of a step that counts is as it left it, unless a later one replaced it
abbrev pub AreFilesUnedited : (is_back : Bool) → KnownFolder → StagingStep
    → (later : List StagingStep) → Type 0
AreFilesUnedited is_back folder step later =
    counts is_back step later ≡ true → All (IsLastLeft folder later) step.files

-- the same of each of these steps
abbrev pub AreUnedited : (is_back : Bool) → KnownFolder → List StagingStep → Type 0
AreUnedited is_back folder [] = Unit {0}
AreUnedited is_back folder (step ∷ later) =
    AreFilesUnedited is_back folder step later × AreUnedited is_back folder later

-- the same of the recorded steps, of which each record is read
abbrev pub IsUnedited : (is_back : Bool) → KnownRecords → KnownFolder → Type 0
IsUnedited is_back records folder = (recorded : RecordedSteps)
    × AreAllRead records recorded × AreUnedited is_back folder recorded.steps.items

-- ---- when an action looks at the files

-- nobody knows what a server serves
abbrev pub is_unknown : Serves → Bool
is_unknown serves.Unknown = true
is_unknown other = false

-- a server serves what the last step left, which isn't in place then
abbrev pub serves_last : Serves → Bool
serves_last (serves.Step number later files left) = later == 0
serves_last other = false

-- an action looks at the files if no server says what it serves; or if one serves what the last
-- step left, and the action isn't a put, whose rows begin with what is served
abbrev pub depends_on_files : StageAction → List Surveyed → Bool
depends_on_files action servers = list_all (λ server. is_unknown server.serves) servers
    || (not (is_put action) && list_any (λ server. serves_last server.serves) servers)

-- only one that changes files, but isn't a halt, does so; it reads the records first, whatever the
-- options are
abbrev pub reads_records : StageAction → List Surveyed → Bool
reads_records action servers =
    not (only_looks action || is_halt action) && depends_on_files action servers

-- it also compares the files, unless `--anyway` continues it
abbrev pub compares_files : StageOptions → StageAction → List Surveyed → Bool
compares_files options action servers =
    not (only_looks action || is_halt action || options.anyway) && depends_on_files action servers
