-- What an action of `stage` does to the files and records of a folder.
use Rattle.std.specs.Prelude.{◌≡◌, List, [], ℕ, true}
use Rattle.bounded_files.specs.Files.{KnownFiles}
use Rattle.stage_folder.specs.Folders.{KnownFolder, KnownRecords}
use Rattle.stage_commands.specs.Backs.{HasGoneBack}
use Rattle.stage_commands.specs.Puts.{HasPut}
use Rattle.stage_commands.specs.ReleaseHalts.{HasHaltedRelease}
use Rattle.stage_commands.specs.Stages.{HasHalted, HasRaised}
use Rattle.stage_commands.specs.Resumes.{HasResumed}
use Rattle.stage_commands.specs.Taken.{IsUnchanged}
use Rattle.stage_records.specs.declared.action.StageAction.{StageAction}
use Rattle.stage_records.specs.declared.action.StageAction.TheVariants as action
use Rattle.stage_servers.specs.Drift.{is_back}
use Rattle.stage_servers.specs.Unedited.{IsUnedited, compares_files}
use Rattle.stage_servers.specs.declared.options.StageOptions.{StageOptions}

module _ (known : KnownFiles) (manifest : List ℕ) (options : StageOptions) where
  -- from the records and files before to those after
  abbrev pub IsStaged : StageAction → (old_records new_records : KnownRecords)
      → (old new : KnownFolder) → Type 0
  IsStaged (action.Halt appid) old_records new_records old new =
      HasHalted known manifest appid.now options old_records new_records old new
  IsStaged (action.HaltRelease appid version) old_records new_records old new =
      HasHaltedRelease known manifest appid.now version.now options old_records new_records old new
  IsStaged (action.Raise appid buckets) old_records new_records old new =
      HasRaised known manifest appid.now buckets options old_records new_records old new
  IsStaged action.Back old_records new_records old new =
      HasGoneBack known manifest options.anyway old_records new_records old new
  IsStaged (action.Put next) old_records new_records old new =
      HasPut known manifest next.now options old_records new_records old new
  IsStaged action.Status old_records new_records old new =
      IsUnchanged old_records new_records old new
  IsStaged (action.History appid) old_records new_records old new =
      IsUnchanged old_records new_records old new
  IsStaged (action.Resume appid buckets) old_records new_records old new =
      HasResumed known manifest appid.now buckets options old_records new_records old new

-- without a server, and without `--anyway`, an action that changes files, but no halt, is done only
-- if each record is read, and each file that a step which isn't undone replaced is as the last of
-- these left it; for `back`, but those of its own step
abbrev pub HasNoEdits : StageOptions → StageAction → KnownRecords → KnownFolder → Type 0
HasNoEdits options action records files = options.no_load ≡ true
    → compares_files options action [] ≡ true → IsUnedited (is_back action) records files
