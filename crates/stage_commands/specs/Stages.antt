-- What each action of `stage` does to the files of a folder.
use Rattle.std.specs.Prelude.{◌≡◌, ℕ, List, All, Option, Some}
use Rattle.bounded_files.specs.Files.{KnownFiles}
use Rattle.load.specs.declared.sources.AppSources.{AppSources}
use Rattle.manifest.specs.App.{file_of}
use Rattle.stage_folder.specs.Folders.{GivesFile, KnownFolder, KnownRecords}
use Rattle.stage_rules.specs.Halts.{Halts, halting_file}
use Rattle.stage_rules.specs.Raises.{IsRaised}
use Rattle.stage_records.specs.Steps.{ReplacedFile}
use Rattle.stage_records.specs.declared.step.StepAction.TheVariants.{Halt, Raise}
use Rattle.stage_servers.specs.declared.options.StageOptions.{StageOptions}
use Rattle.stage_servers.specs.Whole.{HasOnlySteps}
use Rattle.stage_commands.specs.Apps.{IsAppOf, Replaces, ReplacesBy}
use Rattle.stage_commands.specs.Compared.{IsAcceptedWith}
use Rattle.stage_commands.specs.Taken.{IsTaken}

-- ---- halt

-- bytes that no load refuses as the file of this app, and by which nobody is offered a release
pub record HaltsBy (app : AppSources) (bytes : List ℕ) : Type 0 where
  pub bytes_are : bytes ≡ halting_file app.entry.source
  pub halts : Halts app.entry.source bytes

-- what halts an app
pub record PlansHaltOf (folder : KnownFolder) (app : AppSources) (file : Option ReplacedFile)
    : Type 0 where
  pub bytes : List ℕ
  pub halts : HaltsBy app bytes
  pub by : ReplacesBy folder (file_of app.entry.source) bytes file

module _ (known : KnownFiles) (manifest appid : List ℕ) (options : StageOptions) where
  pub record PlansHalt (folder : KnownFolder) (file : Option ReplacedFile) : Type 0 where
    pub app : AppSources
    pub is_app : IsAppOf known manifest appid options.anyway app
    pub plan : PlansHaltOf folder app file

  -- the app's file, as the manifest in place has it, then halts the app; all other files are as
  -- before, and a step that replaces a file is recorded
  pub record HasHalted (old_records new_records : KnownRecords) (old new : KnownFolder)
      : Type 0 where
    pub app : AppSources
    pub is_app : IsAppOf known manifest appid options.anyway app
    pub bytes : List ℕ
    pub halts : HaltsBy app bytes
    pub replaced : Replaces old new (file_of app.entry.source) bytes
    pub files : List ReplacedFile
    pub taken : IsTaken options (Halt appid) files old_records new_records old new

-- ---- raise

-- the new text of an app's rule
pub record RaisesTo (folder : KnownFolder) (app : AppSources) (buckets : ℕ) (text : List ℕ)
    : Type 0 where
  pub was : List ℕ
  pub given : GivesFile folder (file_of app.entry.source) (Some was)
  pub raised : IsRaised app.shape was text buckets

-- what raises an app
pub record PlansRaiseOf (folder : KnownFolder) (app : AppSources) (buckets : ℕ)
    (file : Option ReplacedFile) : Type 0 where
  pub text : List ℕ
  pub raises : RaisesTo folder app buckets text
  pub by : ReplacesBy folder (file_of app.entry.source) text file

module _ (known : KnownFiles) (manifest appid : List ℕ) (buckets : ℕ) (options : StageOptions)
  where
    pub record PlansRaise (folder : KnownFolder) (file : Option ReplacedFile) : Type 0 where
      pub app : AppSources
      pub is_app : IsAppOf known manifest appid options.anyway app
      pub plan : PlansRaiseOf folder app buckets file

    -- each record is a step's; the app's rule is then the one before with this number in its
    -- threshold; the manifest isn't refused with a file that is replaced; all other files are as
    -- before, and a step that replaces a file is recorded
    pub record HasRaised (old_records new_records : KnownRecords) (old new : KnownFolder)
        : Type 0 where
      pub read : HasOnlySteps old_records
      pub app : AppSources
      pub is_app : IsAppOf known manifest appid options.anyway app
      pub text : List ℕ
      pub raises : RaisesTo old app buckets text
      pub replaced : Replaces old new (file_of app.entry.source) text
      pub files : List ReplacedFile
      pub accepted : All (IsAcceptedWith known manifest) files
      pub taken : IsTaken options (Raise appid buckets) files old_records new_records old new
