-- What a halt of one release does to the files of a folder.
use Rattle.std.specs.Prelude.{ℕ, List, Option, Some}
use Rattle.bounded_files.specs.Files.{KnownFiles}
use Rattle.load.specs.declared.sources.AppSources.{AppSources}
use Rattle.manifest.specs.App.{file_of}
use Rattle.stage_folder.specs.Folders.{GivesFile, KnownFolder, KnownRecords}
use Rattle.stage_rules.specs.ReleaseHalts.{IsWithout}
use Rattle.stage_records.specs.Steps.{ReplacedFile}
use Rattle.stage_records.specs.declared.step.StepAction.TheVariants.{HaltRelease}
use Rattle.stage_servers.specs.declared.options.StageOptions.{StageOptions}
use Rattle.stage_commands.specs.Apps.{IsAppOf, Replaces, ReplacesBy}
use Rattle.stage_commands.specs.Taken.{IsTaken}

-- the new text of an app's rule: the one before, without the statements that offer the version
pub record LeavesOutTo (folder : KnownFolder) (app : AppSources) (version text : List ℕ)
    : Type 0 where
  pub was : List ℕ
  pub given : GivesFile folder (file_of app.entry.source) (Some was)
  pub without : IsWithout app.shape app.entry.releases version was text

-- what halts a release of an app
pub record PlansReleaseHaltOf (folder : KnownFolder) (app : AppSources) (version : List ℕ)
    (file : Option ReplacedFile) : Type 0 where
  pub text : List ℕ
  pub leaves_out : LeavesOutTo folder app version text
  pub by : ReplacesBy folder (file_of app.entry.source) text file

module _ (known : KnownFiles) (manifest appid version : List ℕ) (options : StageOptions) where
  pub record PlansReleaseHalt (folder : KnownFolder) (file : Option ReplacedFile) : Type 0 where
    pub app : AppSources
    pub is_app : IsAppOf known manifest appid options.anyway app
    pub plan : PlansReleaseHaltOf folder app version file

  -- the app's rule is then the one before without the statements that offer the version; all other
  -- files are as before, and a step that replaces a file is recorded
  pub record HasHaltedRelease (old_records new_records : KnownRecords) (old new : KnownFolder)
      : Type 0 where
    pub app : AppSources
    pub is_app : IsAppOf known manifest appid options.anyway app
    pub text : List ℕ
    pub leaves_out : LeavesOutTo old app version text
    pub replaced : Replaces old new (file_of app.entry.source) text
    pub files : List ReplacedFile
    pub taken : IsTaken options (HaltRelease appid version) files old_records new_records old new
