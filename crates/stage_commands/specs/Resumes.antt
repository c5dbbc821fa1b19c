-- What `resume` does to the files of a folder.
use Rattle.std.specs.Prelude.{◌≡◌, ◌&&◌, ℕ, nat_lt, List, All, Option, Some, None, is_some}
use Rattle.std.specs.Prelude.{Bool, true, false, not}
use Rattle.std.specs.List.{list_any}
use Rattle.bounded_files.specs.Files.{KnownFiles}
use Rattle.cells.specs.Arrays.{AppShape}
use Rattle.load.specs.declared.sources.AppSources.{AppSources}
use Rattle.manifest.specs.App.{file_of}
use Rattle.stage_folder.specs.Folders.{KnownFolder, KnownRecords}
use Rattle.stage_folder.specs.declared.records.RecordedSteps.{RecordedSteps}
use Rattle.stage_records.specs.Steps.{ReplacedFile, StagingStep}
use Rattle.stage_records.specs.declared.step.StepAction.TheVariants.{Resume}
use Rattle.stage_rules.specs.InForce.{is_resumable, last_halt}
use Rattle.stage_rules.specs.Raises.{IsRaised}
use Rattle.stage_commands.specs.Apps.{IsAppOf, Replaces, ReplacesBy}
use Rattle.stage_commands.specs.Compared.{IsAcceptedWith}
use Rattle.stage_servers.specs.Replaced.{file_named}
use Rattle.stage_servers.specs.declared.options.StageOptions.{StageOptions}
use Rattle.stage_commands.specs.Taken.{IsTaken}
use Rattle.stage_servers.specs.Whole.{AreAllRead}

-- a step of a greater number, which isn't undone, replaced the file of this name
abbrev pub replaces_after : (number : ℕ) → (name : List ℕ) → StagingStep → Bool
replaces_after number name step =
    nat_lt number step.number && not step.is_undone && is_some (file_named step.files name)

-- the last halt of the app that isn't undone found these bytes in its file, which no later step
-- replaced but one that is undone
pub record WasBefore (steps : List StagingStep) (app : AppSources) (was : List ℕ) : Type 0 where
  pub step : StagingStep
  pub last : last_halt steps app.entry.appid ≡ Some step
  pub file : ReplacedFile
  pub named : file_named step.files (file_of app.entry.source) ≡ Some file
  pub before : file.before ≡ Some was
  pub not_replaced :
      list_any (replaces_after step.number (file_of app.entry.source)) steps ≡ false

-- the same bytes, or the rule with this number in its threshold
abbrev pub IsCut : AppShape → (was text : List ℕ) → (buckets : Option ℕ) → Type 0
IsCut shape was text None = text ≡ was
IsCut shape was text (Some buckets) = IsRaised shape was text buckets

-- what an app's file gets
pub record ResumesTo (steps : List StagingStep) (app : AppSources) (buckets : Option ℕ)
    (text : List ℕ) : Type 0 where
  pub was : List ℕ
  pub halted : WasBefore steps app was
  pub cut : IsCut app.shape was text buckets

-- what resumes an app
pub record PlansResumeOf (folder : KnownFolder) (steps : List StagingStep) (app : AppSources)
    (buckets : Option ℕ) (file : Option ReplacedFile) : Type 0 where
  pub text : List ℕ
  pub resumes : ResumesTo steps app buckets text
  pub by : ReplacesBy folder (file_of app.entry.source) text file

module _ (known : KnownFiles) (manifest appid : List ℕ) (buckets : Option ℕ)
    (options : StageOptions) where
  pub record PlansResume (folder : KnownFolder) (steps : List StagingStep)
      (file : Option ReplacedFile) : Type 0 where
    pub app : AppSources
    pub is_app : IsAppOf known manifest appid options.anyway app
    pub in_force : is_resumable steps is_app.manifest.sources.apps.items appid ≡ true
    pub plan : PlansResumeOf folder steps app buckets file

  -- a halt of the app is in force, or its last one is that of a release; its file then has what its
  -- last recorded halt that isn't undone found there, but for the number of its threshold if one is
  -- given; the manifest isn't refused with a file that is replaced; all other files are as before,
  -- and a step that replaces a file is recorded
  pub record HasResumed (old_records new_records : KnownRecords) (old new : KnownFolder)
      : Type 0 where
    pub recorded : RecordedSteps
    pub are : AreAllRead old_records recorded
    pub app : AppSources
    pub is_app : IsAppOf known manifest appid options.anyway app
    pub in_force : is_resumable recorded.steps.items is_app.manifest.sources.apps.items appid
        ≡ true
    pub text : List ℕ
    pub resumes : ResumesTo recorded.steps.items app buckets text
    pub replaced : Replaces old new (file_of app.entry.source) text
    pub files : List ReplacedFile
    pub accepted : All (IsAcceptedWith known manifest) files
    pub taken : IsTaken options (Resume appid buckets) files old_records new_records old new
