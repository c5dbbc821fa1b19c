-- What is known of an action before it changes a file, so that it may be done, or for `--dry-run`
-- could be; and what it leaves.
use Rattle.std.specs.Prelude.{◌≡◌, ◌⊎◌, ℕ, List, Option, IfSome, option_to_list}
use Rattle.bounded_files.specs.Files.{KnownFiles}
use Rattle.stage_folder.specs.Folders.{KnownFolder, KnownRecords}
use Rattle.stage_folder.specs.declared.records.RecordedSteps.{RecordedSteps}
use Rattle.stage_records.specs.Steps.{ReplacedFile}
use Rattle.stage_records.specs.declared.action.StageAction.{StageAction}
use Rattle.stage_records.specs.declared.action.StageAction.TheVariants as action
use Rattle.stage_records.specs.declared.step.StepAction.TheVariants as taken
use Rattle.stage_servers.specs.declared.options.StageOptions.{StageOptions}
use Rattle.stage_servers.specs.declared.outcome.Stop.{Stop}
use Rattle.stage_commands.specs.Actions.{HasNoEdits, IsStaged}
use Rattle.stage_commands.specs.Backs.{LeftByBack, PlansBack}
use Rattle.stage_commands.specs.Compared.{IsAcceptedWith}
use Rattle.stage_commands.specs.Puts.{PlansPut}
use Rattle.stage_commands.specs.ReleaseHalts.{PlansReleaseHalt}
use Rattle.stage_commands.specs.Resumes.{PlansResume}
use Rattle.stage_commands.specs.Stages.{PlansHalt, PlansRaise}
use Rattle.stage_commands.specs.Taken.{HasPlan, IsUnchangedBy, LeftBy}
use Rattle.stage_servers.specs.Whole.{AreAllRead, HasOnlySteps}

module _ (known : KnownFiles) (manifest : List ℕ) (options : StageOptions)
    (records : KnownRecords) (files : KnownFolder) where
  -- ---- which files a step replaces: at most one, or for `put` those of a manifest

  abbrev pub AreHaltFiles : (appid : List ℕ) → List ReplacedFile → Type 0
  AreHaltFiles appid replaced = (file : Option ReplacedFile)
      × (replaced ≡ option_to_list file) × PlansHalt known manifest appid options files file

  abbrev pub AreReleaseHaltFiles : (appid version : List ℕ) → List ReplacedFile → Type 0
  AreReleaseHaltFiles appid version replaced = (file : Option ReplacedFile)
      × (replaced ≡ option_to_list file)
      × PlansReleaseHalt known manifest appid version options files file

  -- the manifest isn't refused with a file that raises or resumes an app
  abbrev pub AreRaiseFiles : (appid : List ℕ) → (buckets : ℕ) → List ReplacedFile → Type 0
  AreRaiseFiles appid buckets replaced = HasOnlySteps records × (file : Option ReplacedFile)
      × (replaced ≡ option_to_list file)
      × PlansRaise known manifest appid buckets options files file
      × IfSome file (IsAcceptedWith known manifest)

  abbrev pub AreResumeFiles : (appid : List ℕ) → (buckets : Option ℕ) → List ReplacedFile → Type 0
  AreResumeFiles appid buckets replaced = (recorded : RecordedSteps)
      × AreAllRead records recorded × ((file : Option ReplacedFile)
      × (replaced ≡ option_to_list file)
      × PlansResume known manifest appid buckets options files recorded.steps.items file
      × IfSome file (IsAcceptedWith known manifest))

  abbrev pub ArePutFiles : (next : List ℕ) → List ReplacedFile → Type 0
  ArePutFiles next replaced = (recorded : RecordedSteps) × AreAllRead records recorded
      × PlansPut known manifest next files recorded.steps.items options.anyway replaced

  -- ---- the plan

  -- the step's files are planned, or which step is to be undone
  abbrev pub IsPlanned : StageAction → Type 0
  IsPlanned (action.Halt appid) = HasPlan (AreHaltFiles appid.now)
  IsPlanned (action.HaltRelease appid version) =
      HasPlan (AreReleaseHaltFiles appid.now version.now)
  IsPlanned (action.Raise appid buckets) = HasPlan (AreRaiseFiles appid.now buckets)
  IsPlanned action.Back = PlansBack known manifest options.anyway records files
  IsPlanned (action.Put next) = HasPlan (ArePutFiles next.now)
  IsPlanned (action.Resume appid buckets) = HasPlan (AreResumeFiles appid.now buckets)
  IsPlanned other = Unit {0}

  -- ---- what is left

  -- nothing has changed; or the action is planned, and its step, of the planned files, is left so
  abbrev pub LeftByPlan : StageAction → Stop → (new_records : KnownRecords) → (new : KnownFolder)
      → Type 0
  LeftByPlan (action.Halt appid) stop new_records new = LeftBy (AreHaltFiles appid.now)
      options (taken.Halt appid.now) stop records new_records files new
  LeftByPlan (action.HaltRelease appid version) stop new_records new =
      LeftBy (AreReleaseHaltFiles appid.now version.now) options
      (taken.HaltRelease appid.now version.now) stop records new_records files new
  LeftByPlan (action.Raise appid buckets) stop new_records new =
      LeftBy (AreRaiseFiles appid.now buckets) options (taken.Raise appid.now buckets) stop records
      new_records files new
  LeftByPlan action.Back stop new_records new =
      LeftByBack known manifest options.anyway stop records new_records files new
  LeftByPlan (action.Put next) stop new_records new = LeftBy (ArePutFiles next.now)
      options (taken.Put next.now) stop records new_records files new
  LeftByPlan (action.Resume appid buckets) stop new_records new =
      LeftBy (AreResumeFiles appid.now buckets) options (taken.Resume appid.now buckets) stop
      records new_records files new
  LeftByPlan other stop new_records new = ⊥

  -- what a stop leaves: nothing has changed; or no edit of a file stops the action, and what is
  -- planned is left so
  abbrev pub LeftByAction : StageAction → Stop → (new_records : KnownRecords)
      → (new : KnownFolder) → Type 0
  LeftByAction action stop new_records new = IsUnchangedBy stop records new_records files new
      ⊎ (HasNoEdits options action records files × LeftByPlan action stop new_records new)

  -- whatever a call returns: the action is done, as it is planned; or left as a stop leaves it
  abbrev pub IsStagedOrLeft : StageAction → (new_records : KnownRecords) → (new : KnownFolder)
      → Type 0
  IsStagedOrLeft action new_records new =
      (IsPlanned action × HasNoEdits options action records files
      × IsStaged known manifest options action records new_records files new)
      ⊎ ((stop : Stop) × LeftByAction action stop new_records new)
