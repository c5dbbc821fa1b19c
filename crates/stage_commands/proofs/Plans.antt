-- What is known of each part makes a plan.
use Rattle.std.proofs.Common.{◌≡◌, ◌∙◌, ℕ, List, Option, Some, Bool, sym, true, false}
use Rattle.std.specs.List.{list_any}
use Rattle.bounded_files.specs.Files.{KnownFiles}
use Rattle.load.specs.Opened.{IsCollected}
use Rattle.load.specs.declared.opened.CollectedManifest.{CollectedManifest}
use Rattle.load.specs.declared.sources.AppSources.{AppSources}
use Rattle.manifest.specs.App.{file_of}
use Rattle.stage_folder.specs.Folders.{GivesFile, KnownFolder}
use Rattle.stage_rules.specs.Halts.{Halts, halting_file}
use Rattle.stage_rules.specs.InForce.{is_resumable, last_halt}
use Rattle.stage_rules.specs.Raises.{IsRaised}
use Rattle.stage_rules.specs.ReleaseHalts.{IsWithout}
use Rattle.stage_records.specs.Steps.{ReplacedFile, StagingStep}
use Rattle.stage_servers.specs.declared.options.StageOptions.{StageOptions}
use Rattle.stage_commands.specs.Apps.{ReplacesBy, shares_file}
use Rattle.stage_servers.specs.Apps.{app_named}
use Rattle.stage_servers.specs.Replaced.{file_named}
use Rattle.stage_commands.specs.ReleaseHalts.{PlansReleaseHalt, PlansReleaseHaltOf}
use Rattle.stage_commands.specs.Resumes.{IsCut, PlansResume, PlansResumeOf, WasBefore}
use Rattle.stage_commands.specs.Resumes.{replaces_after}
use Rattle.stage_commands.specs.Stages.{PlansHalt, PlansHaltOf, PlansRaise, PlansRaiseOf}

pub halt_of : (folder : KnownFolder) (app : AppSources) (found : Option (List ℕ))
    (bytes : List ℕ) (file : Option ReplacedFile)
    → bytes ≡ halting_file app.entry.source → Halts app.entry.source bytes
    → GivesFile folder (file_of app.entry.source) found
    → ((known : KnownFolder) → GivesFile known (file_of app.entry.source) found
    → ReplacesBy known (file_of app.entry.source) bytes file)
    → PlansHaltOf folder app file
halt_of folder app found bytes file is halts given by = record {
  bytes = bytes;
  halts = record { bytes_are = is; halts = halts };
  by = by folder given;
}

pub halt : (known : KnownFiles) (manifest appid : List ℕ) (options : StageOptions)
    (collected : CollectedManifest)
    (app : AppSources) (folder : KnownFolder) (file : Option ReplacedFile)
    → IsCollected known manifest collected
    → app_named collected.sources.apps.items appid ≡ Some app
    → (options.anyway ≡ false → shares_file collected.sources.apps.items app ≡ false)
    → PlansHaltOf folder app file → PlansHalt known manifest appid options folder file
halt known manifest appid options collected app folder file is found alone plan = record {
  app = app;
  is_app = record { manifest = collected; collected = is; found = found; alone = alone };
  plan = plan;
}

pub release_of : (folder : KnownFolder) (app : AppSources) (version was text : List ℕ)
    (file : Option ReplacedFile) → GivesFile folder (file_of app.entry.source) (Some was)
    → IsWithout app.shape app.entry.releases version was text
    → ((known : KnownFolder) → GivesFile known (file_of app.entry.source) (Some was)
    → ReplacesBy known (file_of app.entry.source) text file)
    → PlansReleaseHaltOf folder app version file
release_of folder app version was text file given without by = record {
  text = text;
  leaves_out = record { was = was; given = given; without = without };
  by = by folder given;
}

pub release : (known : KnownFiles) (manifest appid version : List ℕ) (options : StageOptions)
    (collected : CollectedManifest) (app : AppSources) (folder : KnownFolder)
    (file : Option ReplacedFile) → IsCollected known manifest collected
    → app_named collected.sources.apps.items appid ≡ Some app
    → (options.anyway ≡ false → shares_file collected.sources.apps.items app ≡ false)
    → PlansReleaseHaltOf folder app version file
    → PlansReleaseHalt known manifest appid version options folder file
release known manifest appid version options collected app folder file is found alone plan =
    record {
      app = app;
      is_app = record { manifest = collected; collected = is; found = found; alone = alone };
      plan = plan;
    }

pub raise_of : (folder : KnownFolder) (app : AppSources) (buckets : ℕ) (was text : List ℕ)
    (file : Option ReplacedFile) → GivesFile folder (file_of app.entry.source) (Some was)
    → IsRaised app.shape was text buckets
    → ((known : KnownFolder) → GivesFile known (file_of app.entry.source) (Some was)
    → ReplacesBy known (file_of app.entry.source) text file)
    → PlansRaiseOf folder app buckets file
raise_of folder app buckets was text file given raised by = record {
  text = text;
  raises = record { was = was; given = given; raised = raised };
  by = by folder given;
}

pub raise : (known : KnownFiles) (manifest appid : List ℕ) (buckets : ℕ) (options : StageOptions)
    (collected : CollectedManifest) (app : AppSources) (folder : KnownFolder)
    (file : Option ReplacedFile) → IsCollected known manifest collected
    → app_named collected.sources.apps.items appid ≡ Some app
    → (options.anyway ≡ false → shares_file collected.sources.apps.items app ≡ false)
    → PlansRaiseOf folder app buckets file
    → PlansRaise known manifest appid buckets options folder file
raise known manifest appid buckets options collected app folder file is found alone plan = record {
  app = app;
  is_app = record { manifest = collected; collected = is; found = found; alone = alone };
  plan = plan;
}

pub was_before : (steps : List StagingStep) (app : AppSources) (step : StagingStep)
    (file : ReplacedFile) (was : List ℕ) (replaced : Bool)
    → Some step ≡ last_halt steps app.entry.appid
    → Some file ≡ file_named step.files (file_of app.entry.source) → file.before ≡ Some was
    → replaced ≡ list_any (replaces_after step.number (file_of app.entry.source)) steps
    → replaced ≡ false → WasBefore steps app was
was_before steps app step file was replaced last named before is since = record {
  step = step;
  last = sym last;
  file = file;
  named = sym named;
  before = before;
  not_replaced = sym is ∙ since;
}

pub resume_of : (folder : KnownFolder) (steps : List StagingStep) (app : AppSources)
    (buckets : Option ℕ) (was text : List ℕ) (found : Option (List ℕ))
    (file : Option ReplacedFile) → WasBefore steps app was → IsCut app.shape was text buckets
    → GivesFile folder (file_of app.entry.source) found
    → ((known : KnownFolder) → GivesFile known (file_of app.entry.source) found
    → ReplacesBy known (file_of app.entry.source) text file)
    → PlansResumeOf folder steps app buckets file
resume_of folder steps app buckets was text found file halted cut given by = record {
  text = text;
  resumes = record { was = was; halted = halted; cut = cut };
  by = by folder given;
}

pub resume : (known : KnownFiles) (manifest appid : List ℕ) (buckets : Option ℕ)
    (options : StageOptions) (collected : CollectedManifest) (app : AppSources)
    (folder : KnownFolder) (steps : List StagingStep) (file : Option ReplacedFile)
    → IsCollected known manifest collected
    → app_named collected.sources.apps.items appid ≡ Some app
    → (options.anyway ≡ false → shares_file collected.sources.apps.items app ≡ false)
    → is_resumable steps collected.sources.apps.items appid ≡ true
    → PlansResumeOf folder steps app buckets file
    → PlansResume known manifest appid buckets options folder steps file
resume known manifest appid buckets options collected app folder steps file is found alone in_force
    plan = record {
      app = app;
      is_app = record { manifest = collected; collected = is; found = found; alone = alone };
      in_force = in_force;
      plan = plan;
    }
