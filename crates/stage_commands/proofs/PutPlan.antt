-- What is known of each part makes the plan of a put.
use Rattle.std.proofs.Common.{◌≡◌, ℕ, List, [], Bool, false}
use Rattle.bounded_files.specs.Files.{KnownFiles}
use Rattle.load.specs.Opened.{IsCollected}
use Rattle.load.specs.declared.opened.CollectedManifest.{CollectedManifest}
use Rattle.load.specs.declared.sources.AppSources.{AppSources}
use Rattle.stage_folder.specs.Folders.{KnownFolder, KnownRecords}
use Rattle.stage_folder.specs.declared.records.RecordedSteps.{RecordedSteps}
use Rattle.stage_records.specs.Steps.{ReplacedFile, StagingStep}
use Rattle.stage_records.specs.declared.step.StepAction.TheVariants.{Put}
use Rattle.stage_commands.specs.Compared.{IsAccepted}
use Rattle.stage_commands.specs.PutPlans.{AreLiftedBy, IsPresent, IsPutPlan, IsUnrefused}
use Rattle.stage_commands.specs.Puts.{AreChangesTo, LiftsNone, PlansPut, none_lifted, none_offered}
use Rattle.stage_commands.specs.Taken.{IsNewNumber}
use Rattle.stage_commands.proofs.Then.{lifts_nothing}
use Rattle.stage_servers.specs.Whole.{AreAllRead}
use Rattle.stage_commands.specs.declared.puts.PutPlan.{PutPlan}
use Rattle.stage_commands.specs.declared.present.Present.{Present}
use Rattle.stage_commands.specs.declared.present.Present.TheVariants as present

pub lifts_none : (known : KnownFiles) (current : List ℕ) (folder : KnownFolder)
    (steps : List StagingStep) (there : Present) (next : List AppSources)
    (named : List (List ℕ)) → IsPresent known current folder there → IsUnrefused there
    → AreLiftedBy steps there next named → named ≡ []
    → LiftsNone known current folder steps next
lifts_none known current folder steps present.Nothing next named is some are none =
    none_offered is (lifts_nothing steps [] next named are none)
lifts_none known current folder steps (present.Manifest manifest) next named is some are none =
    none_lifted manifest is
    (lifts_nothing steps manifest.sources.apps.items next named are none)
lifts_none known current folder steps (present.Refused why) next named is some are none =
    absurd some

pub plans : (known : KnownFiles) (current manifest : List ℕ) (folder : KnownFolder)
    (steps : List StagingStep) (anyway : Bool) (files : List ReplacedFile)
    (next : CollectedManifest) → IsCollected known manifest next → IsAccepted next
    → AreChangesTo folder next.bytes.items next.sources.apps.items files
    → (anyway ≡ false → LiftsNone known current folder steps next.sources.apps.items)
    → PlansPut known current manifest folder steps anyway files
plans known current manifest folder steps anyway files next collected accepted are lifts = record {
  next = next;
  collected = collected;
  accepted = accepted;
  changes = are;
  lifts_none = lifts;
}

pub put_plan : (known : KnownFiles) (current manifest : List ℕ) (anyway : Bool)
    (records : KnownRecords) (folder : KnownFolder) (plan : PutPlan) (recorded : RecordedSteps)
    → AreAllRead records recorded → IsNewNumber records plan.number
    → plan.action ≡ Put manifest
    → PlansPut known current manifest folder recorded.steps.items anyway plan.files.items
    → IsPutPlan known current manifest anyway records folder plan
put_plan known current manifest anyway records folder plan recorded are number action files =
    record {
      recorded = recorded;
      are = are;
      is_new = number;
      action_is = action;
      files = files;
    }
