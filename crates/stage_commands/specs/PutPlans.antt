-- What `put` knows of the manifest in place, and the step that it plans.
use Rattle.std.specs.Prelude.{◌≡◌, ℕ, List, [], codes, find, Bool, Some, None}
use Rattle.bounded_files.specs.Files.{KnownFiles}
use Rattle.load.specs.Opened.{IsCollected}
use Rattle.load.specs.declared.sources.AppSources.{AppSources}
use Rattle.stage_folder.specs.Folders.{GivesFile, KnownFolder, KnownRecords}
use Rattle.stage_folder.specs.declared.records.RecordedSteps.{RecordedSteps}
use Rattle.stage_folder.specs.Steps.{has_name, left_by}
use Rattle.stage_records.specs.Steps.{ReplacedFile, StagingStep}
use Rattle.stage_records.specs.declared.step.StepAction.TheVariants.{Put}
use Rattle.stage_rules.specs.Lifting.{AreNamed}
use Rattle.stage_commands.specs.Puts.{PlansPut}
use Rattle.stage_commands.specs.Taken.{IsNewNumber}
use Rattle.stage_servers.specs.Whole.{AreAllRead}
use Rattle.stage_commands.specs.declared.put_files.Content.{Content}
use Rattle.stage_commands.specs.declared.put_files.Content.TheVariants as content
use Rattle.stage_commands.specs.declared.puts.PutPlan.{PutPlan}
use Rattle.stage_commands.specs.declared.present.Present.{Present}
use Rattle.stage_commands.specs.declared.present.Present.TheVariants as present

-- the manifest in place, if there is one, as it was gathered
abbrev pub IsPresent : KnownFiles → (current : List ℕ) → KnownFolder → Present → Type 0
IsPresent known current folder present.Nothing = GivesFile folder (codes "current.toml") None
IsPresent known current folder (present.Manifest manifest) = IsCollected known current manifest
IsPresent known current folder (present.Refused why) = Unit {0}

-- it wasn't refused
abbrev pub IsUnrefused : Present → Type 0
IsUnrefused (present.Refused why) = ⊥
IsUnrefused other = Unit {0}

-- each app of which the next manifest may lift a halt is among these, unless the one in place is
-- refused
abbrev pub AreLiftedBy : List StagingStep → Present → (next : List AppSources)
    → (named : List (List ℕ)) → Type 0
AreLiftedBy steps present.Nothing next named = AreNamed steps [] next named
AreLiftedBy steps (present.Manifest manifest) next named =
    AreNamed steps manifest.sources.apps.items next named
AreLiftedBy steps (present.Refused why) next named = Unit {0}

-- what these files have under a name, compared with these bytes
abbrev pub IsContent : List ReplacedFile → (name bytes : List ℕ) → Content → Type 0
IsContent files name bytes content.Missing = find (has_name name) files ≡ None
IsContent files name bytes content.Same = left_by files name ≡ Some bytes
IsContent files name bytes content.Other = Unit {0}

-- the files of a manifest, and a number for the step
pub record IsPutPlan (known : KnownFiles) (current manifest : List ℕ) (anyway : Bool)
    (records : KnownRecords) (folder : KnownFolder) (plan : PutPlan) : Type 0 where
  pub recorded : RecordedSteps
  pub are : AreAllRead records recorded
  pub is_new : IsNewNumber records plan.number
  pub action_is : plan.action ≡ Put manifest
  pub files : PlansPut known current manifest folder recorded.steps.items anyway plan.files.items
