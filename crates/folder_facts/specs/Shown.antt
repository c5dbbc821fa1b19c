-- What a folder of `stage` shows.
use Rattle.std.specs.Prelude.{◌≡◌, ℕ, ◌-◌, List, [], String, length, drop, map, reverse}
use Rattle.std.specs.Prelude.{IfSome, Option}
use Rattle.std.specs.declared.alloc.Global.{Global}
use Rattle.bounded_files.specs.Files.{KnownFiles}
use Rattle.load.specs.Opened.{IsCollected}
use Rattle.load.specs.declared.opened.CollectedManifest.{CollectedManifest}
use Rattle.stage_folder.specs.Folders.{KnownRecords}
use Rattle.stage_folder.specs.Recorded.{AreRecorded}
use Rattle.stage_folder.specs.declared.records.RecordedSteps.{RecordedSteps}
use Rattle.stage_records.specs.Steps.{StagingStep}
use Rattle.report_page.specs.declared.folder.FolderFacts.{FolderFacts}
use Rattle.report_page.specs.declared.folder.OfferedApp.{OfferedApp}
use Rattle.report_page.specs.declared.folder.TakenStep.{TakenStep}
use Rattle.folder_facts.specs.Digests.{AreLeft, IsDigestOf}
use Rattle.folder_facts.specs.Offered.{AreOffered}

-- the last of these, at most 20
abbrev pub last_steps : List StagingStep → List StagingStep
last_steps steps = drop (length steps - 20) steps

-- these are the last recorded steps, the newest first
abbrev pub AreTaken : List StagingStep → List TakenStep → Type 0
AreTaken steps taken =
    map (λ step. step.number) (reverse taken) ≡ map (λ step. step.number) (last_steps steps)

-- all records are read, these are the last steps, `earlier` is the number of those before, and each
-- digest is of what steps found or left
pub record AreStepsShown (files : KnownFiles) (path : List ℕ) (records : KnownRecords)
    (taken : List TakenStep) (earlier : ℕ) (left : List (String Global)) : Type 0 where
  pub recorded : RecordedSteps
  pub are : AreRecorded records recorded
  pub all_read : recorded.unread.items ≡ []
  pub are_taken : AreTaken recorded.steps.items taken
  pub earlier_is : earlier ≡ length recorded.steps.items - 20
  pub are_left : AreLeft files path recorded.steps.items left

-- the manifest at this path is read, these are its apps, and the digest is its own
pub record AreAppsShown (files : KnownFiles) (path : List ℕ) (apps : List OfferedApp)
    (digest : Option (String Global)) : Type 0 where
  pub collected : CollectedManifest
  pub are : IsCollected files path collected
  pub are_offered : AreOffered collected.sources apps
  pub digest_is : IfSome digest (IsDigestOf collected)

-- what is shown of a folder of which all is read
pub record IsShown (files : KnownFiles) (path : List ℕ) (records : KnownRecords)
    (facts : FolderFacts) : Type 0 where
  pub apps : AreAppsShown files path facts.apps.items facts.digests.in_place
  pub steps : AreStepsShown files path records facts.steps.items facts.earlier_steps
      facts.digests.left.items
