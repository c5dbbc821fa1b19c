-- A step of one file, or of none, replaces that file.
use Rattle.std.proofs.Common.{◌≡◌, ℕ, List, [], ◌∷◌, Option, Some, None, inl, inr, refl, ap, ◌∙◌}
use Rattle.std.proofs.Common.{subst, sym}
use Rattle.std.specs.Prelude.{All, Bool, IfSome, option_map, option_to_list, false, true}
use Rattle.std.proofs.lemmas.List.Elements.{All-cons, All-nil}
use Rattle.bounded_files.specs.Files.{KnownFiles}
use Rattle.stage_folder.specs.Folders.{KnownFolder, KnownRecords, put, put_known}
use Rattle.stage_folder.specs.Steps.{IsFoundBy, done, is_change}
use Rattle.stage_folder.specs.declared.records.RecordedSteps.{RecordedSteps}
use Rattle.stage_records.specs.Steps.{ReplacedFile, StagingStep, last_step}
use Rattle.stage_records.specs.declared.step.StepAction.{StepAction}
use Rattle.stage_records.specs.declared.step.StepAction.TheVariants.{Halt, HaltRelease, Raise}
use Rattle.stage_records.specs.declared.step.StepAction.TheVariants.{Resume}
use Rattle.stage_servers.specs.declared.options.StageOptions.{StageOptions}
use Rattle.stage_commands.specs.Apps.{Replaces, ReplacesBy}
use Rattle.stage_commands.specs.Backs.{HasGoneBack, IsRestorable, LeftByBack, PlansBack}
use Rattle.stage_commands.specs.Backs.{Undoes, UndoingLiftsNone}
use Rattle.stage_commands.specs.Compared.{IsAcceptedWith}
use Rattle.stage_commands.specs.Puts.{HasPut}
use Rattle.stage_commands.specs.PutPlans.{IsPutPlan}
use Rattle.stage_commands.specs.ReleaseHalts.{HasHaltedRelease, PlansReleaseHalt}
use Rattle.stage_commands.specs.Resumes.{HasResumed, PlansResume}
use Rattle.stage_commands.specs.Stages.{HasHalted, HasRaised, PlansHalt, PlansRaise}
use Rattle.stage_commands.specs.Taken.{IsNewNumber, IsTaken, LeftByUndo, Takes}
use Rattle.stage_servers.specs.Whole.{AreAllRead, HasOnlySteps}
use Rattle.stage_servers.specs.declared.outcome.Stop.{Stop}
use Rattle.stage_commands.specs.declared.puts.PutPlan.{PutPlan}
use Rattle.stage_commands.proofs.Changing.{changes_all, changes_file}
use Rattle.stage_commands.proofs.Put.{StepsLeave, found_changes, in_place}

same : (old : KnownFolder) → option_map (done []) old ≡ old
same None = refl
same (Some folder) = refl

one : (old : KnownFolder) (file : ReplacedFile) (name bytes : List ℕ)
    → file.name ≡ name → file.after ≡ bytes
    → option_map (done (file ∷ [])) old ≡ put_known name (Some bytes) old
one None file name bytes is has = refl
one (Some folder) file name bytes is has =
    ap (λ n. Some (put n (Some file.after) folder)) is
    ∙ ap (λ b. Some (put name (Some b) folder)) has

pub replaces : (old new : KnownFolder) (name bytes : List ℕ) (file : Option ReplacedFile)
    → ReplacesBy old name bytes file → new ≡ option_map (done (option_to_list file)) old
    → Replaces old new name bytes
replaces old new name bytes None has e = inr (e ∙ same old, has)
replaces old new name bytes (Some file) by e = inl (e ∙ one old file name bytes by.0 by.1)

found_file : (old : KnownFolder) (name bytes : List ℕ) (file : Option ReplacedFile)
    → ReplacesBy old name bytes file → IfSome old (IsFoundBy (option_to_list file))
found_file None name bytes file by = tt
found_file (Some folder) name bytes None by = All-nil (λ f. folder f.name ≡ f.before)
found_file (Some folder) name bytes (Some file) by =
    All-cons (λ f. folder f.name ≡ f.before) file [] (ap folder by.0 ∙ by.3)
    (All-nil (λ f. folder f.name ≡ f.before))

pub halt_found : (known : KnownFiles) (manifest appid : List ℕ) (options : StageOptions)
    (folder : KnownFolder) (file : Option ReplacedFile)
    → PlansHalt known manifest appid options folder file
    → IfSome folder (IsFoundBy (option_to_list file))
halt_found known manifest appid options folder file plans = found_file folder _ _ file plans.plan.by

pub release_found : (known : KnownFiles) (manifest appid version : List ℕ)
    (options : StageOptions) (folder : KnownFolder) (file : Option ReplacedFile)
    → PlansReleaseHalt known manifest appid version options folder file
    → IfSome folder (IsFoundBy (option_to_list file))
release_found known manifest appid version options folder file plans =
    found_file folder _ _ file plans.plan.by

pub raise_found : (known : KnownFiles) (manifest appid : List ℕ) (buckets : ℕ)
    (options : StageOptions) (folder : KnownFolder) (file : Option ReplacedFile)
    → PlansRaise known manifest appid buckets options folder file
    → IfSome folder (IsFoundBy (option_to_list file))
raise_found known manifest appid buckets options folder file plans =
    found_file folder _ _ file plans.plan.by

pub resume_found : (known : KnownFiles) (manifest appid : List ℕ) (buckets : Option ℕ)
    (options : StageOptions) (folder : KnownFolder) (steps : List StagingStep)
    (file : Option ReplacedFile)
    → PlansResume known manifest appid buckets options folder steps file
    → IfSome folder (IsFoundBy (option_to_list file))
resume_found known manifest appid buckets options folder steps file plans =
    found_file folder _ _ file plans.plan.by

done_by : (options : StageOptions) (number : ℕ) (did : StepAction) (files : List ReplacedFile)
    (old_records new_records : KnownRecords) (old new : KnownFolder)
    → Takes options number did files old_records new_records old new
    → new ≡ option_map (done files) old
done_by options number did files old_records new_records old new takes =
    takes.performed.done ∙ ap (λ fs. option_map (done fs) old) takes.files_are

taken : (options : StageOptions) (number : ℕ) (did wanted : StepAction) (files : List ReplacedFile)
    (old_records new_records : KnownRecords) (old new : KnownFolder) → did ≡ wanted
    → IsNewNumber old_records number → IfSome old (IsFoundBy files)
    → All (λ file. is_change file ≡ true) files
    → Takes options number did files old_records new_records old new
    → IsTaken options wanted files old_records new_records old new
taken options number did wanted files old_records new_records old new is next found changes takes =
    record {
      number = number;
      is_new = next;
      found = found;
      changes = changes;
      takes = subst (λ a. Takes options number a files old_records new_records old new) is takes;
    }

all_listed : (P : ReplacedFile → Type 0) (file : Option ReplacedFile) → IfSome file P
    → All P (option_to_list file)
all_listed P None is = All-nil P
all_listed P (Some file) is = All-cons P file [] is (All-nil P)

module _ (known : KnownFiles) (manifest appid : List ℕ) (options : StageOptions)
    (old_records new_records : KnownRecords) (old new : KnownFolder)
    (file : Option ReplacedFile) (number : ℕ) (owned : List ℕ) where
  pub halted : owned ≡ appid → IsNewNumber old_records number
      → PlansHalt known manifest appid options old file
      → Takes options number (Halt owned) (option_to_list file) old_records new_records old new
      → HasHalted known manifest appid options old_records new_records old new
  halted own next plans takes = let plan = plans.plan in record {
    app = plans.app;
    is_app = plans.is_app;
    bytes = plan.bytes;
    halts = plan.halts;
    replaced = replaces old new _ _ file plan.by (done_by _ _ _ _ _ _ old new takes);
    files = option_to_list file;
    taken = taken options number (Halt owned) (Halt appid) _ _ _ old new (ap (λ a. Halt a) own) next
        (found_file old _ _ file plan.by) (changes_file old _ _ file plan.by) takes;
  }

  pub halted_release : (version : List ℕ) (did : StepAction) → did ≡ HaltRelease appid version
      → IsNewNumber old_records number
      → PlansReleaseHalt known manifest appid version options old file
      → Takes options number did (option_to_list file) old_records new_records old new
      → HasHaltedRelease known manifest appid version options old_records new_records old new
  halted_release version did is next plans takes = let plan = plans.plan in record {
    app = plans.app;
    is_app = plans.is_app;
    text = plan.text;
    leaves_out = plan.leaves_out;
    replaced = replaces old new _ _ file plan.by (done_by _ _ _ _ _ _ old new takes);
    files = option_to_list file;
    taken = taken options number did (HaltRelease appid version) _ _ _ old new is next
        (found_file old _ _ file plan.by) (changes_file old _ _ file plan.by) takes;
  }

  pub raised : (buckets : ℕ) → owned ≡ appid → IsNewNumber old_records number
      → HasOnlySteps old_records → PlansRaise known manifest appid buckets options old file
      → IfSome file (IsAcceptedWith known manifest)
      → Takes options number (Raise owned buckets) (option_to_list file) old_records new_records
      old new
      → HasRaised known manifest appid buckets options old_records new_records old new
  raised buckets own next read plans accepted takes = let plan = plans.plan in record {
    read = read;
    app = plans.app;
    is_app = plans.is_app;
    text = plan.text;
    raises = plan.raises;
    replaced = replaces old new _ _ file plan.by (done_by _ _ _ _ _ _ old new takes);
    files = option_to_list file;
    accepted = all_listed (IsAcceptedWith known manifest) file accepted;
    taken = taken options number (Raise owned buckets) (Raise appid buckets) _ _ _ old new
        (ap (λ a. Raise a buckets) own) next (found_file old _ _ file plan.by)
        (changes_file old _ _ file plan.by) takes;
  }

  pub resumed : (buckets : Option ℕ) (recorded : RecordedSteps) → owned ≡ appid
      → IsNewNumber old_records number → AreAllRead old_records recorded
      → PlansResume known manifest appid buckets options old recorded.steps.items file
      → IfSome file (IsAcceptedWith known manifest)
      → Takes options number (Resume owned buckets) (option_to_list file) old_records new_records
      old new
      → HasResumed known manifest appid buckets options old_records new_records old new
  resumed buckets recorded own next are plans accepted takes = let plan = plans.plan in record {
    recorded = recorded;
    are = are;
    app = plans.app;
    is_app = plans.is_app;
    in_force = plans.in_force;
    text = plan.text;
    resumes = plan.resumes;
    replaced = replaces old new _ _ file plan.by (done_by _ _ _ _ _ _ old new takes);
    files = option_to_list file;
    accepted = all_listed (IsAcceptedWith known manifest) file accepted;
    taken = taken options number (Resume owned buckets) (Resume appid buckets) _ _ _ old new
        (ap (λ a. Resume a buckets) own) next (found_file old _ _ file plan.by)
        (changes_file old _ _ file plan.by) takes;
  }

pub has_put : StepsLeave → (known : KnownFiles) (current manifest : List ℕ)
    (options : StageOptions) (old_records new_records : KnownRecords) (old new : KnownFolder)
    (plan : PutPlan) → IsPutPlan known current manifest options.anyway old_records old plan
    → Takes options plan.number plan.action plan.files.items old_records new_records old new
    → HasPut known current manifest options old_records new_records old new
has_put laws known current manifest options old_records new_records old new plan is takes =
    record {
      recorded = is.recorded;
      are = is.are;
      files = plan.files.items;
      plan = is.files;
      taken = taken options plan.number plan.action _ _ _ _ old new is.action_is is.is_new
          (found_changes old _ _ _ is.files.changes)
          (changes_all is.files.changes.all _ is.files.changes.changes) takes;
      in_place = in_place laws old new _ _ plan.files.items is.files.changes
          (done_by _ _ _ _ _ _ old new takes);
    }

last_unedited : (files : KnownFolder) (steps : List StagingStep) (step : StagingStep)
    → Some step ≡ last_step steps → IfSome (last_step steps) (IsRestorable files)
    → IsRestorable files step
last_unedited files steps step is unedited =
    subst (λ o. IfSome o (IsRestorable files)) (sym is) unedited

pub plans_back : (known : KnownFiles) (current : List ℕ) (anyway : Bool) (records : KnownRecords)
    (files : KnownFolder) (recorded : RecordedSteps) (step : StagingStep)
    → AreAllRead records recorded → Some step ≡ last_step recorded.steps.items
    → (anyway ≡ false → IfSome (last_step recorded.steps.items)
    (UndoingLiftsNone known current recorded.steps.items))
    → IsRestorable files step
    → PlansBack known current anyway records files
plans_back known current anyway records files recorded step are last lifts unedited = record {
  step = step;
  last = record { recorded = recorded; are = are; last = sym last };
  lifts_none = λ plain. subst (λ o. IfSome o
      (UndoingLiftsNone known current recorded.steps.items)) (sym last) (lifts plain);
  unedited = unedited;
}

pub gone_back : (known : KnownFiles) (current : List ℕ) (anyway : Bool)
    (old_records new_records : KnownRecords) (old new : KnownFolder) (recorded : RecordedSteps)
    (step : StagingStep) → AreAllRead old_records recorded
    → Some step ≡ last_step recorded.steps.items
    → (anyway ≡ false → IfSome (last_step recorded.steps.items)
    (UndoingLiftsNone known current recorded.steps.items))
    → IsRestorable old step
    → Undoes step old_records new_records old new
    → HasGoneBack known current anyway old_records new_records old new
unfolding plans_back
gone_back known current anyway old_records new_records old new recorded step are last lifts unedited
    undoes = record {
      plan = plans_back known current anyway old_records old recorded step are last lifts unedited;
      undoes = undoes;
    }

pub left_undone : (known : KnownFiles) (current : List ℕ) (anyway : Bool) (why : Stop)
    (old_records new_records : KnownRecords) (old new : KnownFolder) (recorded : RecordedSteps)
    (step : StagingStep) → AreAllRead old_records recorded
    → Some step ≡ last_step recorded.steps.items
    → (anyway ≡ false → IfSome (last_step recorded.steps.items)
    (UndoingLiftsNone known current recorded.steps.items))
    → IfSome (last_step recorded.steps.items) (IsRestorable old)
    → LeftByUndo why step old_records new_records old new
    → LeftByBack known current anyway why old_records new_records old new
unfolding plans_back
left_undone known current anyway why old_records new_records old new recorded step are last lifts
    unedited left = inr (
      plans_back known current anyway old_records old recorded step are last lifts
          (last_unedited old recorded.steps.items step last unedited),
      left,
    )
