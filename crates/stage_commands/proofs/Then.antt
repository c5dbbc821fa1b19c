-- The manifest as before a step, which may not be gathered; and the halts that undoing it lifts.
use Rattle.std.proofs.Common.{◌≡◌, ◌∙◌, ◌⊎◌, inl, inr, ap, refl, subst, sym, true≢false, ℕ}
use Rattle.std.proofs.Common.{List, [], Bool, true, false, codes}
use Rattle.std.specs.Prelude.{All, Option, Some, None, IfSome, ◌||◌, if◌then◌else◌}
use Rattle.std.proofs.lemmas.List.Elements.{All-weaker}
use Rattle.std.proofs.lemmas.Slice.Eq.{bytes_eq-Decides}
use Rattle.bounded_files.specs.Files.{KnownFiles}
use Rattle.bounded_files.specs.declared.resource_fault.ResourceFault.TheVariants.{File, Memory}
use Rattle.cells.specs.declared.array.CellArray.{CellArray}
use Rattle.load.specs.Folder.{files_in_folder}
use Rattle.load.specs.Load.{IsLoadFault}
use Rattle.load.specs.Loaded.{RefusesPath}
use Rattle.load.specs.declared.load_fault.LoadFault.{LoadFault}
use Rattle.load.specs.declared.load_fault.PathFault.{PathFault}
use Rattle.load.specs.declared.load_fault.PathFault.TheVariants.{Load, Resource}
use Rattle.load.specs.declared.opened.CollectedManifest.{CollectedManifest}
use Rattle.load.specs.declared.sources.AppSources.{AppSources}
use Rattle.stage_records.specs.Steps.{ReplacedFile, StagingStep}
use Rattle.stage_records.specs.declared.step.StepAction.{StepAction}
use Rattle.stage_records.specs.declared.step.StepAction.TheVariants.{Halt, HaltRelease, Put}
use Rattle.stage_records.specs.declared.step.StepAction.TheVariants.{Raise, Resume}
use Rattle.stage_rules.specs.InForce.{HasOneMore, app_of_any_halt, is_named}
use Rattle.stage_rules.specs.Lifting.{AreNamed, HasAppOf, IsLiftNamed, LiftsNothing}
use Rattle.stage_rules.specs.Lifting.{StaysHalted, action_in_force}
use Rattle.stage_commands.specs.Backs.{AreNamedByUndoing, LiftsNoneByUndoing, UndoingLiftsNone}
use Rattle.stage_commands.specs.Befores.{GivesBefore, RefusesBefore, WasGathered}
use Rattle.stage_commands.specs.Unlisted.{IsListedOrNamed, is_unlisted_halt}
use Rattle.stage_servers.specs.Gathered.{IsGathered, precedes_files}
use Rattle.stage_servers.specs.Replaced.{file_named}

-- ---- manifests that can't be gathered

of_none : (known : KnownFiles) (current : List ℕ) (fault : PathFault)
    → RefusesPath known current [] fault → RefusesBefore known current fault None
of_none known current (Resource File) refused = refused
of_none known current (Resource Memory) refused = tt
of_none known current (Load fault) refused = refused

pub not_replaced : (known : KnownFiles) (current : List ℕ) (fault : PathFault)
    (file : Option ReplacedFile) → None ≡ file
    → ((old : List CellArray) → RefusesPath known current old fault)
    → RefusesBefore known current fault file
not_replaced known current fault file is refused =
    subst (RefusesBefore known current fault) is (of_none known current fault (refused []))

pub sources_refused : (known : KnownFiles) (current bytes : List ℕ) (file : Option ReplacedFile)
    (fault : LoadFault) → GivesBefore known current file bytes
    → ((files : KnownFiles) → IsLoadFault files [] bytes fault)
    → RefusesBefore known current (Load fault) file
sources_refused known current bytes None fault given is =
    (bytes, given, is (files_in_folder known current))
sources_refused known current bytes (Some file) fault given is =
    subst (λ b. IsLoadFault (files_in_folder known current) [] b fault) given
    (is (files_in_folder known current))

pub not_gathered_before : (known : KnownFiles) (current : List ℕ) (replaced : List ReplacedFile)
    (fault : PathFault) (first : Bool)
    → RefusesBefore known current fault (file_named replaced (codes "current.toml"))
    → first ≡ precedes_files fault → first ≡ true → WasGathered known current replaced None
not_gathered_before known current replaced fault first refused is so =
    (fault, refused, sym is ∙ so)

-- ---- halts

none_stays : (current next : List AppSources) (undone : Bool) (action : StepAction)
    → StaysHalted current next (if undone then None else Some action) ⊎ HasAppOf [] action
    → StaysHalted current next (if undone then None else Some action)
none_stays current next undone action (inl is) = is
none_stays current next true action (inr has) = tt
none_stays current next false (Halt appid) (inr has) = absurd (true≢false (sym has))
none_stays current next false (HaltRelease appid version) (inr has) =
    absurd (true≢false (sym has))
none_stays current next false (Raise appid buckets) (inr has) = tt
none_stays current next false (Resume appid buckets) (inr has) = tt
none_stays current next false (Put manifest) (inr has) = tt

pub lifts_nothing : (steps : List StagingStep) (current next : List AppSources)
    (named : List (List ℕ)) → AreNamed steps current next named → named ≡ []
    → LiftsNothing steps current next
lifts_nothing steps current next named are none =
    All-weaker (IsLiftNamed current next [])
    (λ step. StaysHalted current next (action_in_force step))
    (λ step is. none_stays current next step.is_undone step.action is) steps
    (subst (AreNamed steps current next) none are)

none_unlisted : (current next : List AppSources) (undone : Bool) (action : StepAction)
    → (is_unlisted_halt current next (if undone then None else Some action) ≡ false)
    ⊎ HasAppOf [] action
    → is_unlisted_halt current next (if undone then None else Some action) ≡ false
none_unlisted current next undone action (inl is) = is
none_unlisted current next true action (inr has) = refl
none_unlisted current next false (Halt appid) (inr has) = absurd (true≢false (sym has))
none_unlisted current next false (HaltRelease appid version) (inr has) =
    absurd (true≢false (sym has))
none_unlisted current next false (Raise appid buckets) (inr has) = refl
none_unlisted current next false (Resume appid buckets) (inr has) = refl
none_unlisted current next false (Put manifest) (inr has) = refl

lists_halted : (steps : List StagingStep) (current next : List AppSources)
    (named : List (List ℕ)) → All (IsListedOrNamed current next named) steps → named ≡ []
    → All (λ step. is_unlisted_halt current next (action_in_force step) ≡ false) steps
lists_halted steps current next named are none =
    All-weaker (IsListedOrNamed current next [])
    (λ step. is_unlisted_halt current next (action_in_force step) ≡ false)
    (λ step is. none_unlisted current next step.is_undone step.action is) steps
    (subst (λ n. All (IsListedOrNamed current next n) steps) none are)

no_own : (action : StepAction) → HasAppOf [] action → app_of_any_halt action ≡ None
no_own (Halt appid) has = absurd (true≢false (sym has))
no_own (HaltRelease appid version) has = absurd (true≢false (sym has))
no_own (Raise appid buckets) has = refl
no_own (Resume appid buckets) has = refl
no_own (Put manifest) has = refl

none_by_undoing : (steps : List StagingStep) (step : StagingStep)
    (present before : Option CollectedManifest) (named : List (List ℕ))
    → AreNamedByUndoing steps step present before named → named ≡ []
    → LiftsNoneByUndoing steps step present before
none_by_undoing steps step (Some present) (Some before) named are none = (
  lifts_nothing steps present.sources.apps.items before.sources.apps.items named are.0 none,
  λ some. lists_halted steps present.sources.apps.items before.sources.apps.items named
      (are.1 some) none,
)
none_by_undoing steps step (Some present) None named has none =
    no_own step.action (subst (λ n. HasAppOf n step.action) none has)
none_by_undoing steps step None before named has none =
    no_own step.action (subst (λ n. HasAppOf n step.action) none has)

pub undoing_lifts_none : (known : KnownFiles) (current : List ℕ) (steps : List StagingStep)
    (step : StagingStep) (present before : Option CollectedManifest) (named : List (List ℕ))
    → AreNamedByUndoing steps step present before named → IsGathered known current present
    → WasGathered known current step.files before → named ≡ []
    → UndoingLiftsNone known current steps step
undoing_lifts_none known current steps step present before named are gathered was none = record {
  present = present;
  gathered = gathered;
  before = before;
  was_gathered = was;
  lifts_none = none_by_undoing steps step present before named are none;
}

-- ---- the step's own halt

or_true : (b : Bool) → (b || true) ≡ true
or_true true = refl
or_true false = refl

pub own_app : (action : StepAction) (appid : List ℕ) (old new : List (List ℕ))
    → Some appid ≡ app_of_any_halt action → HasOneMore appid old new → HasAppOf new action
own_app action appid old new is more =
    subst (λ o. IfSome o (λ one. is_named new one ≡ true)) is
    (more appid ∙ ap (λ e. is_named old appid || e) ((bytes_eq-Decides appid appid).1 refl)
    ∙ or_true (is_named old appid))

pub no_own_app : (action : StepAction) (named : List (List ℕ)) → None ≡ app_of_any_halt action
    → HasAppOf named action
no_own_app action named is = subst (λ o. IfSome o (λ one. is_named named one ≡ true)) is tt
