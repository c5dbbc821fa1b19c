-- The apps whose halts are in force, one step after the other.
use Rattle.std.proofs.Common.{◌≡◌, ◌∙◌, ap, refl, subst, sym, ℕ, List, [], ◌∷◌}
use Rattle.std.proofs.Common.{Bool, true, false}
use Rattle.std.specs.Prelude.{◌&&◌, ◌||◌, not, Option, Some, None}
use Rattle.std.specs.List.{list_any, cons_option}
use Rattle.std.specs.Str.{bytes_eq}
use Rattle.std.proofs.lemmas.Slice.Eq.{bytes_eq-Decides}
use Rattle.bounded_files.specs.Files.{KnownFiles}
use Rattle.load.specs.declared.opened.CollectedManifest.{CollectedManifest}
use Rattle.load.specs.declared.sources.AppSources.{AppSources}
use Rattle.stage_folder.specs.Folders.{KnownRecords}
use Rattle.stage_folder.specs.declared.records.RecordedSteps.{RecordedSteps}
use Rattle.stage_records.specs.Steps.{StagingStep}
use Rattle.stage_rules.specs.InForce.{HasOneMore, halted_app, halted_apps, is_in_force, is_named}
use Rattle.stage_rules.specs.InForce.{surely_offers}
use Rattle.stage_servers.specs.Gathered.{IsGathered}
use Rattle.stage_servers.specs.Halted.{AreHaltedIn, AreInForce, AreInForceUnder, HasHaltOf}
use Rattle.stage_servers.specs.Whole.{AreAllRead}

-- ---- the app of a step's halt

no_halt_of : (n offers : Bool) → n ≡ (n || (false && not offers))
no_halt_of true offers = refl
no_halt_of false offers = refl

offered_of : (n same offers : Bool) → (same ≡ true → offers ≡ true)
    → n ≡ (n || ((same || false) && not offers))
offered_of true same offers is = refl
offered_of false false offers is = refl
offered_of false true offers is = sym (ap (λ o. not o) (is refl))

added_of : (n same offers : Bool) → (same ≡ true → offers ≡ false)
    → (n || same) ≡ (n || ((same || false) && not offers))
added_of true same offers is = refl
added_of false false offers is = refl
added_of false true offers is = sym (ap (λ o. not o) (is refl))

-- what an app's name gives, another of the same bytes gives
offers_same : (apps : List AppSources) (appid other : List ℕ) (offers : Bool)
    → surely_offers apps appid ≡ offers → bytes_eq appid other ≡ true
    → surely_offers apps other ≡ offers
offers_same apps appid other offers is same =
    ap (λ a. surely_offers apps a) (sym ((bytes_eq-Decides appid other).0 same)) ∙ is

abbrev halt_by : (current : List AppSources) (appid : List ℕ) (halted : Option (List ℕ)) → Bool
halt_by current appid halted =
    list_any (λ one. bytes_eq one appid) (cons_option halted [])
    && not (surely_offers current appid)

pub none_halted : (step : StagingStep) (current : List AppSources) (names : List (List ℕ))
    → None ≡ halted_app step → HasHaltOf step current names names
none_halted step current names is = λ appid.
    subst (λ o. is_named names appid ≡ (is_named names appid || halt_by current appid o)) is
    (no_halt_of (is_named names appid) (surely_offers current appid))

pub offered : (step : StagingStep) (current : List AppSources) (app : List ℕ)
    (names : List (List ℕ)) → Some app ≡ halted_app step → surely_offers current app ≡ true
    → HasHaltOf step current names names
offered step current app names is so = λ appid.
    subst (λ o. is_named names appid ≡ (is_named names appid || halt_by current appid o)) is
    (offered_of (is_named names appid) (bytes_eq app appid) (surely_offers current appid)
    (offers_same current app appid true so))

pub added : (step : StagingStep) (current : List AppSources) (app : List ℕ)
    (old new : List (List ℕ)) → Some app ≡ halted_app step → surely_offers current app ≡ false
    → HasOneMore app old new → HasHaltOf step current old new
added step current app old new is so more = λ appid.
    more appid
    ∙ subst (λ o. (is_named old appid || bytes_eq app appid)
    ≡ (is_named old appid || halt_by current appid o)) is
    (added_of (is_named old appid) (bytes_eq app appid) (surely_offers current appid)
    (offers_same current app appid false so))

pub ruleset one_step = (none_halted, offered, added)

-- ---- the steps so far

-- an app is among these, or its halt by a step that is left is in force, exactly if one by some
-- step is
abbrev pub AreSoFar : List StagingStep → (current : List AppSources)
    → (names : List (List ℕ)) → (left : List StagingStep) → Type 0
AreSoFar steps current names left = (appid : List ℕ)
    → (is_named names appid || is_in_force left current appid) ≡ is_in_force steps current appid

none_in : (n halts offers : Bool)
    → ((n || (false && not offers)) || (halts && not offers)) ≡ (n || (halts && not offers))
none_in true halts offers = refl
none_in false halts offers = refl

one_in : (n same halts offers : Bool)
    → ((n || ((same || false) && not offers)) || (halts && not offers))
    ≡ (n || ((same || halts) && not offers))
one_in true same halts offers = refl
one_in false true halts false = refl
one_in false true true true = refl
one_in false true false true = refl
one_in false false halts offers = refl

split : (halted : Option (List ℕ)) (rest : List (List ℕ)) (n offers : Bool) (appid : List ℕ)
    → ((n || (list_any (λ one. bytes_eq one appid) (cons_option halted []) && not offers))
    || (list_any (λ one. bytes_eq one appid) rest && not offers))
    ≡ (n || (list_any (λ one. bytes_eq one appid) (cons_option halted rest) && not offers))
split None rest n offers appid = none_in n (list_any (λ one. bytes_eq one appid) rest) offers
split (Some app) rest n offers appid =
    one_in n (bytes_eq app appid) (list_any (λ one. bytes_eq one appid) rest) offers

pub begins : (steps : List StagingStep) (current : List AppSources)
    → AreSoFar steps current [] steps
begins steps current = λ appid. refl

pub further : (steps : List StagingStep) (current : List AppSources) (old new : List (List ℕ))
    (step : StagingStep) (left : List StagingStep) → HasHaltOf step current old new
    → AreSoFar steps current old (step ∷ left) → AreSoFar steps current new left
further steps current old new step left has so = λ appid.
    ap (λ n. n || is_in_force left current appid) (has appid)
    ∙ split (halted_app step) (halted_apps left) (is_named old appid)
    (surely_offers current appid) appid
    ∙ so appid

pub ended : (steps : List StagingStep) (current : List AppSources) (names : List (List ℕ))
    → AreSoFar steps current names [] → AreInForce steps current names
ended steps current names so = λ appid.
    no_halt_of (is_named names appid) (surely_offers current appid) ∙ so appid

pub ruleset each_step = (begins, further, ended)

-- ---- the records and the manifest in place

pub are_halted : (known : KnownFiles) (current : List ℕ) (records : KnownRecords)
    (recorded : RecordedSteps) (present : Option CollectedManifest) (named : List (List ℕ))
    → AreAllRead records recorded → IsGathered known current present
    → AreInForceUnder recorded.steps.items present named
    → AreHaltedIn known current records named
are_halted known current records recorded present named read is force = record {
  recorded = recorded;
  are_read = read;
  present = present;
  is_present = is;
  in_force = force;
}
