-- What is served while some apps are halted.
use Rattle.std.proofs.Common.{◌≡◌, ℕ, List, [], ◌∷◌, Some, Bool, true, false, cond}
use Rattle.std.proofs.Common.{refl, sym, ap, subst, ◌∙◌, All}
use Rattle.std.proofs.lemmas.List.Elements.{All-cons, All-map, All-nil, All-weaker, All-get_or}
use Rattle.std.proofs.lemmas.Slice.Eq.{bytes_eq-Decides}
use Rattle.std.specs.Str.{bytes_eq}
use Rattle.cells.specs.Arrays.{AppShape}
use Rattle.cells.specs.Directory.{HasArray}
use Rattle.cells.specs.declared.array.CellArray.{CellArray}
use Rattle.halts.specs.Halts.{halted_app, is_named, served_app, served_apps}
use Rattle.halts.specs.Halts.{HaltedAreHeld, KeepsApps, KeepsArrays, OthersStay, ServesAll, served}
use Rattle.halts.specs.None.{ChoosesNone}
use Rattle.halts.proofs.Accepted.{none_chooses_none}
use Rattle.ruleset.specs.Rules.{AppRule, Rules, HasDuplicate, app_in, appids_of}

-- ---- one app

either_appid : (b : Bool) (app : AppRule) → (cond b (halted_app app) app).appid ≡ app.appid
either_appid true app = refl
either_appid false app = refl

same_appid : (halted : List (List ℕ)) (app : AppRule)
    → (served_app halted app).appid ≡ app.appid
same_appid halted app = either_appid (is_named halted app.appid) app

either_shape : (b : Bool) (app : AppRule)
    → (cond b (halted_app app) app).program.shape ≡ app.program.shape
either_shape true app = refl
either_shape false app = refl

same_shape : (halted : List (List ℕ)) (app : AppRule)
    → (served_app halted app).program.shape ≡ app.program.shape
same_shape halted app = either_shape (is_named halted app.appid) app

when_free : (halted : List (List ℕ)) (app : AppRule) → is_named halted app.appid ≡ false
    → served_app halted app ≡ app
when_free halted app free = ap (λ (b : Bool). cond b (halted_app app) app) free

when_named : (halted : List (List ℕ)) (app : AppRule) → is_named halted app.appid ≡ true
    → served_app halted app ≡ halted_app app
when_named halted app named = ap (λ (b : Bool). cond b (halted_app app) app) named

-- ---- all apps

keeps_appids : (halted : List (List ℕ)) (apps : List AppRule)
    → appids_of (served_apps halted apps) ≡ appids_of apps
keeps_appids halted [] = refl
keeps_appids halted (app ∷ rest) =
    ap (λ (a : List ℕ). a ∷ appids_of (served_apps halted rest)) (same_appid halted app)
    ∙ ap (λ (l : List (List ℕ)). app.appid ∷ l) (keeps_appids halted rest)

pub distinct : (halted : List (List ℕ)) (apps list : List AppRule)
    → list ≡ served_apps halted apps
    → ¬ HasDuplicate (appids_of apps) → ¬ HasDuplicate (appids_of list)
distinct halted apps list is once again =
    once (subst HasDuplicate (ap appids_of is ∙ keeps_appids halted apps) again)

texts_equal : (a b : List ℕ) → bytes_eq a b ≡ true → a ≡ b
texts_equal a b = (bytes_eq-Decides a b).0

others_in : (halted : List (List ℕ)) (apps : List AppRule) (appid : List ℕ)
    → is_named halted appid ≡ false
    → app_in (served_apps halted apps) appid ≡ app_in apps appid
others_in halted [] appid free = refl
others_in halted (app ∷ rest) appid free =
    by (bytes_eq app.appid appid) refl (others_in halted rest appid free)
  where
    by : (b : Bool) → bytes_eq app.appid appid ≡ b
        → app_in (served_apps halted rest) appid ≡ app_in rest appid
        → app_in (served_apps halted (app ∷ rest)) appid ≡ app_in (app ∷ rest) appid
    by true e behind =
        let named = texts_equal app.appid appid e in
        let same = when_free halted app (ap (is_named halted) named ∙ free) in
        ap (λ (x : AppRule). app_in (x ∷ served_apps halted rest) appid) same
        ∙ ap (λ (b : Bool). cond b (Some app) (app_in (served_apps halted rest) appid)) e
        ∙ sym (ap (λ (b : Bool). cond b (Some app) (app_in rest appid)) e)
    by false e behind =
        let differs = ap (λ (a : List ℕ). bytes_eq a appid) (same_appid halted app) ∙ e in
        ap (λ (b : Bool). cond b (Some (served_app halted app))
        (app_in (served_apps halted rest) appid)) differs
        ∙ behind
        ∙ sym (ap (λ (b : Bool). cond b (Some app) (app_in rest appid)) e)

-- ---- the laws

abbrev NoneIfNamed : List (List ℕ) → AppRule → Type 0
NoneIfNamed halted app = is_named halted app.appid ≡ true → ChoosesNone app.program

none_if_named : (halted : List (List ℕ)) (app : AppRule)
    → NoneIfNamed halted (served_app halted app)
none_if_named halted app named =
    let is = sym (ap (is_named halted) (same_appid halted app)) ∙ named in
    subst (λ (x : AppRule). ChoosesNone x.program) (sym (when_named halted app is))
    (none_chooses_none app.program.shape)

all_none : (halted : List (List ℕ)) (apps : List AppRule)
    → All (NoneIfNamed halted) (served_apps halted apps)
all_none halted [] = All-nil (NoneIfNamed halted)
all_none halted (app ∷ rest) =
    All-cons (NoneIfNamed halted) (served_app halted app) (served_apps halted rest)
    (none_if_named halted app) (all_none halted rest)

pub halted_are_held : HaltedAreHeld
halted_are_held rules halted appid named program offers =
    let app = offers.app in
    let listed = offers.known.listed in
    let at = All-get_or (NoneIfNamed halted) (served_apps halted rules.apps) listed.0 app listed.1
    (all_none halted rules.apps) in
    let none = subst (NoneIfNamed halted) listed.2 at in
    subst ChoosesNone offers.program_is
    (none (ap (is_named halted) offers.known.appid_is ∙ named))

pub others_stay : OthersStay
others_stay rules halted appid free = others_in halted rules.apps appid free

pub keeps_apps : KeepsApps
keeps_apps rules halted = keeps_appids halted rules.apps

abbrev KnowsArrays : List CellArray → AppRule → Type 0
KnowsArrays arrays app = All (HasArray arrays) app.program.shape.arrays

pub keeps_arrays : KeepsArrays
keeps_arrays rules halted arrays knows =
    All-map (KnowsArrays arrays) (served_app halted) rules.apps
    (All-weaker (KnowsArrays arrays) (λ app. KnowsArrays arrays (served_app halted app))
    (λ app h. subst (λ (s : AppShape). All (HasArray arrays) s.arrays)
    (sym (same_shape halted app)) h) rules.apps knows)

apps_stay : (apps : List AppRule) → served_apps [] apps ≡ apps
apps_stay [] = refl
apps_stay (app ∷ rest) = ap (λ (l : List AppRule). app ∷ l) (apps_stay rest)

pub all_are_served : ServesAll
all_are_served rules =
    ap (λ (apps : List AppRule). record rules { apps = apps }) (apps_stay rules.apps)
