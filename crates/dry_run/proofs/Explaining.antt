-- The lines of an app, and of one more app.
use Rattle.std.proofs.Common.{◌≡◌, ◌∙◌, ℕ, ◌+◌, ◌<◌, List, [], ◌∷◌, ◌++◌, length, take, get_or}
use Rattle.std.proofs.Common.{ap, refl, sym, subst, Bool, true, false, Option, Some, None, All}
use Rattle.std.proofs.Common.{cond, ◌≤◌}
use Rattle.std.proofs.lemmas.List.{take_all, take_more}
use Rattle.std.proofs.lemmas.List.Elements.{All-head, All-tail}
use Rattle.std.proofs.lemmas.Option.{same_Some}
use Rattle.std.specs.Prelude.{ℤ, IfSome, IsTrue, option_map, Result, Ok, Err, IfOk}
use Rattle.std.specs.Str.{bytes_eq}
use Rattle.attrs.specs.Attributes.{Attributes}
use Rattle.attrs.specs.Facts.{attributes_of}
use Rattle.attrs.specs.declared.facts.AppFacts.{AppFacts}
use Rattle.attrs.specs.declared.facts.RequestFacts.{RequestFacts}
use Rattle.load.specs.JudgedApps.{app_named, app_rule, app_rules, rules_of}
use Rattle.load.specs.declared.judged.JudgedApp.{JudgedApp}
use Rattle.load.specs.declared.judged.JudgedManifest.{JudgedManifest}
use Rattle.releases.specs.Appid.{is_appid}
use Rattle.ruleset.specs.Rules.{AppRule, app_in, app_of}
use Rattle.dry_run.specs.Courses.{ExplainsCourse}
use Rattle.dry_run.specs.Meanings.{IsMeantApp}
use Rattle.dry_run.specs.Why.{ExplainsAll, ExplainsApps, ExplainsOne}
use Rattle.dry_run.specs.Why.{RunIsExplained, unlisted, not_requested, was_run}
use Rattle.dry_run.specs.Why.{no_reason, next_reason}
use Rattle.dry_run.proofs.WholeRuns.{runs_app}

-- ---- an app that is found

found_means : (b : Bool) (app known : JudgedApp) (more : Option JudgedApp) → IsMeantApp app
    → (more ≡ Some known → IsMeantApp known) → cond b (Some app) more ≡ Some known
    → IsMeantApp known
found_means true app known more here there is = subst IsMeantApp (same_Some app known is) here
found_means false app known more here there is = there is

pub is_meant : (apps : List JudgedApp) (appid : List ℕ) (known : JudgedApp)
    → All IsMeantApp apps → Some known ≡ app_named apps appid → IsMeantApp known
is_meant [] appid known each found = absurd cc
is_meant (app ∷ apps) appid known each found =
    found_means (bytes_eq app.sources.entry.appid appid) app known (app_named apps appid)
    (All-head IsMeantApp app apps each)
    (λ behind. is_meant apps appid known (All-tail IsMeantApp app apps each) (sym behind))
    (sym found)

pub named_meant : (apps : List JudgedApp) (appid : List ℕ) (found : Option JudgedApp)
    → All IsMeantApp apps → found ≡ app_named apps appid → IfSome found IsMeantApp
named_meant apps appid None each is = tt
named_meant apps appid (Some known) each is = is_meant apps appid known each is

-- the ruleset's app is that of the app that is found
rule_if : (b : Bool) (app : JudgedApp) (more : Option JudgedApp) (rest : Option AppRule)
    → rest ≡ option_map app_rule more
    → cond b (Some (app_rule app)) rest ≡ option_map app_rule (cond b (Some app) more)
rule_if true app more rest same = refl
rule_if false app more rest same = same

rule_found : (apps : List JudgedApp) (appid : List ℕ)
    → app_in (app_rules apps) appid ≡ option_map app_rule (app_named apps appid)
rule_found [] appid = refl
rule_found (app ∷ apps) appid =
    rule_if (bytes_eq app.sources.entry.appid appid) app (app_named apps appid)
    (app_in (app_rules apps) appid) (rule_found apps appid)

module _ (manifest : JudgedManifest) (appid : List ℕ) where
  pub rules_lack : app_named manifest.apps.items appid ≡ None
      → app_of (rules_of manifest) appid ≡ None
  rules_lack none = rule_found manifest.apps.items appid ∙ ap (option_map app_rule) none

  rules_have : (known : JudgedApp) → app_named manifest.apps.items appid ≡ Some known
      → app_of (rules_of manifest) appid ≡ Some (app_rule known)
  rules_have known found = rule_found manifest.apps.items appid ∙ ap (option_map app_rule) found

-- ---- an app

-- what holds of any text holds of the one that is made
pub of_any : {A E : Type 0} (made : Result A E) (P : A → Type 0) → ((a : A) → P a)
    → IfOk made P
of_any (Ok a) P all = all a
of_any (Err e) P all = tt

module _ (manifest : JudgedManifest) (facts : RequestFacts) (moment : ℤ) where
  pub unknown_explained : (app : AppFacts) (appid old text : List ℕ) → appid ≡ app.appid
      → None ≡ app_named manifest.apps.items appid
      → ExplainsOne manifest facts moment app old old text
  unknown_explained app appid old text named found =
      (None, unlisted (ap (app_named manifest.apps.items) (sym named) ∙ sym found))

  pub no_request_explained : (app stated : AppFacts) (appid old text : List ℕ)
      (known : JudgedApp) → appid ≡ app.appid
      → Some known ≡ app_named manifest.apps.items appid → stated ≡ app
      → stated.updatecheck ≡ false → ExplainsOne manifest facts moment app old old text
  no_request_explained app stated appid old text known named found same asks = (
    None,
    not_requested known (ap (app_named manifest.apps.items) (sym named) ∙ sym found)
        (ap (λ (x : AppFacts). x.updatecheck) (sym same) ∙ asks),
  )

  pub run_explained : (app stated : AppFacts) (appid old new text : List ℕ) (choice : ℕ)
      (known : JudgedApp) (a : Attributes) → appid ≡ app.appid → stated ≡ app
      → a ≡ attributes_of stated facts moment → stated.updatecheck ≡ true
      → Some known ≡ app_named manifest.apps.items appid → IsMeantApp known
      → IsTrue (is_appid known.sources.entry.appid) → RunIsExplained known a old choice new text
      → ExplainsOne manifest facts moment app old new text
  run_explained app stated appid old new text choice known a named same made asks found meant valid
      run =
      let of = made ∙ ap (λ (x : AppFacts). attributes_of x facts moment) same in
      let requested = ap (λ (x : AppFacts). x.updatecheck) (sym same) ∙ asks in
      let known_as = ap (app_named manifest.apps.items) (sym named) ∙ sym found in
      let course = subst (λ (b : Attributes). ExplainsCourse known.program known.rule b old
      choice new run.course) of run.course_is in (
        Some choice,
        was_run (record {
          known = known;
          found = known_as;
          course = run.course;
          course_is = course;
          runs = runs_app (rules_of manifest) facts moment app (app_rule known) old choice
              course.count new course.run requested (rules_have manifest app.appid known known_as)
              valid meant.among;
          prints = run.prints;
        }),
      )

  -- ---- app after app

  pub none_yet : (old text : List ℕ) → text ≡ []
      → ExplainsAll manifest facts moment old [] old text
  none_yet old text none = (
    [],
    subst (λ (t : List ℕ). ExplainsApps manifest facts moment old [] [] old t) (sym none)
        no_reason,
  )

  pub one_more : (old : List ℕ) (apps : List AppFacts) (i : ℕ) (app : AppFacts)
      (between before new text after : List ℕ) → i < length apps → app ≡ get_or apps i app
      → ExplainsAll manifest facts moment old (take i apps) between before
      → ExplainsOne manifest facts moment app between new text → after ≡ before ++ text
      → ExplainsAll manifest facts moment old (take (i + 1) apps) new after
  one_more old apps i app between before new text after below found stated next is =
      let longer : take (i + 1) apps ≡ take i apps ++ app ∷ [] =
      take_more apps i app below ∙ ap (λ (x : AppFacts). take i apps ++ x ∷ []) (sym found) in
      let choices = stated.0 ++ next.0 ∷ [] in
      let A : List AppFacts → Type 0 = λ few.
      ExplainsApps manifest facts moment old few choices new (before ++ text) in
      let T : List ℕ → Type 0 = λ t.
      ExplainsApps manifest facts moment old (take (i + 1) apps) choices new t in
      (choices, subst T (sym is) (subst A (sym longer) (next_reason stated.1 next.1)))

pub all_shown : (manifest : JudgedManifest) (facts facts' : RequestFacts) (moment : ℤ)
    (old : List ℕ) (apps apps' : List AppFacts) (few : ℕ) (new text : List ℕ)
    → facts ≡ facts' → apps ≡ apps' → length apps ≤ few
    → ExplainsAll manifest facts moment old (take few apps) new text
    → ExplainsAll manifest facts' moment old apps' new text
all_shown manifest facts facts' moment old apps apps' few new text same alike past stated =
    let A : List AppFacts → Type 0 = λ all. ExplainsAll manifest facts moment old all new text in
    let F : RequestFacts → Type 0 = λ f. ExplainsAll manifest f moment old apps' new text in
    subst F same (subst A (take_all few apps past ∙ alike) stated)
