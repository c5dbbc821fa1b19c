-- The warnings on apps, one app after the other.
use Rattle.std.proofs.Common.{◌≡◌, ℕ, ◌+◌, ◌-◌, ◌<◌, List, [], ◌∷◌, ◌++◌, length, take, drop}
use Rattle.std.proofs.Common.{get_or, Some, None, arith, refl, sym, ap, ◌∙◌, subst}
use Rattle.std.proofs.Common.{append_assoc, append-nil}
use Rattle.std.proofs.Math.Seq.{take-length}
use Rattle.rule_lang.specs.declared.rule.Statement.{Statement}
use Rattle.load.specs.JudgedApps.{OptionalRule}
use Rattle.load.specs.declared.judged.JudgedApp.{JudgedApp}
use Rattle.load.specs.declared.sources.AppSources.{AppSources}
use Rattle.why_refused_manifest.specs.Added.{AddsApp, AddsRule}
use Rattle.why_refused_manifest.specs.Warned.{WarnsOfRule, WarnsOfApps, app_warnings, evaluated}
use Rattle.why_refused_manifest.specs.Warned.WarnsOfApps.{no_app, next}
use Rattle.warnings.specs.RuleWarnings.{budget_left, rule_warnings}
use Rattle.warnings.specs.Evaluation.{RuleOfApp}
use Rattle.warnings.specs.declared.warning.Warning.{Warning}

-- ---- one app

module _ (number budget : ℕ) (app : JudgedApp) (rule : OptionalRule) (same : rule ≡ app.rule) where
  -- for an app with a program
  pub adds_warnings : (old new : List Warning) → rule ≡ None
      → new ≡ old ++ app_warnings number app.sources.entry
      → AddsApp number budget app old new budget
  adds_warnings old new is added = record {
    reported = app_warnings number app.sources.entry;
    warns = record {
      by_rule = [];
      rule_warns = subst (λ (r : OptionalRule). WarnsOfRule number budget app.sources r [] budget)
          (sym is ∙ same) (refl, refl);
      reported_is = sym (append-nil _);
    };
    added_is = added;
  }

  -- for an app with a rule
  pub adds_by_rule : (spelled : List Statement) (old between new : List Warning) (left : ℕ)
      → rule ≡ Some spelled → between ≡ old ++ app_warnings number app.sources.entry
      → AddsRule number budget app.sources spelled between new left
      → AddsApp number budget app old new left
  adds_by_rule spelled old between new left is first more = record {
    reported = app_warnings number app.sources.entry ++ more.by_rule;
    warns = record {
      by_rule = more.by_rule;
      rule_warns =
          subst (λ (r : OptionalRule). WarnsOfRule number budget app.sources r more.by_rule left)
          (sym is ∙ same) more.rule_warns;
      reported_is = refl;
    };
    added_is = more.added_is ∙ ap (λ t. t ++ more.by_rule) first
        ∙ append_assoc old (app_warnings number app.sources.entry) more.by_rule;
  }

-- ---- its rule

same_by_rule : (by_rule : RuleOfApp) (app : AppSources) (rule : List Statement)
    → by_rule.appid ≡ app.entry.appid → by_rule.shape ≡ app.shape
    → by_rule.releases ≡ app.entry.releases → by_rule.rule ≡ rule → by_rule ≡ evaluated app rule
same_by_rule by_rule app rule appid shape releases is =
    rw (← appid, ← shape, ← releases, ← is) refl

pub added_rule : (number budget : ℕ) (app : AppSources) (by_rule : RuleOfApp)
    (rule : List Statement) (old new : List Warning) (left : ℕ)
    → by_rule.appid ≡ app.entry.appid → by_rule.shape ≡ app.shape
    → by_rule.releases ≡ app.entry.releases → by_rule.rule ≡ rule
    → new ≡ old ++ rule_warnings number budget by_rule → left ≡ budget_left budget by_rule
    → AddsRule number budget app rule old new left
added_rule number budget app by_rule rule old new left appid shape releases is reported room_is =
    let all = same_by_rule by_rule app rule appid shape releases is in
    record {
      by_rule = rule_warnings number budget (evaluated app rule);
      rule_warns = (refl, room_is ∙ ap (budget_left budget) all);
      added_is = reported ∙ ap (λ (r : RuleOfApp). old ++ rule_warnings number budget r) all;
    }

-- ---- one more app

pub first_rest : {X : Type 0} (xs : List X) (x : X) → 0 < length xs → x ≡ get_or xs 0 x
    → xs ≡ x ∷ take (length xs - 1) (drop 1 xs)
first_rest [] x some is = absurd (omega (arith, some))
first_rest (y ∷ ys) x some is =
    let n : length (y ∷ ys) - 1 ≡ length ys = omega arith in
    ap (λ z. z ∷ ys) (sym is) ∙ ap (λ t. x ∷ t) (sym (ap (λ m. take m ys) n ∙ take-length ys))

pub none_left : {X : Type 0} (xs : List X) → length xs < 1 → xs ≡ []
none_left [] few = refl
none_left (x ∷ xs) few = absurd (omega (arith, few))

pub more_reported : (number budget left : ℕ) (all_apps apps : List JudgedApp) (app : JudgedApp)
    (old new rest : List Warning) (all : List Warning → Type 0)
    → ((more : List Warning) → WarnsOfApps number budget all_apps more → all (old ++ more))
    → AddsApp number budget app old new left → all_apps ≡ app ∷ apps
    → WarnsOfApps (number + 1) left apps rest → all (new ++ rest)
more_reported number budget left all_apps apps app old new rest all so_far added apps_are later =
    let reported : WarnsOfApps number budget all_apps (added.reported ++ rest) =
    rw apps_are (next added.warns later) in
    subst all (sym (ap (λ t. t ++ rest) added.added_is ∙ append_assoc old added.reported rest))
    (so_far (added.reported ++ rest) reported)

-- ---- all apps

pub ended : (number budget : ℕ) (apps : List JudgedApp) (text : List Warning)
    (all : List Warning → Type 0)
    → ((more : List Warning) → WarnsOfApps number budget apps more → all (text ++ more))
    → apps ≡ [] → all text
ended number budget apps text all so_far no_apps =
    let reported : WarnsOfApps number budget apps [] = rw no_apps no_app in
    subst all (append-nil text) (so_far [] reported)
