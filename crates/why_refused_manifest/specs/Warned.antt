-- The warnings on an accepted manifest: on its arrays, then on each app in order: on its appid, its
-- releases and its rule.
use Rattle.std.specs.Prelude.{◌≡◌, ℕ, ◌+◌, List, [], ◌∷◌, ◌++◌, Some, None}
use Rattle.rule_lang.specs.declared.rule.Statement.{Statement}
use Rattle.manifest.specs.App.{AppEntry}
use Rattle.load.specs.JudgedApps.{OptionalRule, app_rules}
use Rattle.load.specs.declared.judged.JudgedApp.{JudgedApp}
use Rattle.load.specs.declared.judged.JudgedManifest.{JudgedManifest}
use Rattle.load.specs.declared.sources.AppSources.{AppSources}
use Rattle.why_refused_manifest.specs.ArrayWarnings.{array_warnings}
use Rattle.warnings.specs.RuleWarnings.{whole_budget, budget_left, rule_warnings}
use Rattle.warnings.specs.Evaluation.{RuleOfApp}
use Rattle.warnings.specs.Releases.{appid_warning, releases_from}
use Rattle.warnings.specs.declared.warning.Warning.{Warning}

-- ---- the appid and the releases of an app

unfoldable pub app_warnings : ℕ → AppEntry → List Warning
app_warnings number entry =
    appid_warning number entry.appid ++ releases_from number 1 entry.releases

-- ---- the rule of an app

abbrev pub evaluated : AppSources → List Statement → RuleOfApp
evaluated app rule = record {
  appid = app.entry.appid;
  shape = app.shape;
  releases = app.entry.releases;
  rule = rule;
}

-- the warnings on the rule, and the budget left for the rules of other apps
abbrev pub WarnsOfRule : (number budget : ℕ) → AppSources → OptionalRule → List Warning → (left : ℕ)
    → Type 0
WarnsOfRule number budget app None by_rule left = (by_rule ≡ []) × (left ≡ budget)
WarnsOfRule number budget app (Some rule) by_rule left =
    (by_rule ≡ rule_warnings number budget (evaluated app rule))
    × (left ≡ budget_left budget (evaluated app rule))

-- for an app: the warnings on its appid and its releases, then on its rule
pub record WarnsOfApp (number budget : ℕ) (app : JudgedApp) (reported : List Warning) (left : ℕ)
    : Type 0
  where
    pub by_rule : List Warning
    pub rule_warns : WarnsOfRule number budget app.sources app.rule by_rule left
    pub reported_is : reported ≡ app_warnings number app.sources.entry ++ by_rule

-- for these apps, the first of which has this number
pub data WarnsOfApps : (number budget : ℕ) → List JudgedApp → List Warning → Type 0 where
  no_app : {number budget : ℕ} → WarnsOfApps number budget [] []
  next : {number budget left : ℕ} {app : JudgedApp} {apps : List JudgedApp}
      {reported rest : List Warning} → WarnsOfApp number budget app reported left
      → WarnsOfApps (number + 1) left apps rest
      → WarnsOfApps number budget (app ∷ apps) (reported ++ rest)

-- on the arrays, then on the apps
pub record WarnsOf (j : JudgedManifest) (warnings : List Warning) : Type 0 where
  pub reported : List Warning
  pub of_apps : WarnsOfApps 1 whole_budget j.apps.items reported
  pub warnings_are : warnings ≡ array_warnings 0 j.directory (app_rules j.apps.items) ++ reported
