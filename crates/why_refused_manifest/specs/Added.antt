-- What is added to the warnings on apps.
use Rattle.std.specs.Prelude.{◌≡◌, ℕ, List, ◌++◌, Some}
use Rattle.warnings.specs.declared.warning.Warning.{Warning}
use Rattle.load.specs.declared.judged.JudgedApp.{JudgedApp}
use Rattle.load.specs.declared.sources.AppSources.{AppSources}
use Rattle.rule_lang.specs.declared.rule.Statement.{Statement}
use Rattle.why_refused_manifest.specs.Warned.{WarnsOfRule, WarnsOfApp}

pub record AddsApp (number budget : ℕ) (app : JudgedApp) (old new : List Warning) (left : ℕ)
    : Type 0
  where
    pub reported : List Warning
    pub warns : WarnsOfApp number budget app reported left
    pub added_is : new ≡ old ++ reported

pub record AddsRule (number budget : ℕ) (app : AppSources) (rule : List Statement)
    (old new : List Warning) (left : ℕ) : Type 0
  where
    pub by_rule : List Warning
    pub rule_warns : WarnsOfRule number budget app (Some rule) by_rule left
    pub added_is : new ≡ old ++ by_rule
