-- Gathered apps as they are judged: each with its program, and with its rule, if its file is the
-- text of one.
use Rattle.std.specs.Prelude.{◌≡◌, ℕ, List, [], ◌∷◌, All, Option, Some, None, find, map}
use Rattle.std.specs.Str.{bytes_eq}
use Rattle.acceptance.specs.Program.{IsProgramOf}
use Rattle.acceptance.specs.Rule.{IsProgramOfRule}
use Rattle.bounded_files.specs.declared.kept_bytes.KeptBytes.{KeptBytes}
use Rattle.bounded_files.specs.declared.kept_bytes.KeptBytes.TheVariants.{Whole}
use Rattle.bpf_semantics.specs.Program.{ShapedProgram}
use Rattle.manifest.specs.declared.app.ProgramSource.{ProgramSource}
use Rattle.manifest.specs.declared.app.ProgramSource.TheVariants as source
use Rattle.rule_lang.specs.declared.rule.Statement.{Statement}
use Rattle.ruleset.specs.Rules.{AppRule, Rules}
use Rattle.ruleset.specs.declared.loaded.LoadedRuleset.{LoadedRuleset}
use Rattle.load.specs.Digest.{digest_of}
use Rattle.load.specs.Judged.{AreJudged, IsJudged, app_of, apps_of}
use Rattle.load.specs.declared.judged.AppProgram.{AppProgram}
use Rattle.load.specs.declared.judged.JudgedApp.{JudgedApp}
use Rattle.load.specs.declared.judged.JudgedManifest.{JudgedManifest}
use Rattle.load.specs.declared.sources.AppSources.{AppSources}
use Rattle.load.specs.declared.sources.Sources.{Sources}

-- ---- the rule of a file

-- a rule, if there is one
abbrev pub OptionalRule : Type 0
OptionalRule = Option (List Statement)

-- the rule that the kept bytes of an app's file spell and from which its program is compiled; none
-- if the file is a program
abbrev pub IsRuleKept : ProgramSource → Option KeptBytes → ShapedProgram → OptionalRule → Type 0
IsRuleKept (source.Program file) kept program rule = rule ≡ None
IsRuleKept (source.Rule file) (Some (Whole v)) program rule =
    (is : IsProgramOfRule v.items program) × (rule ≡ Some is.rule)
IsRuleKept (source.Rule file) kept program rule = ⊥

-- ---- the verdict on a file

-- the program of these bytes, and no rule
abbrev pub IsGivenByBytes : List ℕ → AppProgram → Type 0
IsGivenByBytes bytes p = IsProgramOf bytes p.program × (p.rule ≡ None)

-- the rule that these bytes spell, and its program
abbrev pub IsGivenByText : List ℕ → AppProgram → Type 0
IsGivenByText bytes p = (is : IsProgramOfRule bytes p.program) × (p.rule ≡ Some is.rule)

-- by what a file is
abbrev pub IsGivenBy : ProgramSource → List ℕ → AppProgram → Type 0
IsGivenBy (source.Program file) bytes p = IsGivenByBytes bytes p
IsGivenBy (source.Rule file) bytes p = IsGivenByText bytes p

-- from what is kept of a file, which is all its bytes
abbrev pub IsGivenByKept : ProgramSource → Option KeptBytes → AppProgram → Type 0
IsGivenByKept from (Some (Whole v)) p = IsGivenBy from v.items p
IsGivenByKept from kept p = ⊥

-- ---- apps

-- the program of an app and its rule, from what is kept of its file
pub record IsAppProgram (app : AppSources) (p : AppProgram) : Type 0 where
  pub judged : IsJudged app p.program
  pub rule_is : IsRuleKept app.entry.source app.kept p.program p.rule

-- each app has its program and its rule
pub data AreAppPrograms : List AppSources → List AppProgram → Type 0 where
  nothing_judged : AreAppPrograms [] []
  next_judged : {apps : List AppSources} {programs : List AppProgram} {app : AppSources}
      {program : AppProgram} → IsAppProgram app program → AreAppPrograms apps programs
      → AreAppPrograms (app ∷ apps) (program ∷ programs)

-- an app with the program and the rule of what is kept of its file
pub record IsJudgedApp (app : JudgedApp) : Type 0 where
  pub judged : IsJudged app.sources app.program
  pub rule_is : IsRuleKept app.sources.entry.source app.sources.kept app.program app.rule

abbrev pub sources_of : List JudgedApp → List AppSources
sources_of apps = map (λ app. app.sources) apps

abbrev pub programs_of : List JudgedApp → List ShapedProgram
programs_of apps = map (λ app. app.program) apps

-- the app with this appid
abbrev pub app_named : List JudgedApp → (appid : List ℕ) → Option JudgedApp
app_named apps appid = find (λ app. bytes_eq app.sources.entry.appid appid) apps

-- ---- the ruleset's apps

abbrev pub app_rule : JudgedApp → AppRule
app_rule app = app_of app.sources app.program

abbrev pub app_rules : List JudgedApp → List AppRule
app_rules apps = map app_rule apps

-- ---- manifests

-- what was gathered from a manifest with these bytes, each app with its program and its rule; and
-- the digest of the bytes that were judged
pub record IsJudgedOf (bytes : List ℕ) (g : Sources) (j : JudgedManifest) : Type 0 where
  pub server_is : j.server ≡ g.server
  pub arrays_are : j.arrays.items ≡ g.arrays.items
  pub directory_is : j.directory ≡ g.directory
  pub sources_are : sources_of j.apps.items ≡ g.apps.items
  pub apps_are : All IsJudgedApp j.apps.items
  pub programs_are : AreJudged g.apps.items (programs_of j.apps.items)
  pub rules_are : app_rules j.apps.items ≡ apps_of g.apps.items (programs_of j.apps.items)
  pub digest_is : digest_of bytes g.apps.items ≡ Some j.digest

-- ---- the ruleset of a judged manifest

abbrev pub rules_of : JudgedManifest → Rules
rules_of j = record { server = j.server; apps = app_rules j.apps.items }

abbrev pub ruleset_of : JudgedManifest → LoadedRuleset
ruleset_of j = record { rules = rules_of j; directory = j.directory; digest = j.digest }
