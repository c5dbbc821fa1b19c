-- Files give no ruleset or no body; and the apps of a manifest have the meanings of their rules.
use Rattle.std.proofs.Common.{◌∙◌, ℕ, List, [], ◌∷◌, All, Option, Some, None, ap, sym, subst}
use Rattle.std.proofs.lemmas.List.Elements.{All-cons, All-head, All-nil, All-tail}
use Rattle.bounded_files.specs.Files.{KnownFiles}
use Rattle.bounded_files.specs.declared.kept_bytes.KeptBytes.{KeptBytes}
use Rattle.bounded_files.specs.declared.kept_bytes.KeptBytes.TheVariants.{Whole, Longer}
use Rattle.bounded_files.specs.declared.resource_fault.ResourceFault.TheVariants.{File}
use Rattle.bounded_files.specs.declared.resource_fault.ResourceFault.TheVariants as resource
use Rattle.bpf_semantics.specs.Program.{ShapedProgram}
use Rattle.cells.specs.Arrays.{AppShape}
use Rattle.cells.specs.declared.array.CellArray.{CellArray}
use Rattle.load.specs.Folder.{files_in_folder}
use Rattle.load.specs.JudgedApps.{IsJudgedApp, IsRuleKept, OptionalRule, rules_of, ruleset_of}
use Rattle.load.specs.JudgedApps.{sources_of}
use Rattle.load.specs.Loaded.{IsLoadedFrom}
use Rattle.load.specs.Made.{SourcesAreMade}
use Rattle.load.specs.Opened.{IsOpened, OpenedIsMade}
use Rattle.load.specs.Sources.{HasItsReleases}
use Rattle.load.specs.declared.judged.JudgedApp.{JudgedApp}
use Rattle.load.specs.declared.judged.JudgedManifest.{JudgedManifest}
use Rattle.manifest.specs.declared.app.ProgramSource.{ProgramSource}
use Rattle.manifest.specs.declared.app.ProgramSource.TheVariants as source
use Rattle.ruleset.specs.Rules.{Rules}
use Rattle.dry_run.specs.Files.{IsBodyFault, ComesToRuleset, IsOpenFault}
use Rattle.dry_run.specs.Meanings.{HasMeaning, IsMeantApp, OpensTheSame}
use Rattle.dry_run.specs.declared.dry_run_fault.DryRunFault.{DryRunFault}
use Rattle.dry_run.specs.declared.dry_run_fault.DryRunFault.TheVariants as fault

body_fault : (known : KnownFiles) (manifest request : List ℕ) (why : DryRunFault)
    → ComesToRuleset known manifest → IsBodyFault known request why
    → IsOpenFault known manifest request why
body_fault known manifest request (fault.Resource File) is given = (is, given)
body_fault known manifest request (fault.Resource resource.Memory) is given = tt
body_fault known manifest request fault.TooLarge is more = (is, more)
body_fault known manifest request (fault.Manifest why) is given = absurd given
body_fault known manifest request fault.Cell is given = absurd given
body_fault known manifest request (fault.Omaha why) is given = absurd given

pub no_body : (known : KnownFiles) (manifest request : List ℕ) (rules : Rules)
    (arrays : List CellArray) (why : DryRunFault) → IsLoadedFrom known manifest [] rules arrays
    → IsBodyFault known request why → IsOpenFault known manifest request why
no_body known manifest request rules arrays why is wanting =
    body_fault known manifest request why
    (record { rules = rules; arrays = arrays; loaded = is }) wanting

-- ---- with the rules of its apps

load_of : (known : KnownFiles) (path : List ℕ) (j : JudgedManifest) → OpenedIsMade
    → SourcesAreMade → IsOpened known path j → IsLoadedFrom known path [] (rules_of j) j.directory
load_of known path j opens makes is =
    let from = opens known path j is in
    record {
      bytes = from.bytes;
      given = from.given;
      loaded = (makes (files_in_folder known path) [] from.bytes from.sources from.are_sources).made
          (ruleset_of j) from.made_of;
    }

pub no_body_why : (known : KnownFiles) (manifest request : List ℕ) (j : JudgedManifest)
    (why : DryRunFault) → OpenedIsMade → SourcesAreMade → IsOpened known manifest j
    → IsBodyFault known request why → IsOpenFault known manifest request why
no_body_why known manifest request j why opens makes is wanting =
    no_body known manifest request (rules_of j) j.directory why
    (load_of known manifest j opens makes is) wanting

pub opens_the_same : OpenedIsMade → SourcesAreMade → OpensTheSame
opens_the_same opens makes known manifest request o is = record {
  loaded = load_of known manifest o.manifest opens makes is.opened;
  given = is.read.given;
  short = is.read.short;
}

-- ---- what they mean

has_meaning : (from : ProgramSource) (kept : Option KeptBytes) (program : ShapedProgram)
    (rule : OptionalRule) → IsRuleKept from kept program rule → HasMeaning program rule
has_meaning (source.Program file) kept program rule is = subst (HasMeaning program) (sym is) tt
has_meaning (source.Rule file) None program rule is = absurd is
has_meaning (source.Rule file) (Some (Longer v count is_text)) program rule is = absurd is
has_meaning (source.Rule file) (Some (Whole v)) program rule is =
    subst (HasMeaning program) (sym is.1) is.0.means

meant_app : (app : JudgedApp) → IsJudgedApp app → HasItsReleases app.sources → IsMeantApp app
meant_app app is releases = record {
  meant = has_meaning app.sources.entry.source app.sources.kept app.program app.rule is.rule_is;
  among = sym (ap (λ (s : AppShape). s.releases) is.judged.shape_is ∙ releases);
}

pub are_meant : (apps : List JudgedApp) → All IsJudgedApp apps
    → All HasItsReleases (sources_of apps) → All IsMeantApp apps
are_meant [] each shaped = All-nil IsMeantApp
are_meant (app ∷ apps) each shaped =
    All-cons IsMeantApp app apps
    (meant_app app (All-head IsJudgedApp app apps each)
    (All-head HasItsReleases app.sources (sources_of apps) shaped))
    (are_meant apps (All-tail IsJudgedApp app apps each)
    (All-tail HasItsReleases app.sources (sources_of apps) shaped))
