-- The apps of a manifest, as they are opened to be explained, with the meanings of their rules.
use Rattle.std.specs.Prelude.{ℕ, List, Some, None}
use Rattle.attrs.specs.Attributes.{Attributes}
use Rattle.bounded_files.specs.Files.{KnownFiles}
use Rattle.bpf_semantics.specs.Program.{ShapedProgram}
use Rattle.load.specs.JudgedApps.{OptionalRule, rules_of}
use Rattle.load.specs.Opened.{IsOpened}
use Rattle.load.specs.declared.judged.JudgedApp.{JudgedApp}
use Rattle.rule_compile.specs.Means.{Means}
use Rattle.ruleset.specs.Rules.{ChoosesAmong}
use Rattle.dry_run.specs.Files.{AreOpened, IsBodyIn}
use Rattle.dry_run.specs.declared.why_files.OpenedWhy.{OpenedWhy}

-- the program has the meaning of the rule, whatever the attributes
abbrev pub HasMeaning : ShapedProgram → OptionalRule → Type 0
HasMeaning program (Some rule) = (a : Attributes) → Means a rule program
HasMeaning program None = Unit {0}

-- the app's program has the meaning of its rule, if it has one, and chooses among its releases
pub record IsMeantApp (app : JudgedApp) : Type 0 where
  pub meant : HasMeaning app.program app.rule
  pub among : ChoosesAmong app.program app.sources.entry.releases

-- what the files give: a judged manifest, whose rules are those of exactly the bytes that its
-- digest covers, and a body
pub record AreOpenedWhy (known : KnownFiles) (manifest request : List ℕ) (o : OpenedWhy)
    : Type 0 where
  pub opened : IsOpened known manifest o.manifest
  pub read : IsBodyIn known request o.body.items

-- this is what is opened to find the reply
abbrev pub OpensTheSame : Type 0
OpensTheSame = (known : KnownFiles) (manifest request : List ℕ) (o : OpenedWhy)
    → AreOpenedWhy known manifest request o
    → AreOpened known manifest request (rules_of o.manifest) o.manifest.directory o.body.items
