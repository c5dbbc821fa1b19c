-- What `ask --why` prints, and why it prints nothing.
use Rattle.std.specs.Prelude.{◌≡◌, ◌⊎◌, ℕ, ℤ, List, ◌++◌}
use Rattle.bounded_files.specs.Files.{KnownFiles}
use Rattle.dry_run.specs.Files.{IsOpenFault}
use Rattle.dry_run.specs.Meanings.{AreOpenedWhy}
use Rattle.dry_run.specs.Why.{IsWhyText}
use Rattle.dry_run.specs.declared.why_files.OpenedWhy.{OpenedWhy}
use Rattle.cli_manifests.specs.Checks.{digest_line}
use Rattle.cell_assignments.specs.Assignments.{Assignment}
use Rattle.cli_tool_commands.specs.DryRuns.{AreServed, IsAt, IsReplyFault}
use Rattle.cli_tool_commands.specs.declared.tool_fault.Fault.{Fault}
use Rattle.cli_tool_commands.specs.declared.tool_fault.Fault.TheVariants.{DryRun}
use Rattle.cli_tool_words.specs.declared.args.AskArgs.{AskArgs}

-- the reasons for the request in the body and for each of its apps, at the given moment, with that
-- server's counters and the given ones; last the digest of the manifest and of its files
pub record IsWhyBy (opened : OpenedWhy) (args : AskArgs) (text : List ℕ) : Type 0 where
  pub moment : ℤ
  pub at : IsAt args.at moment
  pub served : List Assignment
  pub counters : AreServed args.operator served
  pub lines : List ℕ
  pub why_is : IsWhyText opened moment served args.cells.items lines
  pub text_is : text ≡ lines ++ digest_line opened.manifest.digest

-- the reasons, from the files
pub record HasWhy (known : KnownFiles) (args : AskArgs) (text : List ℕ) : Type 0 where
  pub opened : OpenedWhy
  pub files : AreOpenedWhy known args.manifest.now args.request.now opened
  pub why : IsWhyBy opened args text

-- what prevents the reasons, if the files have a ruleset and a body
pub record IsUnansweredWhy (known : KnownFiles) (args : AskArgs) (fault : Fault) : Type 0 where
  pub opened : OpenedWhy
  pub files : AreOpenedWhy known args.manifest.now args.request.now opened
  pub because : IsReplyFault opened.manifest.directory opened.body.items args fault

-- what prevents the reasons; a fault of the files comes first
abbrev pub IsWhyRefusal : KnownFiles → AskArgs → Fault → Type 0
IsWhyRefusal known args (DryRun fault) =
    IsOpenFault known args.manifest.now args.request.now fault
    ⊎ IsUnansweredWhy known args (DryRun fault)
IsWhyRefusal known args fault = IsUnansweredWhy known args fault
