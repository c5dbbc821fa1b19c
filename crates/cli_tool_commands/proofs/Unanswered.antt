-- Why `ask --why` is refused, from the opened files.
use Rattle.std.proofs.Common.{inr}
use Rattle.bounded_files.specs.Files.{KnownFiles}
use Rattle.dry_run.specs.Meanings.{AreOpenedWhy}
use Rattle.dry_run.specs.declared.why_files.OpenedWhy.{OpenedWhy}
use Rattle.cli_tool_commands.specs.DryRuns.{IsReplyFault}
use Rattle.cli_tool_commands.specs.Whys.{IsUnansweredWhy, IsWhyRefusal}
use Rattle.cli_tool_commands.specs.declared.tool_fault.Fault.{Fault}
use Rattle.cli_tool_commands.specs.declared.tool_fault.Fault.TheVariants.{DryRun}
use Rattle.cli_tool_words.specs.declared.args.AskArgs.{AskArgs}

by_files : (known : KnownFiles) (args : AskArgs) (fault : Fault)
    → IsUnansweredWhy known args fault → IsWhyRefusal known args fault
by_files known args (DryRun fault) why = inr why
by_files known args fault why = why

pub unanswered : (known : KnownFiles) (args : AskArgs) (opened : OpenedWhy) (fault : Fault)
    → AreOpenedWhy known args.manifest.now args.request.now opened
    → IsReplyFault opened.manifest.directory opened.body.items args fault
    → IsWhyRefusal known args fault
unanswered known args opened fault files because =
    by_files known args fault (record { opened = opened; files = files; because = because })
