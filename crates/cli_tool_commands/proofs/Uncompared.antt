-- Why `diff` is refused, from the opened manifests.
use Rattle.std.proofs.Common.{inr}
use Rattle.bounded_files.specs.Files.{KnownFiles}
use Rattle.diff_manifests.specs.Opened.{AreOpened}
use Rattle.diff_manifests.specs.declared.opened.OpenedBoth.{OpenedBoth}
use Rattle.cli_tool_commands.specs.Diffs.{IsDiffRefusal, IsUncompared, PreventsDiff}
use Rattle.cli_tool_commands.specs.declared.tool_fault.Fault.{Fault}
use Rattle.cli_tool_commands.specs.declared.tool_fault.Fault.TheVariants.{Diff}
use Rattle.cli_tool_words.specs.declared.args.DiffArgs.{DiffArgs}

by_words : (known : KnownFiles) (args : DiffArgs) (fault : Fault)
    → IsUncompared known args fault → IsDiffRefusal known args fault
by_words known args (Diff fault) why = inr why
by_words known args fault why = why

pub uncompared : (known : KnownFiles) (args : DiffArgs) (both : OpenedBoth) (fault : Fault)
    → AreOpened known args.old.now args.new.now both
    → PreventsDiff both args fault → IsDiffRefusal known args fault
uncompared known args both fault opened because =
    by_words known args fault (record { both = both; opened = opened; because = because })
