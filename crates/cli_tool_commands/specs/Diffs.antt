-- What `diff` prints, and why it prints nothing. No contract can say which counters a server has.
use Rattle.std.specs.Prelude.{◌⊎◌, List, IsSome}
use Rattle.bounded_files.specs.Files.{KnownFiles}
use Rattle.bounded_files.specs.declared.resource_fault.ResourceFault.TheVariants as resource
use Rattle.diff_manifests.specs.Opened.{AreOpened, IsOpenFault}
use Rattle.diff_manifests.specs.Outputs.{IsDiffFault, IsDiffOutput}
use Rattle.diff_manifests.specs.declared.opened.OpenedBoth.{OpenedBoth}
use Rattle.diff_manifests.specs.declared.output.DiffOptions.{DiffOptions}
use Rattle.diff_manifests.specs.declared.output.DiffOutput.{DiffOutput}
use Rattle.operator.specs.Done.{IsRequestRefusal}
use Rattle.operator_request.specs.declared.request.OperatorRequest.TheVariants as sent
use Rattle.cell_assignments.specs.Assignments.{Assignment}
use Rattle.cli_tool_commands.specs.DryRuns.{AreServed}
use Rattle.cli_tool_commands.specs.declared.tool_fault.Fault.{Fault}
use Rattle.cli_tool_commands.specs.declared.tool_fault.Fault.TheVariants.{Ask, Diff, Resource}
use Rattle.cli_tool_words.specs.declared.args.DiffArgs.{DiffArgs}

abbrev pub options_of : DiffArgs → DiffOptions
options_of args = record { only = args.appid; from_day = args.from; json = args.json }

-- with the counters of that server and the given ones
pub record IsDiffedBy (both : OpenedBoth) (args : DiffArgs) (output : DiffOutput) : Type 0 where
  pub served : List Assignment
  pub counters : AreServed args.operator served
  pub output_is : IsDiffOutput both served args.cells.items (options_of args) output

-- what the manifests of two files give
pub record HasDiffed (known : KnownFiles) (args : DiffArgs) (output : DiffOutput) : Type 0 where
  pub both : OpenedBoth
  pub opened : AreOpened known args.old.now args.new.now both
  pub by : IsDiffedBy both args output

-- what prevents a comparison: the server at the port, if one is given, or else the words; nothing
-- is claimed for out of memory
abbrev pub PreventsDiff : OpenedBoth → DiffArgs → Fault → Type 0
PreventsDiff both args (Diff why) = IsDiffFault both args.cells.items (options_of args) why
PreventsDiff both args (Ask why) = IsSome args.operator × IsRequestRefusal sent.Cells why
PreventsDiff both args (Resource resource.Memory) = Unit {0}
PreventsDiff both args why = ⊥

-- both manifests can be loaded
pub record IsUncompared (known : KnownFiles) (args : DiffArgs) (why : Fault) : Type 0 where
  pub both : OpenedBoth
  pub opened : AreOpened known args.old.now args.new.now both
  pub because : PreventsDiff both args why

-- a fault of the manifests comes first
abbrev pub IsDiffRefusal : KnownFiles → DiffArgs → Fault → Type 0
IsDiffRefusal known args (Diff why) =
    IsOpenFault known args.old.now args.new.now why ⊎ IsUncompared known args (Diff why)
IsDiffRefusal known args why = IsUncompared known args why
