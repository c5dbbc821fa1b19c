-- The output of each command, and why it is refused, by the bytes of the files, as far as they are
-- known. The bytes of a device's files aren't known, so an output is one for some bytes. No
-- contract can say what a server replies, and nothing is claimed for out of memory.
use Rattle.std.specs.Prelude.{◌≡◌, ◌⊎◌, ◌&&◌, List, ℕ, None, Some, true, false, not}
use Rattle.std.specs.Prelude.{IsSome, is_some, length}
use Rattle.std.specs.String.{string_bytes}
use Rattle.bounded_files.specs.Files.{KnownFiles}
use Rattle.bounded_files.specs.declared.resource_fault.ResourceFault.TheVariants as resource
use Rattle.cli_base.specs.declared.declared_shape.DeclaredShape.{DeclaredShape}
use Rattle.cli_logs.specs.Continued.{HasContinued}
use Rattle.cli_logs.specs.Reports.{HasReported}
use Rattle.cli_logs.specs.declared.report_form.ReportForm.{ReportForm}
use Rattle.cli_manifests.specs.CheckObjects.{IsCheckOutput, RefusesChecks}
use Rattle.cli_manifests.specs.Simulations.{HasSimulated, IsSimulationRefusal}
use Rattle.operator.specs.Done.{IsRequestRefusal}
use Rattle.operator_request.specs.declared.request.OperatorRequest.TheVariants as sent
use Rattle.cli_inspection.specs.Explanations.{HasExplained, IsExplainRefusal}
use Rattle.cli_inspection.specs.Orders.{IsOrderedFrom, IsOrderRefusal}
use Rattle.cli_inspection.specs.Traces.{HasTraced}
use Rattle.cli_programs.specs.Programs.{IsRunRefusal}
use Rattle.cli_tool_commands.specs.Clients.{client_of, simulation_of}
use Rattle.cli_tool_commands.specs.Diffs.{HasDiffed, IsDiffRefusal}
use Rattle.cli_tool_commands.specs.DryRuns.{HasDryRun, IsDryRunRefusal}
use Rattle.cli_tool_commands.specs.LoggedWhys.{HasLoggedWhy, IsLoggedRefusal}
use Rattle.cli_tool_commands.specs.Servers.{HasServer}
use Rattle.cli_tool_commands.specs.Whys.{HasWhy, IsWhyRefusal}
use Rattle.cli_tool_commands.specs.declared.tool_fault.Fault.{Fault}
use Rattle.cli_tool_commands.specs.declared.tool_fault.Fault.TheVariants as fault
use Rattle.cli_tool_commands.specs.declared.output.ToolOutput.{ToolOutput}
use Rattle.cli_tool_commands.specs.declared.output.ToolOutput.TheVariants as output
use Rattle.cli_tool_words.specs.declared.args.ReportArgs.{ReportArgs}
use Rattle.cli_tool_words.specs.declared.args.ToolCommand.{ToolCommand}
use Rattle.cli_tool_words.specs.declared.args.ToolCommand.TheVariants as command

abbrev pub form_of : ReportArgs → ReportForm
form_of args = record { prometheus = args.prometheus; heads = args.heads }

module _ (known : KnownFiles) where
  -- an accepted program with what is known about it
  abbrev pub IsExplainedOutput : (path : List ℕ) → DeclaredShape → ToolOutput → Type 0
  IsExplainedOutput path shape (output.Explained text) =
      HasExplained known path shape None (string_bytes text)
  IsExplainedOutput path shape other = ⊥

  -- a refused program with what is known about it, or no program
  abbrev pub IsExplainedRefusal : (path : List ℕ) → DeclaredShape → Fault → Type 0
  IsExplainedRefusal path shape (fault.Explained text refused) =
      HasExplained known path shape (Some refused) (string_bytes text)
  IsExplainedRefusal path shape (fault.Program why) = IsExplainRefusal known path shape why
  IsExplainedRefusal path shape other = ⊥

  abbrev pub IsOutput : ToolCommand → ToolOutput → Type 0
  IsOutput (command.Ask args) (output.Reply body) =
      (args.why ≡ false) × HasDryRun known args body.items
  IsOutput (command.Ask args) (output.Why text) =
      (args.why ≡ true) × HasWhy known args (string_bytes text)
  IsOutput (command.Check args) (output.Checked checked) =
      IsCheckOutput known args.json args.strict args.allowed.items args.manifests.items checked
  -- what shells and `man` read is left open
  IsOutput (command.Completion shell) (output.Completed text) = Unit {0}
  IsOutput (command.Diff args) (output.Diffed diff passes) =
      HasDiffed known args diff × (passes ≡ not (args.fail_on_lost && diff.loses))
  IsOutput (command.Explain path shape) explained = IsExplainedOutput path.now shape explained
  IsOutput (command.Order path out) (output.Ordered program) =
      IsOrderedFrom known path.now program.items
  IsOutput (command.Report args) (output.Reported report server) =
      HasReported (length args.logs.items) args.since args.until (form_of args)
      (is_some args.picture) (is_some args.page) report
      × HasServer args (string_bytes server)
  IsOutput (command.Report args) (output.Continued report server) =
      IsSome args.state × HasContinued (length args.logs.items) (form_of args)
      (is_some args.picture) (is_some args.page) report
      × HasServer args (string_bytes server)
  IsOutput (command.Simulate args) (output.Simulated simulation passes) =
      HasSimulated known (client_of args.app) (simulation_of args) simulation
      × (passes ≡ not (args.fail_on_lost && simulation.loses))
  -- nothing is known about a folder of a device, nor about its servers
  IsOutput (command.Stage args) (output.Staged outcome) = Unit {0}
  IsOutput (command.Trace run) (output.Traced lines choice instructions) =
      HasTraced known run choice instructions
  IsOutput (command.Why args) (output.Why text) = HasLoggedWhy known args (string_bytes text)
  IsOutput command output = ⊥

  abbrev pub IsRefused : ToolCommand → Fault → Type 0
  IsRefused (command.Ask args) why =
      ((args.why ≡ false) × IsDryRunRefusal known args why)
      ⊎ ((args.why ≡ true) × IsWhyRefusal known args why)
  IsRefused (command.Check args) (fault.Manifest why) =
      RefusesChecks known args.json args.manifests.items why
  IsRefused (command.Completion shell) (fault.Resource resource.Memory) = Unit {0}
  IsRefused (command.Diff args) why = IsDiffRefusal known args why
  IsRefused (command.Explain path shape) why = IsExplainedRefusal path.now shape why
  IsRefused (command.Order path out) (fault.Program why) = IsOrderRefusal known path.now why
  -- nothing is known about the logs of a device, nor about its clock
  IsRefused (command.Report args) (fault.Resource why) = Unit {0}
  IsRefused (command.Report args) (fault.Report why) = IsSome args.state
  IsRefused (command.Report args) (fault.Ask why) =
      IsSome args.operator × IsRequestRefusal sent.Cells why
  IsRefused (command.Simulate args) (fault.Manifest why) =
      IsSimulationRefusal known (client_of args.app) (simulation_of args) why
  IsRefused (command.Stage args) (fault.Resource resource.Memory) = Unit {0}
  IsRefused (command.Trace run) (fault.Program why) =
      IsRunRefusal known run.path.now run.shape why
  IsRefused (command.Why args) why = IsLoggedRefusal known args why
  IsRefused command why = ⊥
