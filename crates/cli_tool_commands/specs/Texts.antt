-- The texts that the program prints for an output and for a refusal.
use Rattle.std.specs.Prelude.{ℕ, ◌/◌, List, [], ◌++◌, length, codes, Bool, true}
use Rattle.std.specs.Fmt.{decimal}
use Rattle.std.specs.String.{string_bytes}
use Rattle.bounded_files.specs.Texts.{resource_text}
use Rattle.bpf_checks.specs.Texts.{verifier_refusal_text}
use Rattle.dry_run.specs.Texts.{dry_run_text}
use Rattle.cli_logs.specs.Faults.{report_fault_text}
use Rattle.diff_manifests.specs.Texts.{diff_fault_text}
use Rattle.cli_manifests.specs.Manifests as manifest
use Rattle.cli_manifests.specs.declared.manifest_tool_fault.ManifestToolFault.TheVariants as tool
use Rattle.operator.specs.Texts.{request_fault_text}
use Rattle.cli_programs.specs.Texts as program
use Rattle.ruleset.specs.Texts.{line}
use Rattle.cli_tool_commands.specs.declared.tool_fault.Fault.{Fault}
use Rattle.cli_tool_commands.specs.declared.tool_fault.Fault.TheVariants as fault
use Rattle.cli_tool_commands.specs.declared.output.ToolOutput.{ToolOutput}
use Rattle.cli_tool_commands.specs.declared.output.ToolOutput.TheVariants as output

-- the text that is printed for an output
abbrev pub output_text : ToolOutput → List ℕ
output_text (output.Checked checked) = string_bytes checked.text
output_text (output.Completed text) = string_bytes text
output_text (output.Continued report server) =
    string_bytes report.text ++ string_bytes server
output_text (output.Diffed diff does) = string_bytes diff.text
output_text (output.Explained text) = string_bytes text
output_text (output.Ordered program) = line (decimal (length program.items / 8) ++ codes " slots")
output_text (output.Reply body) = body.items
output_text (output.Reported report server) =
    string_bytes report.text ++ string_bytes server
output_text (output.Staged outcome) = string_bytes outcome.text
output_text (output.Simulated simulation does) = string_bytes simulation.text
output_text (output.Traced lines choice instructions) =
    line (string_bytes lines ++ codes "choice " ++ decimal choice
    ++ codes " after " ++ decimal instructions ++ codes " instructions")
output_text (output.Why text) = string_bytes text

-- what goes to standard error with an output: the warnings of a check, and why a stage isn't done
abbrev pub warnings_of : ToolOutput → List ℕ
warnings_of (output.Checked checked) = string_bytes checked.stderr
warnings_of (output.Staged outcome) = string_bytes outcome.stderr
warnings_of other = []

-- a check may find warnings that count, a comparison or a simulation lost releases, and a stage may
-- stop; any other output passes
abbrev pub passes : ToolOutput → Bool
passes (output.Checked checked) = checked.passes
passes (output.Diffed diff does) = does
passes (output.Staged outcome) = outcome.is_done
passes (output.Simulated simulation does) = does
passes other = true

-- the place and the reason of a manifest's refusal, and why `explain` shows a program as refused,
-- which are printed after the refusal
abbrev pub refusal_reason : Fault → List ℕ
refusal_reason (fault.Explained text refused) = string_bytes refused.reason
refusal_reason (fault.Manifest (tool.Diagnosed refused)) = string_bytes refused.reason
refusal_reason other = []

abbrev pub fault_text : Fault → List ℕ
fault_text (fault.Resource why) = resource_text why
fault_text (fault.Program why) = program.fault_text why
fault_text (fault.Explained text refused) = verifier_refusal_text refused.refusal
fault_text (fault.Manifest why) = manifest.fault_text why
fault_text (fault.DryRun why) = dry_run_text why
fault_text (fault.Diff why) = diff_fault_text why
fault_text (fault.Report why) = report_fault_text why
-- also the words of a server, or of another program that listens at its port
fault_text (fault.Ask why) = request_fault_text why
