use Rattle.std.proofs.Common.{sym, subst}
use Rattle.std.specs.Prelude.{IfErr, IfOk}
use Rattle.cli_tool_commands.specs.Outputs.{IsOutput, IsRefused}
use Rattle.cli_tool_words.specs.declared.args.ToolCommand.{ToolCommand}
use Rattle.cli_tool_commands.proofs.requests.output_of.Goals as goal

pub returns-in-Report-clause-output : goal.returns-in-Report-clause-output
returns-in-Report-clause-output g c =
    let known = g.D.Disk.known c.args.disk.now in
    subst (λ (r : ToolCommand). IfOk c.reported.result (IsOutput known r)) (sym c.in-Report.is)
    (c.reported.ensures.output known)

pub returns-in-Report-clause-fault : goal.returns-in-Report-clause-fault
returns-in-Report-clause-fault g c =
    let known = g.D.Disk.known c.args.disk.now in
    subst (λ (r : ToolCommand). IfErr c.reported.result (IsRefused known r)) (sym c.in-Report.is)
    (c.reported.ensures.fault known)

pub returns-in-Completion-clause-output : goal.returns-in-Completion-clause-output
returns-in-Completion-clause-output g c =
    let known = g.D.Disk.known c.args.disk.now in
    subst (λ (r : ToolCommand). IfOk c.completed.result (IsOutput known r))
    (sym c.in-Completion.is) (c.completed.ensures.output known)

pub returns-in-Completion-clause-fault : goal.returns-in-Completion-clause-fault
returns-in-Completion-clause-fault g c =
    let known = g.D.Disk.known c.args.disk.now in
    subst (λ (r : ToolCommand). IfErr c.completed.result (IsRefused known r))
    (sym c.in-Completion.is) (c.completed.ensures.fault known)
