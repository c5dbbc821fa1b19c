use Rattle.cli_tool_commands.proofs.status.perform.Goals as goal

pub returns-in-Ok-clause-done : goal.returns-in-Ok-clause-done
returns-in-Ok-clause-done g c zero = record {
  output = c.in-Ok.output;
  is_output = c.in-Ok.ensures.output;
  printed = c.print_whole-status.ensures.printed zero;
  warned = c.print_whole-status.ensures.warned zero;
  passed = c.print_whole-status.ensures.passed zero;
}
