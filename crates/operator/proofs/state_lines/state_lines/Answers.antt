use Rattle.operator.proofs.StateWritten.{state_written}
use Rattle.operator.proofs.state_lines.state_lines.Goals as goal

pub returns : goal.returns
returns c =
    state_written c.args.control.now _ _ _ _ _ _ _ c.generation-generation.ensures c.last.ensures
    c.halted.ensures c.in_ok-text.ensures.ok c.in_ok-push_load.ensures c.in_ok-push_halted.ensures
    c.in_ok-push_str.ensures.bytes
