use Rattle.worked_examples.proofs.StatesBack as state
use Rattle.worked_examples.proofs.looking_back.states_look_back.Goals as goal

pub returns : goal.returns
returns c = record {
  opening = state.opening_back;
  operands = state.operand_back;
  writes = state.written;
  stores = state.stored_back;
  loads = state.load_back;
  joins = state.joined_back;
  refined = state.refined_back;
  calls = state.called_back;
}
