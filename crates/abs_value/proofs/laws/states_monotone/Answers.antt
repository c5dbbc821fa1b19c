use Rattle.abs_value.proofs.StatesInOrder.{opening_in_order, operand_in_order}
use Rattle.abs_value.proofs.StatesInOrder.{written_in_order, stored_in_order, load_in_order}
use Rattle.abs_value.proofs.StatesInOrder.{joined_in_order, edge_in_order, called_in_order}
use Rattle.abs_value.proofs.laws.states_monotone.Goals as goal

pub returns : goal.returns
returns c = record {
  opening = opening_in_order;
  operands = operand_in_order;
  writes = written_in_order;
  stores = stored_in_order;
  loads = load_in_order;
  joins = joined_in_order;
  edges = edge_in_order;
  calls = called_in_order;
}
