use Rattle.abs_value.proofs.Writes.{register_is_there, operand_is_there}
use Rattle.abs_value.proofs.Writes.{covers_write, covers_learnt, covers_opening}
use Rattle.abs_value.proofs.laws.registers_sound.Goals as goal

pub returns : goal.returns
returns c = record {
  registers = register_is_there;
  operands = operand_is_there;
  writes = covers_write;
  learnt = covers_learnt;
  opening = covers_opening;
}
