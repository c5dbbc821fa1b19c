use Rattle.bpf_checks.proofs.Steps.{first_stands, second_stands, opening_stands}
use Rattle.bpf_checks.proofs.laws.states_are_represented.Goals as goal

pub returns : goal.returns
returns c = record {
  first = first_stands c.joins_sound.ensures.first;
  second = second_stands c.joins_sound.ensures.second;
  opening = opening_stands c.registers_sound.ensures.opening;
}
