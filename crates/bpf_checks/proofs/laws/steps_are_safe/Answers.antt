use Rattle.bpf_checks.proofs.Steps.{steps_safe}
use Rattle.bpf_checks.proofs.laws.steps_are_safe.Goals as goal

pub returns : goal.returns
returns c = steps_safe (record {
  registers = c.registers_sound.ensures.registers;
  operands = c.registers_sound.ensures.operands;
  writes = c.registers_sound.ensures.writes;
  calls = c.calls_sound.ensures;
  before = c.answers_are_kept.ensures.before;
  answering = c.answers_are_kept.ensures.next;
  bytes = c.bytes_are_there.ensures;
  results = c.results_sound.ensures.alu;
  copies = c.results_sound.ensures.copied;
  negations = c.results_sound.ensures.negated;
  extensions = c.results_sound.ensures.extended;
  reorderings = c.results_sound.ensures.reordered;
  loaded = c.results_sound.ensures.loaded;
  single = c.results_sound.ensures.single;
  up_to = c.results_sound.ensures.up_to;
  edges = c.lookups_sound.ensures.edges;
  stores = c.stores_sound.ensures;
  loads = c.loads_sound.ensures;
})
