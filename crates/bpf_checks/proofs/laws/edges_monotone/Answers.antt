use Rattle.bpf_checks.proofs.Ranges.{Ranges, jumping_in_order, going_on_in_order}
use Rattle.bpf_checks.proofs.laws.edges_monotone.Goals as goal

pub returns : goal.returns
returns c =
    let ranges : Ranges = record {
      alu = c.values_monotone.ensures.alu;
      copied = c.values_monotone.ensures.copied;
      negated = c.values_monotone.ensures.negated;
      extended = c.values_monotone.ensures.extended;
      reordered = c.values_monotone.ensures.reordered;
      loaded = c.values_monotone.ensures.loaded;
      operands = c.states_monotone.ensures.operands;
      writes = c.states_monotone.ensures.writes;
      stores = c.states_monotone.ensures.stores;
      loads = c.states_monotone.ensures.loads;
      edges = c.states_monotone.ensures.edges;
      calls = c.states_monotone.ensures.calls;
    } in
    record { jumping = jumping_in_order ranges; going_on = going_on_in_order ranges }
