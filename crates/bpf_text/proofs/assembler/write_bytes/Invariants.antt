use Rattle.std.proofs.Common.{◌≡◌, map, drop}
use Rattle.bpf_text.specs.Labels.{slot_at}
use Rattle.bpf_text.specs.Assembly.{bytes_of_placed, onto_bytes}
use Rattle.bpf_text.specs.Names.{placed_named}
use Rattle.bpf_text.specs.Tables.{tables}
use Rattle.bpf_text.proofs.assembler.write_bytes.Given as goal

abbrev pub invariant-loop-placed : goal.invariant-loop-placed
invariant-loop-placed l =
    let slot_of = slot_at l.reading.labels in
    let items = l.reading.placed.items in
    bytes_of_placed tables slot_of (map placed_named items) ≡ onto_bytes l.out.items
    (bytes_of_placed tables slot_of (map placed_named (drop l.placed-index items)))
