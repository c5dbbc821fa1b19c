use Rattle.std.proofs.Common.{◌≡◌}
use Rattle.std.proofs.lemmas.Int.{to_z-of_z}
use Rattle.bpf_semantics.specs.Memory.{address_of}
use Rattle.bpf_machine.specs.Words.{register_word}
use Rattle.bpf_machine.proofs.Asking.{atomic_ready, atomic_agrees}
use Rattle.bpf_machine.proofs.counters.operate_on_counter.Goals as goal
use Rattle.bpf_machine.proofs.counters.operate_on_counter.Goals.{After-add_offset-address}

address_is : (c : After-add_offset-address) → c.add_offset-address.result
    ≡ address_of (register_word c.args.words.now c.args.dst) c.args.offset
address_is c =
    let fits = c.ranges.offset in
    simp to_z-of_z at rw c.register.ensures at c.add_offset-address.ensures

pub cell_number-requires : goal.cell_number-requires
cell_number-requires c =
    rw (address_is (goal.at.cell_number-requires c).After-add_offset-address)
    (atomic_ready c.args.words.now c.args.op c.args.size c.args.dst c.args.src
    c.args.offset c.requires)

pub returns : goal.returns
returns c =
    let at = address_is (goal.at.returns c).After-add_offset-address in
    rw (c.cell_op.ensures, c.fetched.ensures)
    (atomic_agrees c.args.words.now c.args.op c.args.size c.args.dst c.args.src c.args.offset
    c.cell_number.result c.narrow-expected.result c.narrow-value.result
    (rw at at c.cell_number.ensures.number) c.cell_number.ensures.in_range c.narrow-expected.ensures
    (rw c.register-2.ensures at c.narrow-value.ensures))
