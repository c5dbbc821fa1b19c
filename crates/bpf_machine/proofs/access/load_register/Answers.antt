use Rattle.std.proofs.Common.{rules, ◌≡◌}
use Rattle.std.proofs.lemmas.Int.{to_z-of_z}
use Rattle.bpf_semantics.specs.Memory.{address_of}
use Rattle.bpf_machine.specs.Words.{register_word}
use Rattle.bpf_machine.specs.Next.{IsLoadable}
use Rattle.bpf_semantics.specs.Reads.{load_count}
use Rattle.bpf_machine.proofs.Loads.{load_ready, load_agrees, load_asks}
use Rattle.bpf_machine.proofs.access.load_register.Goals as goal
use Rattle.bpf_machine.proofs.access.load_register.Goals.{After-add_offset-address}

-- the address, and its value
address_is : (c : After-add_offset-address) → c.add_offset-address.result
    ≡ address_of (register_word c.args.words.now c.args.src) c.args.offset
address_is c =
    let fits = c.ranges.offset in
    simp to_z-of_z at rw c.register.ensures at c.add_offset-address.ensures

loadable : (c : After-add_offset-address)
    → IsLoadable c.add_offset-address.result (load_count c.args.kind)
loadable c = rw (address_is c)
    (load_ready c.args.words.now c.args.kind c.args.dst c.args.src c.args.offset c.requires)

pub load-requires : goal.load-requires
load-requires c =
    (loadable (goal.at.load-requires c).After-add_offset-address).0 c.if-address-lt-CELL_START.true

pub cell_number-requires : goal.cell_number-requires
cell_number-requires c = (loadable (goal.at.cell_number-requires c).After-add_offset-address).1
    c.if-address-lt-CELL_START.false

pub returns-then-address-lt-CELL_START : goal.returns-then-address-lt-CELL_START
returns-then-address-lt-CELL_START c =
    let at = address_is (goal.at.returns-then-address-lt-CELL_START c).After-add_offset-address in
    load_agrees c.args.words.now c.args.kind c.args.dst c.args.src c.args.offset c.load.result
    c.write.result (search rules) (rw at at c.if-address-lt-CELL_START.true)
    (rw at at c.load.ensures) c.write.ensures

pub returns-else-address-lt-CELL_START : goal.returns-else-address-lt-CELL_START
returns-else-address-lt-CELL_START c =
    let at = address_is (goal.at.returns-else-address-lt-CELL_START c).After-add_offset-address in
    load_asks c.args.words.now c.args.kind c.args.dst c.args.src c.args.offset c.cell_number.result
    (rw at at c.if-address-lt-CELL_START.false)
    (rw at at c.cell_number.ensures.number) c.cell_number.ensures.in_range
