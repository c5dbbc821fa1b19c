use Rattle.std.proofs.lemmas.Int.{to_z-of_z}
use Rattle.bpf_machine.proofs.Stores.{store_number_ready, store_number_agrees}
use Rattle.bpf_machine.proofs.access.store_number.Goals as goal

pub store-requires : goal.store-requires
store-requires c =
    let fits = c.ranges.offset in
    rw (c.add_offset-address.ensures, c.register.ensures)
    (simp to_z-of_z (store_number_ready c.args.words.now c.args.size c.args.dst c.args.offset
    c.args.imm c.requires))

pub returns : goal.returns
returns c =
    let fits = c.ranges.offset in
    let more = c.ranges.imm in
    store_number_agrees c.args.words.now c.args.size c.args.dst c.args.offset c.args.imm
    c.add_offset-address.result c.immediate.result c.store.result
    (simp to_z-of_z at rw c.register.ensures at c.add_offset-address.ensures)
    (simp to_z-of_z at c.immediate.ensures) c.store.ensures
    (store_number_ready c.args.words.now c.args.size c.args.dst c.args.offset c.args.imm c.requires)
