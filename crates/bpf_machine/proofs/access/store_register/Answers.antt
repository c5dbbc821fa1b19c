use Rattle.std.proofs.lemmas.Int.{to_z-of_z}
use Rattle.bpf_machine.proofs.Stores.{store_ready, store_agrees}
use Rattle.bpf_machine.proofs.access.store_register.Goals as goal

pub store-requires : goal.store-requires
store-requires c =
    let fits = c.ranges.offset in
    rw (c.add_offset-address.ensures, c.register.ensures) (simp to_z-of_z
    (store_ready c.args.words.now c.args.size c.args.dst c.args.src c.args.offset c.requires))

pub returns : goal.returns
returns c =
    let fits = c.ranges.offset in
    store_agrees c.args.words.now c.args.size c.args.dst c.args.src c.args.offset
    c.add_offset-address.result c.register-2.result c.store.result
    (simp to_z-of_z at rw c.register.ensures at c.add_offset-address.ensures) c.register-2.ensures
    c.store.ensures
    (store_ready c.args.words.now c.args.size c.args.dst c.args.src c.args.offset c.requires)
