use Rattle.std.proofs.Common.{◌≡◌, ◌∙◌, Some, length, ap, sym, arith}
use Rattle.std.specs.Prelude.{slice_set}
use Rattle.std.proofs.lemmas.List.{length-set, length-map}
use Rattle.bpf_verify.specs.Pool.{waits_at, index_at, entry_in}
use Rattle.bpf_verify.proofs.Pools.{waits_is}
use Rattle.bpf_verify.proofs.WaitingThen.{changed_entry, most_kept}
use Rattle.bpf_verify.proofs.Lists.{get_at, index_is}
use Rattle.bpf_verify.proofs.pool.Pool.add.Goals as goal
use Rattle.bpf_verify.proofs.pool.Pool.add.Goals.{In-Some}

is : (c : In-Some) → index_at c.self.inside.places.items c.args.place ≡ Some c.in-Some.index
is c =
    let same = ap (λ w. length w.entries) c.self.view_is in
    let kept = length-map c.self.inside.places.items (entry_in c.self.inside.entries.items) in
    index_is c.self.inside.places.items c.args.place c.index.result.now
    (omega (arith, same, kept, c.requires)) c.index.ensures ∙ c.in-Some.is

pub index_mut-requires : goal.index_mut-requires
index_mut-requires c =
    let at = (goal.at.index_mut-requires c).In-Some in
    let lt = c.self.invariant.within c.args.place c.in-Some.index (is at) in
    omega (arith, lt, c.self.inside.entries.ok)

pub returns-in-Some-clause-changed : goal.returns-in-Some-clause-changed
returns-in-Some-clause-changed c =
    let at = (goal.at.returns-in-Some-clause-changed c).In-Some in
    let lt = c.self.invariant.within c.args.place c.in-Some.index (is at) in
    let found = ap (λ w. waits_at w c.args.place) (sym c.self.view_is)
    ∙ waits_is c.self.inside.entries.items c.self.inside.places.items c.args.place
    ∙ ap (entry_in c.self.inside.entries.items) (is at) ∙ get_at c.self.inside.entries.items
    c.in-Some.index c.index_mut.result.now lt c.index_mut.ensures.value in
    rw (found, ← c.self.view_is, c.join_in.ensures) (changed_entry c.self.inside.entries.items
    c.self.inside.places.items c.args.place c.in-Some.index _ lt (is at)
    (λ n e. c.self.invariant.once n c.args.place c.in-Some.index e (is at)))

pub returns-in-Some-clause-most : goal.returns-in-Some-clause-most
returns-in-Some-clause-most c =
    let len = length-set c.self.inside.entries.items c.in-Some.index c.join_in.new.self in
    most_kept c.args.self.now.most
    (slice_set c.self.inside.entries.items c.in-Some.index c.join_in.new.self)
    c.self.inside.places.items c.self.inside.free.items (rw len c.self.invariant)
    (sym (ap (λ w. w.most) c.self.view_is) ∙ sym len)
