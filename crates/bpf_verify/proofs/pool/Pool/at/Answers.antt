use Rattle.std.proofs.Common.{◌≡◌, Some, refl, rules, sym, ◌∙◌, ap, arith}
use Rattle.std.proofs.lemmas.Option.{slice_get_read}
use Rattle.bpf_verify.specs.Pool.{index_at, waits_at, entry_in}
use Rattle.bpf_verify.proofs.Pools.{waits_is}
use Rattle.bpf_verify.proofs.pool.Pool.at.Goals as goal
use Rattle.bpf_verify.proofs.pool.Pool.at.Goals.{In-Some-Some}

is : (c : In-Some-Some)
    → index_at c.self.inside.places.items c.args.place ≡ Some c.in-Some-Some.index
is c = search rules

pub index-requires : goal.index-requires
index-requires c =
    let at = (goal.at.index-requires c).In-Some-Some in
    let lt = c.self.invariant.within c.args.place c.in-Some-Some.index (is at) in
    omega (arith, lt, c.self.inside.entries.ok)

pub returns-in-Some-Some : goal.returns-in-Some-Some
returns-in-Some-Some c =
    let at = (goal.at.returns-in-Some-Some c).In-Some-Some in
    let lt = c.self.invariant.within c.args.place c.in-Some-Some.index (is at) in
    sym (ap (λ w. waits_at w c.args.place) (sym c.self.view_is)
    ∙ waits_is c.self.inside.entries.items c.self.inside.places.items c.args.place
    ∙ ap (entry_in c.self.inside.entries.items) (is at) ∙ slice_get_read c.self.inside.entries.items
    _ c.in-Some-Some.index c.index.result.now refl lt c.index.ensures)
