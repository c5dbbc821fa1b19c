use Rattle.std.proofs.Common.{◌≡◌, None, rules, replicate, ℕ, Option, refl}
use Rattle.bpf_verify.proofs.Pools.{empty_pool}
use Rattle.bpf_verify.proofs.WaitingThen.{empty_map}
use Rattle.bpf_verify.proofs.pool.Pool.new.Goals as goal

pub invariant_of-result : goal.invariant_of-result
invariant_of-result c =
    let f : c.in_ok-places.places.items ≡ replicate {A = Option ℕ} c.args.count None =
    search rules in
    rw (f, c.new.ensures.items, c.new-2.ensures.items) (empty_pool c.args.count c.requires)

pub returns : goal.returns
returns c =
    let f : c.in_ok-places.places.items ≡ replicate {A = Option ℕ} c.args.count None =
    search rules in
    (rw f (empty_map c.new.result.items c.args.count), rw c.new.ensures.items refl)
