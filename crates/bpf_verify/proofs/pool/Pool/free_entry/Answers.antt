use Rattle.std.proofs.Common.{◌≡◌, ◌++◌, ◌∷◌, [], Some, None, rules}
use Rattle.std.specs.Prelude.{slice_set}
use Rattle.bpf_verify.specs.Pool.{index_at}
use Rattle.bpf_verify.proofs.Pools.{given_up}
use Rattle.bpf_verify.proofs.WaitingThen.{changed_none, held_most}
use Rattle.bpf_verify.proofs.Lists.{index_within}
use Rattle.bpf_verify.proofs.pool.Pool.free_entry.Goals as goal
use Rattle.bpf_verify.proofs.pool.Pool.free_entry.Goals.{In_ok-push}

is : (c : In_ok-push) → index_at c.self.inside.places.items c.args.place ≡ Some c.in-Some-Some.index
is c = search rules

pub invariant_of-self-in-Some-get-2 : goal.invariant_of-self-in-Some-get-2
invariant_of-self-in-Some-get-2 c =
    let at = (goal.at.invariant_of-self-in-Some-get-2 c).In_ok-push in
    rw c.in_ok-push.ensures.items (given_up _ _ _ _ _ (is at) c.self.invariant)

pub returns-in_ok-push-clause-changed : goal.returns-in_ok-push-clause-changed
returns-in_ok-push-clause-changed c =
    let at = (goal.at.returns-in_ok-push-clause-changed c).In_ok-push in
    rw (← c.self.view_is) (changed_none c.self.inside.entries.items c.self.inside.places.items
    c.args.place (index_within _ _ _ (is at)))

pub returns-in_ok-push-clause-held : goal.returns-in_ok-push-clause-held
returns-in_ok-push-clause-held c =
    let at = (goal.at.returns-in_ok-push-clause-held c).In_ok-push in
    held_most c.self.inside.entries.items (slice_set c.self.inside.places.items c.args.place None)
    (c.self.inside.free.items ++ c.in-Some-Some.index ∷ [])
    (given_up _ _ _ _ _ (is at) c.self.invariant)

pub returns-clause-held : goal.returns-clause-held
returns-clause-held c = rw (← c.self.view_is) (held_most c.self.inside.entries.items
    c.self.inside.places.items c.self.inside.free.items c.self.invariant)

pub returns-2-clause-held : goal.returns-2-clause-held
returns-2-clause-held c = rw (← c.self.view_is) (held_most c.self.inside.entries.items
    c.self.inside.places.items c.self.inside.free.items c.self.invariant)
