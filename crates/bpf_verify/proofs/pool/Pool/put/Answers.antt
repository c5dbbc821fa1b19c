use Rattle.std.proofs.Common.{◌≡◌, ◌∙◌, ◌<◌, ◌++◌, ◌∷◌, [], Some, None}
use Rattle.std.proofs.Common.{length, ap, sym, arith, rules}
use Rattle.std.specs.Prelude.{slice_set}
use Rattle.std.proofs.lemmas.List.{length-set, length-map, append-nil}
use Rattle.bpf_verify.specs.Pool.{waits_at, index_at, entry_in, IsPool}
use Rattle.bpf_verify.proofs.Pools.{taken, none_index, grown}
use Rattle.bpf_verify.proofs.WaitingThen.{changed_in, changed_end}
use Rattle.bpf_verify.proofs.WaitingThen.{most_kept, most_grown, all_within}
use Rattle.bpf_verify.proofs.Lists.{get-end, length-append-one}
use Rattle.bpf_verify.proofs.pool.Pool.put.Goals as goal
use Rattle.bpf_verify.proofs.pool.Pool.put.Goals.{After-pop, After-len-index, In-Some, In-None}

none : (c : After-pop) → index_at c.self.inside.places.items c.args.place ≡ None
none c = none_index c.self.inside.entries.items c.self.inside.places.items c.args.place
    (λ i e. c.self.invariant.within c.args.place i e)
    (ap (λ w. waits_at w c.args.place) c.self.view_is ∙ c.requires.none)

within : (c : After-pop) → c.args.place < length c.self.inside.places.items
within c =
    let same = ap (λ w. length w.entries) c.self.view_is in
    let kept = length-map c.self.inside.places.items (entry_in c.self.inside.entries.items) in
    omega (arith, same, kept, c.requires.within)

-- an index was free
was : (c : In-Some) → IsPool (length c.self.inside.entries.items) c.self.inside.places.items
    (c.pop.new.self.items ++ c.in-Some.index ∷ [])
was c = rw (← c.in-Some.ensures.items) c.self.invariant

pub invariant_of-self : goal.invariant_of-self
invariant_of-self c =
    let at = (goal.at.invariant_of-self c).After-pop in
    let some = (goal.at.invariant_of-self c).In-Some in
    let len = length-set c.self.inside.entries.items c.in-Some.index c.copy_from.new.self in
    rw len (taken (length c.self.inside.entries.items) c.self.inside.places.items
    c.pop.new.self.items c.args.place c.in-Some.index (within at) (none at) (was some))

pub returns-in-Some-clause-changed : goal.returns-in-Some-clause-changed
returns-in-Some-clause-changed c =
    let at = (goal.at.returns-in-Some-clause-changed c).After-pop in
    let some = (goal.at.returns-in-Some-clause-changed c).In-Some in
    let pool = was some in
    let end = get-end c.pop.new.self.items c.in-Some.index in
    rw (← c.self.view_is, c.copy_from.ensures)
    (changed_in c.self.inside.entries.items c.self.inside.places.items c.args.place
    c.in-Some.index c.args.entry.now (within at)
    (pool.free_within (length c.pop.new.self.items) c.in-Some.index end)
    (λ n ne e. pool.apart n (length c.pop.new.self.items) c.in-Some.index e end))

pub returns-in-Some-clause-most : goal.returns-in-Some-clause-most
returns-in-Some-clause-most c =
    let at = (goal.at.returns-in-Some-clause-most c).After-pop in
    let some = (goal.at.returns-in-Some-clause-most c).In-Some in
    let len = length-set c.self.inside.entries.items c.in-Some.index c.copy_from.new.self in
    let pool = taken (length c.self.inside.entries.items) c.self.inside.places.items
    c.pop.new.self.items c.args.place c.in-Some.index (within at) (none at) (was some) in
    most_kept c.args.self.now.most
    (slice_set c.self.inside.entries.items c.in-Some.index c.copy_from.new.self)
    (slice_set c.self.inside.places.items c.args.place (Some c.in-Some.index)) c.pop.new.self.items
    (rw len pool) (sym (ap (λ w. w.most) c.self.view_is) ∙ sym len)

-- no index was free
no_more : (c : In-None) → c.pop.new.self.items ≡ []
no_more c = search rules

was_full : (c : In-None) → IsPool (length c.self.inside.entries.items) c.self.inside.places.items []
was_full c =
    let free : c.self.inside.free.items ≡ [] =
    c.in-None.ensures.items ∙ append-nil c.pop.new.self.items ∙ no_more c in
    rw (← free) c.self.invariant

at_end : (c : After-len-index) → c.len-index.result ≡ length c.self.inside.entries.items
at_end c = omega (arith, c.len-index.ensures, c.self.inside.entries.ok)

pub overflow_cast-index-in-None : goal.overflow_cast-index-in-None
overflow_cast-index-in-None c =
    let at = (goal.at.overflow_cast-index-in-None c).After-pop in
    let full = was_full (goal.at.overflow_cast-index-in-None c).In-None in
    let short = all_within (length c.self.inside.entries.items) c.self.inside.places.items
    c.args.place (within at) (none at) full in
    omega (arith, short, at_end c)

pub invariant_of-self-in-None : goal.invariant_of-self-in-None
invariant_of-self-in-None c =
    let at = (goal.at.invariant_of-self-in-None c).After-pop in
    let last = (goal.at.invariant_of-self-in-None c).In-None in
    let end = at_end (goal.at.invariant_of-self-in-None c).After-len-index in
    rw (c.in_ok-push-in-None.ensures.items, length-append-one, end, no_more last)
    (grown (length c.self.inside.entries.items) c.self.inside.places.items c.args.place (within at)
    (none at) (was_full last))

pub returns-in_ok-push-in-None-clause-changed : goal.returns-in_ok-push-in-None-clause-changed
returns-in_ok-push-in-None-clause-changed c =
    let at = (goal.at.returns-in_ok-push-in-None-clause-changed c).After-pop in
    let end = at_end (goal.at.returns-in_ok-push-in-None-clause-changed c).After-len-index in
    rw (← c.self.view_is, c.in_ok-push-in-None.ensures.items, c.copy.ensures, end)
    (changed_end c.self.inside.entries.items c.self.inside.places.items c.args.place
    c.args.entry.now (within at) (λ n i e. c.self.invariant.within n i e))

pub returns-in_ok-push-in-None-clause-most : goal.returns-in_ok-push-in-None-clause-most
returns-in_ok-push-in-None-clause-most c =
    let at = (goal.at.returns-in_ok-push-in-None-clause-most c).After-pop in
    let full = was_full (goal.at.returns-in_ok-push-in-None-clause-most c).In-None in
    let end = at_end (goal.at.returns-in_ok-push-in-None-clause-most c).After-len-index in
    let len = length-append-one c.self.inside.entries.items c.args.entry.now in
    let pool = grown (length c.self.inside.entries.items) c.self.inside.places.items c.args.place
    (within at) (none at) full in
    rw (← c.self.view_is, c.in_ok-push-in-None.ensures.items, c.copy.ensures, end)
    (most_grown (length c.self.inside.entries.items)
    (c.self.inside.entries.items ++ c.args.entry.now ∷ []) _ (rw len pool) len)
