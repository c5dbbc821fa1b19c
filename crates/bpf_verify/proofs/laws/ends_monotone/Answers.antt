use Rattle.bpf_verify.proofs.Order.{ends_in_order}
use Rattle.bpf_verify.proofs.laws.ends_monotone.Goals as goal

pub returns : goal.returns
returns c = ends_in_order c.states_monotone.ensures.opening
    c.states_monotone.ensures.joins
    c.edges_monotone.ensures.jumping c.edges_monotone.ensures.going_on
