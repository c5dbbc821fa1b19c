use Rattle.std.proofs.Common.{◌≡◌, rules}
use Rattle.block_order.proofs.Accepted.{ordered_itself}
use Rattle.block_order.proofs.order.copied.Goals as goal

pub returns-clause-program : goal.returns-clause-program
returns-clause-program c =
    let same : c.in_ok-copy.copy.items ≡ c.args.bytes.now = search rules in
    ordered_itself c.args.bytes.now c.in_ok-copy.copy.items c.args.flow.now
    c.invariant_law.ensures.flow
    c.invariant_law.ensures.forward c.invariant_law.ensures.read c.requires same
