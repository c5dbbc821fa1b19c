use Rattle.declarations.proofs.Orders.{as_declared}
use Rattle.declarations.proofs.declare.declare_next.Goals as goal

pub returns-in-Ok-clause-declared : goal.returns-in-Ok-clause-declared
returns-in-Ok-clause-declared c = (
  c.in_ok-number.number,
  as_declared c.name.ensures c.width.ensures c.length.ensures c.quota.ensures
      c.in_ok-number.ensures.declares,
  rw c.reserve.ensures.items at c.in-Ok.ensures.items,
)
