use Rattle.block_order.proofs.Acyclic.{no_cycle}
use Rattle.block_order.proofs.laws.order_has_no_cycle.Goals as goal

pub returns : goal.returns
returns c = λ bytes ordered. no_cycle bytes ordered
