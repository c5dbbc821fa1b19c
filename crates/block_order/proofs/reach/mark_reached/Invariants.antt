use Rattle.block_order.specs.Reach.{IsReachedSo, unmarked_count}
use Rattle.block_order.proofs.reach.mark_reached.Given as goal

abbrev pub invariant-loop-place : goal.invariant-loop-place
invariant-loop-place l = IsReachedSo l.code l.start l.marks

abbrev pub decreases-loop-place : goal.decreases-loop-place
decreases-loop-place l = unmarked_count l.marks
