use Rattle.std.proofs.Common.{arith}
use Rattle.bpf_text.proofs.Once.{decodes_once, one_listing}
use Rattle.bpf_text.proofs.laws.one_listing.Goals as goal
use borrow.Author.Count.{below_more}

pub loop-slot-init : goal.loop-slot-init
loop-slot-init c = λ k h. absurd (omega (arith, h))

pub loop-slot-preserved : goal.loop-slot-preserved
loop-slot-preserved c =
    below_more _ _ c.loop-slot.invariant (decodes_once c.args.bytes.now c.loop-slot.slot
    c.decode_at.result c.decode_at.ensures.only c.decode_at.ensures.fault_only)

pub returns : goal.returns
returns c = one_listing c.args.bytes.now (λ k h. c.loop-slot.invariant k (omega (arith, h)))
