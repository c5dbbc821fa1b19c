use Rattle.std.specs.String.{string_bytes}
use Rattle.bpf_text.proofs.Reading.{listed_next, listed_whole}
use Rattle.bpf_text.proofs.Back.{listing_assembles}
use Rattle.bpf_text.proofs.lister.listing.Goals as goal

pub loop-slot-preserved : goal.loop-slot-preserved
loop-slot-preserved c =
    listed_next _ _ _ _ _ c.loop-slot.invariant c.loop-slot-test.true c.in_ok-slot.ensures.is

pub returns-clause-assembles : goal.returns-clause-assembles
returns-clause-assembles c = λ short.
    let bytes = c.args.bytes.now in
    let text = string_bytes c.loop-slot.out in
    listing_assembles bytes text
    (listed_whole bytes c.loop-slot.slot text c.loop-slot.invariant c.loop-slot-test.false) short
