use Rattle.std.proofs.Common.{◌*◌, ◌-◌, length}
use Rattle.std.specs.String.{string_bytes}
use Rattle.bpf_text.proofs.Reading.{HasListed}
use Rattle.bpf_text.proofs.lister.listing.Given as goal

abbrev pub invariant-loop-slot : goal.invariant-loop-slot
invariant-loop-slot l = HasListed l.bytes l.slot (string_bytes l.out)

abbrev pub decreases-loop-slot : goal.decreases-loop-slot
decreases-loop-slot l = length l.initial.bytes - 8 * l.slot
