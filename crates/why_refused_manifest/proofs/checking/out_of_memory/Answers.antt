use Rattle.std.proofs.Common.{refl}
use Rattle.why_refused_manifest.proofs.Passing.{nothing_reported}
use Rattle.why_refused_manifest.proofs.checking.out_of_memory.Goals as goal

pub returns-clause-reported : goal.returns-clause-reported
returns-clause-reported c = λ g read unread.
    nothing_reported g _ refl c.new-3.ensures.items refl read unread
