use Rattle.std.proofs.Common.{subst}
use mathlib.Core.List.{IsPrefix}
use Rattle.cells.specs.Directory.{IsDirectory}
use Rattle.ceilings.specs.Seats.{SeatView}
use Rattle.counter_store.proofs.Receipts.{covered_stored}
use Rattle.counter_store.proofs.ledger.Ledger.receipt_law.Goals as goal

pub returns-clause-stored : goal.returns-clause-stored
returns-clause-stored c =
    covered_stored c.places_are_stored.ensures c.arrays_lie_apart.ensures.wide
    c.self.inside.directory c.self.inside.numbers.items c.args.receipt.raised
    c.self.inside.writer.raised
    (subst IsDirectory c.arrays-arrays.ensures.arrays c.arrays-arrays.ensures.directory)
    c.self.invariant.backed
    (subst (λ (w : SeatView). IsPrefix c.args.receipt.raised w.raised) c.seen.ensures.same
    c.seen.ensures.seen)
