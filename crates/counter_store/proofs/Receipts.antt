-- The places that a receipt covers are below the numbers of their cells.
use Rattle.std.proofs.Common.{◌≡◌, ℕ, ◌^◌, ◌<◌, List, ◌++◌, length, subst, sym, refl, arith}
use Rattle.std.specs.Prelude.{All, Contains, IsSome, IsTrue, Option, Some, nat_lt, ◌&&◌}
use Rattle.std.proofs.lemmas.Bool.{and_from, lt-ltb}
use Rattle.std.proofs.Math.Seq.{take-append_seam}
use Rattle.std.proofs.lemmas.List.Elements.{All-contains, All-take, All-weaker}
use mathlib.Core.List.{IsPrefix}
use Rattle.cells.specs.declared.array.CellArray.{CellArray}
use Rattle.cells.specs.declared.event.CellEvent.{CellEvent}
use Rattle.cells.specs.Apart.{QuotasAreWide}
use Rattle.cells.specs.Arrays.{HasCell, HasRanges}
use Rattle.cells.specs.Directory.{IsDirectory}
use Rattle.ceilings.specs.declared.rule.Raised.{Raised}
use Rattle.kept_cells.specs.Tickets.{is_ticket, IsCovered}
use Rattle.shared_cells.specs.Quotas.{adds_one}
use Rattle.counter_store.specs.Ledger.{IsBacked}
use Rattle.counter_store.specs.Quotas.{PlacesAreStored, IsStored, CoveredAreStored}

-- an addition of 1 to a quota's cell whose reply is below the quota is a ticket
ticket : QuotasAreWide → (arrays : List CellArray) (a : CellArray) (quota : ℕ) (e : CellEvent)
    → IsDirectory arrays → Contains arrays a → HasCell a e.cell → a.quota ≡ Some quota
    → IsTrue (adds_one e.op) → e.reply < quota → IsTrue (is_ticket e)
ticket wide arrays a quota e directory there has is adds less =
    let some = subst (λ (q : Option ℕ). IsSome q) (sym is) refl in
    let cell = wide arrays a e.cell directory there some has in
    let ranges = All-contains (λ (x : CellArray). HasRanges x.width x.length x.quota) arrays a
    directory.ranges there in
    let most = (ranges.quota_is quota is).to in
    and_from (nat_lt e.cell 4096 && adds_one e.op) (nat_lt e.reply (2 ^ 63))
    (and_from (nat_lt e.cell 4096) (adds_one e.op) (lt-ltb e.cell 4096 cell) adds)
    (lt-ltb e.reply (2 ^ 63) (omega (arith, less, most)))

-- what holds of all raises holds of those that a reader knows
known_backed : (arrays : List CellArray) (numbers : List ℕ) (known raised : List Raised)
    → IsPrefix known raised → All (IsBacked arrays numbers) raised
    → All (IsBacked arrays numbers) known
known_backed arrays numbers known raised prefix backed =
    subst (All (IsBacked arrays numbers)) (take-append_seam known prefix.0)
    (All-take (IsBacked arrays numbers) (length known) (known ++ prefix.0)
    (subst (All (IsBacked arrays numbers)) (sym prefix.1) backed))

pub covered_stored : PlacesAreStored → QuotasAreWide → (arrays : List CellArray)
    (numbers : List ℕ) (known raised : List Raised) → IsDirectory arrays
    → All (IsBacked arrays numbers) raised → IsPrefix known raised
    → CoveredAreStored arrays numbers known
covered_stored stored wide arrays numbers known raised directory backed prefix events =
    All-weaker (λ (e : CellEvent). IsTrue (is_ticket e) → IsCovered known e)
    (IsStored arrays numbers)
    (λ e covered a quota there has is adds less.
    stored arrays numbers known a e.cell quota e.reply directory there has is
    (known_backed arrays numbers known raised prefix backed) less
    (covered (ticket wide arrays a quota e directory there has is adds less)))
    events
