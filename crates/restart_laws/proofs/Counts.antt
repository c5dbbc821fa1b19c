-- Counts over lists of events.
use Rattle.std.proofs.Common.{◌≡◌, ℕ, ◌+◌, Bool, List, ◌∷◌, ◌++◌}
use Rattle.std.specs.Prelude.{◌==◌, ◌&&◌, if◌then◌else◌}
use Rattle.std.proofs.lemmas.List.Sums.{sum_by-cons, sum_by-append}
use Rattle.cells.specs.declared.event.CellEvent.{CellEvent}
use Rattle.shared_cells.specs.Quotas.{adds_one, add_count, yes_count}
use Rattle.restart_laws.specs.Starts.{takes_place}

abbrev pub one_if : Bool → ℕ
one_if test = if test then 1 else 0

pub yes-cons : (c q : ℕ) (e : CellEvent) (es : List CellEvent)
    → yes_count c q (e ∷ es) ≡ one_if (takes_place c q e) + yes_count c q es
yes-cons c q e es = sum_by-cons (λ (x : CellEvent). one_if (takes_place c q x)) e es

pub yes-append : (c q : ℕ) (es more : List CellEvent)
    → yes_count c q (es ++ more) ≡ yes_count c q es + yes_count c q more
yes-append c q es more = sum_by-append (λ (x : CellEvent). one_if (takes_place c q x)) es more

pub adds-append : (c : ℕ) (es more : List CellEvent)
    → add_count c (es ++ more) ≡ add_count c es + add_count c more
adds-append c es more =
    sum_by-append (λ (x : CellEvent). one_if (x.cell == c && adds_one x.op)) es more
