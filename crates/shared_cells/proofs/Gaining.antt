-- Passes that gain one event after the other.
use Rattle.std.proofs.Common.{List, [], ◌∷◌, ◌++◌, sym, ap, ◌∙◌, append_assoc, append-nil}
use Rattle.cells.specs.declared.event.CellEvent.{CellEvent}
use Rattle.shared_cells.specs.Passes.{PassView, PassesGainLists}

abbrev with_events : PassView → List CellEvent → PassView
with_events p made = record { table = p.table; events = made }

pub gained_lists : PassesGainLists
gained_lists old [] new same = same ∙ ap (with_events old) (sym (append-nil old.events))
gained_lists old (e ∷ made) new h =
    gained_lists h.0 made new h.2
    ∙ ap (λ (p : PassView). with_events p (p.events ++ made)) h.1
    ∙ ap (with_events old) (append_assoc old.events (e ∷ []) made)
