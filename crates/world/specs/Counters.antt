-- A step of the machine on shared counters: its access, how it continues with the reply, and the
-- counters afterwards.
use Rattle.std.specs.Prelude.{ℕ, List, [], ◌∷◌, slice_index, slice_set}
use Rattle.bpf_semantics.specs.Outcome.{Outcome, Going, Operates, Done, Trap}
use Rattle.cells.specs.declared.event.CellEvent.{CellEvent}
use Rattle.cells.specs.Events.{limit, after, reply_of}

-- the event of a step: its access to a counter, with the reply that the counter's value gives;
-- other steps have none
abbrev pub accesses : List ℕ → Outcome → List CellEvent
accesses cells (Operates cell op next) =
    record { cell = cell; op = op; reply = reply_of (slice_index cells cell) op } ∷ []
accesses cells (Going t) = []
accesses cells (Done choice) = []
accesses cells Trap = []

-- the outcome of the step when its access got that reply
abbrev pub answered : List ℕ → Outcome → Outcome
answered cells (Operates cell op next) = Going (next (reply_of (slice_index cells cell) op))
answered cells (Going t) = Going t
answered cells (Done choice) = Done choice
answered cells Trap = Trap

-- the counters after the step
abbrev pub cells_after : List ℕ → Outcome → List ℕ
cells_after cells (Operates cell op next) =
    slice_set cells cell (after (limit cell) (slice_index cells cell) op)
cells_after cells (Going t) = cells
cells_after cells (Done choice) = cells
cells_after cells Trap = cells
