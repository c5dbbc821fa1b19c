-- A quota's cell over several starts of a server, of which some crashed.
use Rattle.std.specs.Prelude.{◌≡◌, ℕ, ◌<◌, ◌≤◌, ◌==◌, nat_lt, Bool, ◌&&◌, IsTrue}
use Rattle.std.specs.Prelude.{List, [], ◌∷◌, ◌++◌, All, sum_by}
use Rattle.cells.specs.declared.event.CellEvent.{CellEvent}
use Rattle.shared_cells.specs.Quotas.{CountsExactly, adds_one, yes_count}

-- how a start ended
pub data End : Type 0 where
  -- all threads had ended, and the cell's last value was written
  Stopped : End
  -- killed, or without power, at any moment
  Crashed : End

-- What a start of a server did with a quota's cell: the values that it opened and left it with, and
-- its events on counters. Those that were sent are of runs whose reply went out, at least in part
pub record Start : Type 0 where
  pub opening : ℕ
  pub value : ℕ
  pub sent : List CellEvent
  pub unsent : List CellEvent
  pub end : End

-- the cell was counted, as the close of shared cells promises for the events of all passes
abbrev pub IsCounted : ℕ → Start → Type 0
IsCounted cell start =
    CountsExactly cell start.opening start.value (start.sent ++ start.unsent)

-- the event adds 1 to the cell, and takes a place
abbrev pub takes_place : ℕ → ℕ → CellEvent → Bool
takes_place cell quota e = e.cell == cell && adds_one e.op && nat_lt e.reply quota

-- With which value the next start may open the cell. After a stop this is the last value. After a
-- crash it isn't below the value that the start opened with, and above each place that was sent
abbrev pub MayLeave : ℕ → ℕ → Start → End → ℕ → Type 0
MayLeave cell quota start Stopped next = next ≡ start.value
MayLeave cell quota start Crashed next =
    (start.opening ≤ next)
    × All (λ e. IsTrue (takes_place cell quota e) → e.reply < next) start.sent

-- the starts, one after another: the first opens the cell with `opening`, and a start after the
-- last may open it with `next`
abbrev pub AreStarts : ℕ → ℕ → ℕ → List Start → ℕ → Type 0
AreStarts cell quota opening [] next = next ≡ opening
AreStarts cell quota opening (start ∷ starts) next = (middle : ℕ)
    × (start.opening ≡ opening) × IsCounted cell start
    × MayLeave cell quota start start.end middle × AreStarts cell quota middle starts next

-- how many places were sent in all
abbrev pub sent_in_all : ℕ → ℕ → List Start → ℕ
sent_in_all cell quota = sum_by (λ start. yes_count cell quota start.sent)

-- however the starts ended, no more are sent than the quota allows
abbrev pub StartsGrantNoMore : Type 0
StartsGrantNoMore = (cell quota next : ℕ) (starts : List Start)
    → AreStarts cell quota 0 starts next → sent_in_all cell quota starts ≤ quota
