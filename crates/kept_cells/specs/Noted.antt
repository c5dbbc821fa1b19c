-- What a pass has noted of its tickets since the last mark.
use Rattle.std.specs.Prelude.{◌≡◌, ℕ, ◌+◌, ◌-◌, ◌^◌, ◌<◌, ◌≤◌, min, IsTrue}
use Rattle.std.specs.Prelude.{List, All, length, drop, slice_index}
use Rattle.cells.specs.declared.event.CellEvent.{CellEvent}
use Rattle.ceilings.specs.declared.rule.Raised.{Raised}
use Rattle.ceilings.specs.Rule.{raised_in}
use Rattle.kept_cells.specs.Tickets.{is_ticket, IsPast}

-- for each cell a number above its tickets since the last mark, or 0, and if there are tickets one
-- that is at most each of them; and how many events the pass had at that mark, and has now
pub record NotesView : Type 0 where
  pub above : List ℕ
  pub least : List ℕ
  pub from : ℕ
  pub count : ℕ

-- there are tickets only of cells from `low` on, below `high`
pub record AreNotes (above : List ℕ) (low high : ℕ) : Type 0 where
  pub cells : length above ≡ 4096
  pub most : high ≤ 4096
  pub below_low : (cell : ℕ) → cell < low → slice_index above cell ≡ 0
  pub from_high : (cell : ℕ) → high ≤ cell → slice_index above cell ≡ 0

abbrev pub IsNoted : NotesView → CellEvent → Type 0
IsNoted n e = IsTrue (is_ticket e)
    → (e.reply < slice_index n.above e.cell) × (slice_index n.least e.cell ≤ e.reply)

-- each ticket since the mark is noted. Counts stay at 2^64 - 1
pub record Notes (n : NotesView) (events : List CellEvent) : Type 0 where
  pub count : n.count ≡ min (length events) (2 ^ 64 - 1)
  pub from : n.from ≤ n.count
  pub noted : n.from < 2 ^ 64 - 1 → All (IsNoted n) (drop n.from events)

-- no number above tickets is lower, and none below them is higher
pub record KeepsNotes (old new : NotesView) : Type 0 where
  pub above : (cell : ℕ) → slice_index old.above cell ≤ slice_index new.above cell
  pub least : (cell : ℕ) → 0 < slice_index old.above cell
      → slice_index new.least cell ≤ slice_index old.least cell
  pub from : new.from ≡ old.from

-- one more event is noted
pub record NotesOneMore (old : NotesView) (e : CellEvent) (new : NotesView) : Type 0 where
  pub keeps : KeepsNotes old new
  pub noted : IsNoted new e
  pub count : new.count ≡ min (old.count + 1) (2 ^ 64 - 1)

-- a ceiling that is below the number above the cell's tickets: the tickets are past its limit
abbrev pub IsReached : List Raised → (cell above least : ℕ) → Type 0
IsReached raised cell above least = raised_in cell raised < above → IsPast raised cell least

abbrev pub AreReached : (above least : List ℕ) → List Raised → Type 0
AreReached above least raised =
    (cell : ℕ) → IsReached raised cell (slice_index above cell) (slice_index least cell)
