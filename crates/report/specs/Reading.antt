-- What is counted in bytes that are read in pieces.
use Rattle.std.specs.Prelude.{◌≡◌, List, [], ◌∷◌, ℕ, ◌++◌, Bool, Option, IfSome}
use Rattle.report.specs.Counts.{AddsLine, Counts}
use Rattle.report.specs.Lines.{lines_after, lines_in}
use Rattle.report.specs.Windows.{event_in, event_in_window}
use Rattle.report.specs.declared.counting.Report.{Report}
use Rattle.report.specs.declared.window.Window.{Window}

-- adds each line to whatever was counted, one after another
unfoldable pub AddsLines : Window → (lines : List (List ℕ)) → (old new : Report) → Type 0
AddsLines window [] old new = new ≡ old
AddsLines window (line ∷ lines) old new =
    (next : Report) × AddsLine (event_in line) (event_in_window window line) old next
    × AddsLines window lines next new

-- adds these lines, also to all lines counted before, with a chart or without
pub record CountsLines (window : Window) (lines : List (List ℕ)) (old new : Report) : Type 0 where
  pub adds : AddsLines window lines old new
  pub extends : (drawn : Bool) (before : List (List ℕ))
      → Counts window before drawn old → Counts window (before ++ lines) drawn new

-- After a block: for any bytes that follow it, counting their lines completes the count of both.
-- `begun` and `begun_then` are the unfinished line before and after the block.
pub record ReadsBlock (window : Window) (block : List ℕ) (begun : List ℕ) (old : Report)
    (begun_then : List ℕ) (new : Report) : Type 0 where
  pub extends : (bytes : List ℕ) (last : Report)
      → CountsLines window (lines_after begun_then bytes) new last
      → CountsLines window (lines_after begun (block ++ bytes)) old last

-- The lines of a log are counted. If the reader's bytes are known, these are the log; nothing is
-- known about a device, so they are some bytes.
pub record ReadsLog (window : Window) (known : Option (List ℕ)) (old new : Report) : Type 0 where
  pub bytes : List ℕ
  pub given : IfSome known (λ all. bytes ≡ all)
  pub counted : CountsLines window (lines_in bytes) old new
