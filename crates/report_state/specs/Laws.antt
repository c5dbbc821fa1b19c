-- What a state promises to the next report.
use Rattle.std.specs.Prelude.{ℕ, List, ◌++◌, Bool}
use Rattle.report.specs.Counts.{Counts}
use Rattle.report.specs.Reading.{CountsLines}
use Rattle.report.specs.declared.counting.Report.{Report}
use Rattle.report.specs.declared.window.Window.{Window}
use Rattle.report_state.specs.States.{SpellsCounts}

-- A report counts the lines of `old` and is saved. If what is read of it continues with the
-- lines of `new`, it counts those of `old` and `new`.
abbrev pub CountsContinue : Type 0
CountsContinue =
    (bytes : List ℕ) (saved begun last : Report)
    → SpellsCounts bytes saved → SpellsCounts bytes begun
    → (window : Window) (old new : List (List ℕ)) (drawn : Bool)
    → Counts window old drawn saved → CountsLines window new begun last
    → Counts window (old ++ new) drawn last
