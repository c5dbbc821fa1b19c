use Rattle.std.proofs.Common.{◌++◌, All, List, length}
use Rattle.std.specs.List.{AllZip}
use Rattle.diff_space.specs.Lines.{IsLine}
use Rattle.diff_space.specs.Scopes.{Scope}
use Rattle.diff_text.specs.Shown.{IsShownAs, ShownRow}
use Rattle.diff_text.proofs.showing.shown_rows.Given as goal

-- whatever shows the remaining rows shows all with what is done
abbrev pub invariant-loop-left : goal.invariant-loop-left
invariant-loop-left l =
    (x : Scope) → All (IsLine x) l.dimensions → (more : List ShownRow)
    → AllZip (IsShownAs x l.dimensions l.from) l.left more
    → AllZip (IsShownAs x l.dimensions l.from) l.rows (l.shown.items ++ more)

abbrev pub decreases-loop-left : goal.decreases-loop-left
decreases-loop-left l = length l.left
