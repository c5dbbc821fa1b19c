use Rattle.ceilings.specs.Seats.{IsAt}
use Rattle.kept_cells.proofs.store_cover.StoreCover.wait.Given as goal

abbrev pub invariant-loop-look : goal.invariant-loop-look
invariant-loop-look g l = IsAt l.kept l.reader
