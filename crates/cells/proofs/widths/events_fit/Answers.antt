use Rattle.cells.proofs.Fitting.{fitting}
use Rattle.cells.proofs.widths.events_fit.Goals as goal

pub returns : goal.returns
returns c = fitting
