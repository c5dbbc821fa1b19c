use Rattle.std.proofs.Common.{sym, subst}
use Rattle.std.proofs.lemmas.Result.{IfOk-weaker}
use Rattle.cells.specs.Events.{AreZeros}
use Rattle.shared_cells.proofs.Zeros.{zeros_are_cells}
use Rattle.shared_cells.proofs.shared.SharedCells.new.Goals as goal

pub opened-requires-clause-cells : goal.opened-requires-clause-cells
opened-requires-clause-cells c = zeros_are_cells c.in_ok-values.values.items c.in_ok-values.ensures

pub returns-clause-opening : goal.returns-clause-opening
returns-clause-opening c =
    IfOk-weaker c.opened.result _ _
    (λ made same. subst (AreZeros 8192) (sym same) c.in_ok-values.ensures) c.opened.ensures.opening
