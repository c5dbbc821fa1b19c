use Rattle.report.proofs.Written.{and_then}
use Rattle.report.proofs.exposition.push_numbers.Goals as goal

pub returns : goal.returns
returns c =
    and_then _ _ _ _ _ (and_then _ _ _ _ _ (and_then _ _ _ _ _ c.in_ok-push_number.ensures
    c.in_ok-push_number-2.ensures)
    c.in_ok-push_number-3.ensures)
    c.in_ok-push_number-4.ensures
