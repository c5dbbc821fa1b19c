use Rattle.std.proofs.Common.{◌∙◌}
use Rattle.bounded_files.proofs.Pieces.{goes_on_by, stays_by}
use Rattle.bounded_files.proofs.utf8_text.go_on.Goals as goal

pub returns-in-None : goal.returns-in-None
returns-in-None c = λ bytes was. stays_by c.args.left bytes c.args.piece.now c.in-None.is was

pub returns-in_ok-extend_from_slice-in-Some : goal.returns-in_ok-extend_from_slice-in-Some
returns-in_ok-extend_from_slice-in-Some c =
    goes_on_by c.leave_open.result c.args.left c.in-Some.open c.as_slice.result.now
    c.args.piece.now c.in-Some.is
    (c.as_slice.ensures.value ∙ c.in_ok-extend_from_slice-in-Some.ensures.items)
    c.leave_open.ensures
