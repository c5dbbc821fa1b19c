use Rattle.bounded_files.proofs.Pieces.{closed_by, never_by}
use Rattle.bounded_files.proofs.utf8_text.is_closed.Goals as goal

pub returns-in-Some : goal.returns-in-Some
returns-in-Some c = λ bytes was.
    closed_by bytes c.as_slice.result.now c.args.left.now c.in-Some.open c.is_empty.result
    c.in-Some.is c.as_slice.ensures.value c.is_empty.ensures was

pub returns-in-None : goal.returns-in-None
returns-in-None c = λ bytes was. never_by bytes c.args.left.now c.in-None.is was
