use Rattle.std.proofs.Common.{rules}
use Rattle.bounded_files.proofs.SoFar.{one_more}
use Rattle.bounded_files.proofs.kept_bytes.SoFar.and.Goals as goal

pub returns : goal.returns
returns c = λ bytes was.
    one_more c.args.kept bytes c.args.piece.now c.args.self _ was
    c.in_ok-push_up_to.ensures (search rules) (c.in_ok-left.ensures bytes)
