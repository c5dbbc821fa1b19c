use Rattle.std.proofs.Common.{arith, sym, ◌∙◌}
use Rattle.warnings.proofs.Someone.{none_given}
use Rattle.warnings.proofs.Reported.{none_left}
use Rattle.warnings.proofs.marks.is_given.Goals as goal

pub returns : goal.returns
returns c =
    sym (none_given c.loop-left.marks.now c.loop-left.left.now c.args.release
    (none_left c.loop-left.left.now (omega arith)))
    ∙ c.loop-left.invariant
