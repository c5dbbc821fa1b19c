use Rattle.std.proofs.Common.{refl, arith}
use Rattle.report.specs.Responses.{names_of_statuses}
use Rattle.report.proofs.Loops.{all_noted, first_or, more_noted, none_left}
use Rattle.report.proofs.responses.note_each.Goals as goal

pub loop-left-preserved : goal.loop-left-preserved
loop-left-preserved c = λ last rest.
    more_noted names_of_statuses _ _ _ _ c.loop-left.invariant _ _ _ _ last
    (first_or (0, 0) c.loop-left.left.now (omega (arith, c.in-len1-up.len_at_least))) refl
    c.in_ok-note_status.ensures rest

pub returns : goal.returns
returns c =
    all_noted names_of_statuses _ _ _ _ c.loop-left.invariant
    (none_left c.loop-left.left.now (omega arith)) refl
