use Rattle.std.proofs.Common.{◌∙◌}
use Rattle.warnings.specs.Evaluation.{rule_of}
use Rattle.warnings.proofs.Crowds.{none_marked}
use Rattle.warnings.proofs.marks.marks_of.Goals as goal

pub mark_spots-requires : goal.mark_spots-requires
mark_spots-requires c =
    none_marked (rule_of c.args.evaluated.now) _ _
    (c.as_mut_slice.ensures.value ∙ c.in_ok-reached.ensures)
    (c.as_mut_slice-2.ensures.value ∙ c.in_ok-ends.ensures)
