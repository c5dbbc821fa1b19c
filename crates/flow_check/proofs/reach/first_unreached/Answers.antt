use Rattle.std.proofs.Common.{true, false, sym, subst, ap, ◌∙◌}
use Rattle.std.specs.Prelude.{replicate, slice_set}
use Rattle.flow_check.specs.Laid.{laid}
use Rattle.flow_check.specs.Sweep.{IsMarkedTo}
use Rattle.flow_check.proofs.Marks.{swept_start}
use Rattle.flow_check.proofs.reach.first_unreached.Goals as goal

pub sweep-requires-clause-start : goal.sweep-requires-clause-start
sweep-requires-clause-start c =
    subst (IsMarkedTo (laid c.args.code.now) 0)
    (sym (c.deref_mut.ensures.value ∙ c.in_ok-marks.ensures
    ∙ ap (λ n. slice_set (replicate n false) 0 true) c.slot_count.ensures))
    (swept_start (laid c.args.code.now) c.requires.some)
