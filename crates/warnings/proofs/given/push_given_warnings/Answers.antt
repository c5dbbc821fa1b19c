use Rattle.std.proofs.Common.{◌∙◌, ap, arith, Bool, List}
use Rattle.warnings.specs.Evaluation.{rule_of}
use Rattle.warnings.specs.Marks.{is_given}
use Rattle.warnings.proofs.Someone.{given_is}
use Rattle.warnings.proofs.Reported.{counted_on, next_release}
use Rattle.warnings.proofs.given.push_given_warnings.Goals as goal

pub loop-left-preserved : goal.loop-left-preserved
loop-left-preserved c =
    let r = rule_of c.args.evaluated.now in
    record {
      so_far = λ spots marked.
          next_release c.args.app c.loop-left.number r spots c.loop-left.left.now
          c.release-item.result c.is_given-given.result _ _ _ (omega arith) c.release-item.is
          (c.is_given-given.ensures
          ∙ ap (λ (e : List Bool). is_given e r.rule c.loop-left.number) c.as_slice.ensures.value
          ∙ given_is r spots _ _ c.loop-left.number c.loop-left.invariant.some marked)
          (c.loop-left.invariant.so_far spots marked) c.in_ok-push_given_warning.ensures;
      within = counted_on c.loop-left.number _ c.loop-left.left.now c.release-item.result
          (omega arith) c.release-item.is c.loop-left.invariant.within;
      some = omega arith;
    }
