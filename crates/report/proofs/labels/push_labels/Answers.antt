use Rattle.report.proofs.Read.{is_zero}
use Rattle.report.proofs.Written.{last_label, not_zero, one_label}
use Rattle.report.proofs.labels.push_labels.Goals as goal

pub loop-left-preserved : goal.loop-left-preserved
loop-left-preserved c = (
  c.rest-texts.utf8,
  one_label (λ c. c.now) _ c.loop-left.texts.now _ c.loop-left.left.now _ _ _ _ _
      c.in-len1-up.len_at_least (not_zero _ _ c.is_empty.ensures c.if-is_empty.false)
      c.first.ensures c.rest-texts.ensures c.in_ok-push_label-2.ensures
      c.in_ok-push_str.ensures.bytes c.loop-left.invariant.1,
)

pub returns-then-is_empty : goal.returns-then-is_empty
returns-then-is_empty c =
    last_label (λ c. c.now) _ c.loop-left.texts.now _ c.loop-left.left.now _ _
    c.in-len1-up.len_at_least (is_zero _ _ c.is_empty.ensures c.if-is_empty.true)
    c.in_ok-push_label.ensures c.loop-left.invariant.1
