use Rattle.std.proofs.Common.{arith, ◌∙◌}
use Rattle.bounded_files.proofs.SoFar.{take_all}
use Rattle.bounded_files.proofs.kept_bytes.SoFar.into_kept.Goals as goal

pub returns-then-count-kept : goal.returns-then-count-kept
returns-then-count-kept c = λ bytes k. (
  k.beginning ∙ take_all c.args.kept bytes (omega (arith, k.count, c.if-count-kept.true)),
  omega (arith, k.count, c.if-count-kept.true),
)

pub returns : goal.returns
returns c = λ bytes k. (
  k.beginning,
  omega (arith, k.count, c.if-count-kept.false),
  k.count,
  c.is_closed.ensures bytes k.text,
)
