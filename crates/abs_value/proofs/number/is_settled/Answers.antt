use Rattle.std.proofs.Common.{sym, ◌∙◌}
use Rattle.std.proofs.Math.Facts.{Fits-xor, Fits-lt-pow}
use Rattle.abs_value.specs.Intervals.{interval}
use Rattle.abs_value.specs.Known.{known}
use Rattle.abs_value.proofs.Settled.{settled, exact_settled}
use Rattle.abs_value.proofs.number.is_settled.Goals as goal

pub returns-then-is_exact : goal.returns-then-is_exact
returns-then-is_exact c _ =
    exact_settled (interval c.args.lo c.args.hi) (known c.args.has c.args.may_have)
    (Fits-lt-pow (Fits-xor c.ranges.has c.ranges.may_have))
    (Fits-lt-pow (Fits-xor c.ranges.lo c.ranges.hi)) (sym c.is_exact.ensures ∙ c.if-is_exact.true)

pub returns : goal.returns
returns c less =
    settled (interval c.args.lo c.args.hi) (known c.args.has c.args.may_have)
    (Fits-lt-pow (Fits-xor c.ranges.has c.ranges.may_have))
    (Fits-lt-pow (Fits-xor c.ranges.lo c.ranges.hi))
    c.if-has-lo.false c.if-hi-may_have.false less
