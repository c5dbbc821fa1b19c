use Rattle.std.proofs.Common.{sym, arith}
use Rattle.http_front.proofs.Digits.{too_large}
use Rattle.http_front.proofs.length.number_of.Goals as goal

pub returns-then-n-gt-BODY_LIMIT : goal.returns-then-n-gt-BODY_LIMIT
returns-then-n-gt-BODY_LIMIT c =
    let past = c.loop-c in
    sym (too_large past.n past.c-index c.args.digits.now c.loop-c-test.true past.invariant.1
    (omega arith))
