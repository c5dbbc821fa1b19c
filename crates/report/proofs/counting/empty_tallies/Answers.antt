use Rattle.std.proofs.Common.{arith}
use Rattle.report.proofs.Counted.{tables_made}
use Rattle.report.proofs.counting.empty_tallies.Goals as goal

pub returns : goal.returns
returns c =
    tables_made c.loop-left.left.now c.args.questions.now c.loop-left.tallies.items
    (omega (arith, c.in_default.len_below)) c.loop-left.invariant
