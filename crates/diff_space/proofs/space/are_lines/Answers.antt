use Rattle.std.proofs.Common.{◌≡◌, arith, rules, true}
use Rattle.diff_space.specs.Lines.{IsLine}
use Rattle.diff_space.specs.Scopes.{scope_of}
use Rattle.diff_space.proofs.Planned.{all_before}
use Rattle.diff_space.proofs.space.are_lines.Goals as goal

pub loop-left-preserved : goal.loop-left-preserved
loop-left-preserved c = λ rest.
    let holds : c.is_line.result ≡ true = search rules in
    c.loop-left.invariant
    (all_before (IsLine (scope_of c.args.bounds.now)) c.loop-left.left.now c.dimension-item.result
    (omega arith) c.dimension-item.is (c.is_line.ensures holds) rest)
