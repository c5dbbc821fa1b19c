use Rattle.diff_space.proofs.Tests.{compares}
use Rattle.diff_space.proofs.plan_test.compares_at.Goals as goal

pub returns-in-Some : goal.returns-in-Some
returns-in-Some c = λ x s lines.
    compares x c.args.dimensions.now s c.args.place c.args.test.now c.in-Some.compared lines
    c.in-Some.ensures
