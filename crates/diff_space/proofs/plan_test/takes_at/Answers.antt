use Rattle.diff_space.proofs.Takes.{takes}
use Rattle.diff_space.proofs.plan_test.takes_at.Goals as goal

pub returns-in-Some : goal.returns-in-Some
returns-in-Some c = λ x lines.
    takes x c.args.dimensions.now c.args.shape.now c.args.place c.args.name.now c.args.index
    c.in-Some.cell c.invariant_law.ensures lines c.in-Some.ensures
