use Rattle.diff_space.proofs.Everyone.{everyone}
use Rattle.diff_space.proofs.grouping.group_of.Goals as goal

pub returns : goal.returns
returns c = λ x lines.
    everyone c.family_of-family.result c.args.dimensions.now c.in_ok-make_group.field-0 x
    c.in_ok-make_group.ensures lines
