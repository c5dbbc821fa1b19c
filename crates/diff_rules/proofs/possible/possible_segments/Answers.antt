use Rattle.std.proofs.Common.{subst, sym}
use Rattle.diff_space.specs.Groups.{Group, HasTuple, cells_at}
use Rattle.diff_rules.proofs.possible.possible_segments.Goals as goal

pub returns : goal.returns
returns c = λ place agrees has within.
    c.possible_in.ensures place agrees
    (subst (λ (g : Group). HasTuple g (cells_at place g.dimensions)) (sym c.index-groups-at.is)
    (has c.in-Some.at c.index-groups-at.result c.in-Some.ensures))
    within
