use Rattle.std.proofs.Common.{List, ap, ℕ, ◌∙◌}
use Rattle.diff_space.specs.Families.{cells_by}
use Rattle.diff_space.proofs.Grown.{added}
use Rattle.diff_space.proofs.grouping.add_combination.Goals as goal

pub returns-clause-has : goal.returns-clause-has
returns-clause-has c = λ few.
    added c.args.family c.args.dimensions.now c.args.group.now c.add.new.self c.args.combination
    c.in_ok-cells.cells.items c.in_ok-add.ensures.grows c.in_ok-add.ensures.has
    (c.in_ok-cells.ensures few
    ∙ ap (λ (ms : List ℕ). cells_by c.args.dimensions.now ms c.args.combination)
    c.members.ensures)
