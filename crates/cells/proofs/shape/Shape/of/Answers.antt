use Rattle.std.proofs.Common.{rules}
use Rattle.cells.proofs.Shapes.{shape_in}
use Rattle.cells.proofs.shape.Shape.of.Goals as goal

pub invariant_of-result : goal.invariant_of-result
invariant_of-result c = shape_in c.args.releases c.args.directory.now c.args.numbers.now
    c.in_ok-arrays.arrays.items c.requires.releases (search rules) (search rules)
