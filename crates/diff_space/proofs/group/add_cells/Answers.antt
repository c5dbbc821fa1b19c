use Rattle.diff_space.proofs.Grown.{same_cells}
use Rattle.diff_space.proofs.group.add_cells.Goals as goal

pub returns-in_ok-add_bucket-in-Some : goal.returns-in_ok-add_bucket-in-Some
returns-in_ok-add_bucket-in-Some c =
    same_cells c.args.tuples.now.items c.add_tuple.new.tuples.items c.add_bucket.new.tuples.items
    c.args.cells.items c.in_ok-place.ensures c.add_bucket.ensures
