use Rattle.std.proofs.Common.{option_copied}
use Rattle.diff_space.specs.Scopes.{scope_of, side_of}
use Rattle.diff_manifests.proofs.RowSides.{shows_rows_if_any}
use Rattle.diff_manifests.proofs.comparing.rows_of.Goals as goal

pub returns : goal.returns
returns c =
    let x = scope_of c.args.bounds.now in
    let is = rw c.in-Some.is at c.in_ok-diff.ensures in
    shows_rows_if_any x (option_copied c.args.old) (option_copied c.args.new)
    (side_of c.args.sides.0.now) (side_of c.args.sides.1.now) c.in-Some.diff.space
    c.in-Some.diff.rows.items c.releases_or_none.result.now c.releases_or_none-2.result.now
    c.args.contents.now c.arrays_or_none.result.now c.arrays_or_none-2.result.now
    c.in_ok-shown.field-0 c.requires.old c.requires.new is c.releases_or_none.ensures.releases
    c.releases_or_none-2.ensures.releases c.requires.contents c.arrays_or_none.ensures
    c.arrays_or_none-2.ensures (c.in_ok-shown.ensures.shown x)
