use Rattle.std.proofs.Common.{◌≡◌, rules}
use Rattle.diff_text.specs.Tables.{join_by}
use Rattle.diff_text.proofs.Tabled.{joined_tables}
use Rattle.diff_text.proofs.parts.joined_table.Goals as goal

pub returns : goal.returns
returns c = λ ds is it_is.
    let same : c.args.first.now.dimension ≡ c.args.second.now.dimension = search rules in
    joined_tables ds (join_by c.args.is_and) c.args.first.now c.args.second.now is it_is same
    c.in_ok-table.table c.in_ok-table.ensures
