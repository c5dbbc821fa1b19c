use Rattle.std.proofs.Common.{◌≡◌, ◌∙◌, ap, arith, rules}
use Rattle.report.specs.Tallies.{Rows}
use Rattle.timeline.proofs.Kept.{count_kept}
use Rattle.timeline.specs.Marks.{drawn_by, drawn_count}
use Rattle.timeline.specs.SeriesRows.{rows_between}
use Rattle.timeline.proofs.marks.drawn_count.Goals as goal

pub loop-name-init : goal.loop-name-init
loop-name-init c =
    let rows = rows_between c.in_ok-names.names c.args.rows.now.entries in
    let same : drawn_count c.into_iter-name-iterator.result (drawn_by c.args.drawn)
    ≡ drawn_count rows (drawn_by c.args.drawn) =
    ap (λ (some : Rows). drawn_count some (drawn_by c.args.drawn))
    (c.into_iter-name-iterator.ensures.into_iter_gives
    ∙ c.range-name-items.ensures.between tt) in
    omega (arith, same)

pub returns : goal.returns
returns c =
    let rows = rows_between c.in_ok-names.names c.args.rows.now.entries in
    let whole : c.loop-name.count ≡ drawn_count rows (drawn_by c.args.drawn) = search rules in
    whole
    ∙ count_kept (drawn_by c.args.drawn) c.in_ok-names.names c.in_ok-names.ensures
    c.args.rows.now.entries
