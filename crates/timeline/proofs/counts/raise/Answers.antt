use Rattle.std.proofs.Common.{◌≡◌, ◌∙◌, ap, refl, rules}
use Rattle.report.specs.Tallies.{Rows}
use Rattle.timeline.proofs.Kept.{raised_kept}
use Rattle.timeline.proofs.Raised.{each_is, raised_each}
use Rattle.timeline.specs.Marks.{drawn_by}
use Rattle.timeline.specs.SeriesRows.{rows_between}
use Rattle.timeline.proofs.counts.raise.Goals as goal

pub loop-name-init : goal.loop-name-init
loop-name-init c = record {
  each = ap (λ (rows : Rows). raised_each c.args.bins.now (drawn_by c.args.drawn) rows
      c.args.numbers.now)
      (c.into_iter-name-iterator.ensures.into_iter_gives ∙ c.range-name-items.ensures.between tt);
  all = refl;
}

pub returns-clause-raised : goal.returns-clause-raised
returns-clause-raised c =
    let drawn = drawn_by c.args.drawn in
    let rows = rows_between c.in_ok-names.names c.args.rows.now.entries in
    let each : c.loop-name.numbers ≡ raised_each c.args.bins.now drawn rows c.args.numbers.now =
    search rules in
    each ∙ each_is c.args.bins.now drawn rows c.args.numbers.now c.requires.all
    ∙ raised_kept drawn c.in_ok-names.names c.in_ok-names.ensures c.args.bins.now
    c.args.rows.now.entries c.args.numbers.now
