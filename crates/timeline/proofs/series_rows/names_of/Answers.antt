use Rattle.timeline.specs.Marks.{drawn_by}
use Rattle.timeline.proofs.Enclosed.{encloses}
use Rattle.timeline.proofs.series_rows.names_of.Goals as goal

pub returns : goal.returns
returns c =
    encloses (drawn_by c.args.drawn)
    (record {
      first = c.in_ok-first.first;
      end = c.in_ok-end.end;
    }) c.in_ok-first.ensures c.in_ok-end.ensures
