use Rattle.std.proofs.Common.{◌≡◌, subst, rules}
use Rattle.report.specs.Tallies.{Rows}
use Rattle.report_state.specs.Courses.{AddsRows}
use Rattle.report_state.proofs.Added.{sum_of_both}
use Rattle.report_state.proofs.course.sum_of_both.Goals as goal

pub returns : goal.returns
returns c =
    let same : c.rows.result.now.entries ≡ c.args.part.now.rows.entries = search rules in
    sum_of_both c.args.from 65536 c.args.rows.now.entries c.new-sum.result
    c.add_rows.new.sum c.new-sum.ensures c.in_ok-add_rows.ensures c.args.part.now
    c.add_rows-2.new.sum (subst (λ (rows : Rows). AddsRows c.args.from rows c.add_rows.new.sum
    c.add_rows-2.new.sum) same c.in_ok-add_rows-2.ensures)
