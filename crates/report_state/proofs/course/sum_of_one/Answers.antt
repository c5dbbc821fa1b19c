use Rattle.report_state.proofs.Added.{sum_of_one}
use Rattle.report_state.proofs.course.sum_of_one.Goals as goal

pub returns : goal.returns
returns c = sum_of_one c.args.from 65536 c.args.rows.now.entries c.new-sum.result
    c.add_rows.new.sum c.new-sum.ensures c.in_ok-add_rows.ensures
