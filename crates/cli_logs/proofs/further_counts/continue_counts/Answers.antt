use Rattle.cli_logs.proofs.Continued.{continues}
use Rattle.cli_logs.proofs.further_counts.continue_counts.Goals as goal

pub returns-in-Ok : goal.returns-in-Ok
returns-in-Ok g c =
    continues _ c.args.form c.args.report.now c.count_new.new.report _ _
    c.in_ok-places.ensures.counts c.in-Ok.ensures c.in_ok-kept.ensures c.args.places.items _
    c.in_ok-places.ensures.keeps
