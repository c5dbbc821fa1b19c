use Rattle.std.specs.Arc.{arc_value}
use Rattle.dry_run.proofs.WholeRuns.{by_trace}
use Rattle.dry_run.proofs.app_runs.explain_run.Goals as goal

pub returns : goal.returns
returns c = by_trace c.args.program.now c.args.attrs (arc_value c.in-Ok.attrs) c.args.counters.now
    c.trace_on.new.counters c.in_ok-_steps.field-0.choice c.in_ok-_steps.field-0.count
    c.in_ok-_steps.field-0.last_jump c.in-Ok.ensures.ok c.in_ok-_steps.ensures.run
    c.in_ok-_steps.ensures.short c.in_ok-_steps.ensures.release
