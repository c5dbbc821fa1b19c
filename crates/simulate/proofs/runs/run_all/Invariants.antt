use Rattle.std.proofs.Common.{◌-◌}
use Rattle.std.specs.Arc.{arc_value}
use Rattle.simulate.proofs.Courses.{IsUnderWay}
use Rattle.simulate.proofs.runs.run_all.Given as goal

abbrev pub invariant-loop-bucket : goal.invariant-loop-bucket
invariant-loop-bucket l = IsUnderWay (arc_value l.program) l.initial.client l.client l.initial.pass
    l.pass l.bucket l.choices.items

abbrev pub decreases-loop-bucket : goal.decreases-loop-bucket
decreases-loop-bucket l = 10000 - l.bucket
