use Rattle.std.specs.Arc.{arc_value}
use Rattle.simulate.proofs.Courses.{none_yet, one_more}
use Rattle.simulate.proofs.runs.run_all.Goals as goal

pub loop-bucket-init : goal.loop-bucket-init
loop-bucket-init c = rw c.in_ok-choices.ensures.items
    (none_yet (arc_value c.args.program.now) c.args.client.now c.args.pass.now)

pub loop-bucket-preserved : goal.loop-bucket-preserved
loop-bucket-preserved c = one_more (arc_value c.args.program.now) c.args.client.now
    c.loop-bucket.client c.move_to.new.self c.args.pass.now c.loop-bucket.pass c.choose.new.pass
    c.loop-bucket.bucket c.in_ok-choice.choice c.loop-bucket.choices.items c.push.new.self.items
    c.loop-bucket.invariant c.loop-bucket-test.true c.in_ok-move_to.ensures.moves
    c.in_ok-choice.ensures.chooses c.in_ok-choice.ensures.release c.in_ok-push.ensures.items
