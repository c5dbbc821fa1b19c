use Rattle.simulate.proofs.Courses.{IsAtApp}
use Rattle.simulate.proofs.course.simulate.Given as goal

abbrev pub invariant-loop-app : goal.invariant-loop-app
invariant-loop-app g l = IsAtApp l.initial.client l.client l.initial.pass l.pass l.apps l.app-index
    l.chosen.items
