use Rattle.std.proofs.Common.{[], ◌+◌, ◌<◌, arith, refl}
use Rattle.reference.specs.Marks.{state_of}
use Rattle.bpf_semantics.specs.Program.{shaped}
use Rattle.reference.specs.Runs.GoesOn.{stays}
use Rattle.reference.proofs.Runs.{IsGoing, one_step, counted, choice_of, trap_of}
use Rattle.reference.proofs.state.Interpreter.run.Goals as goal

pub loop-done-init : goal.loop-done-init
loop-done-init g c = record {
  count = omega arith;
  belongs = c.requires.belongs;
  run =
      ([], stays, refl);
}

pub step-requires-clause-belongs : goal.step-requires-clause-belongs
step-requires-clause-belongs g c = c.loop-done.invariant.belongs

pub step-requires-clause-count : goal.step-requires-clause-count
step-requires-clause-count g c =
    omega (arith, c.loop-done.invariant.count, c.loop-done-test.true, c.requires.count)

pub loop-done-preserved : goal.loop-done-preserved
loop-done-preserved g c =
    let p = shaped c.args.code.now c.args.shape.now in
    let old = state_of c.loop-done.self in
    let new = state_of c.step.new.self in
    let going : IsGoing c.step.result = (c.in_default.not-Done, c.in_default.not-Trap) in
    let more = counted p old c.step.result new
    (c.counts_instructions.ensures p old) going c.step.ensures.step in
    record {
      count = omega (arith, more, c.loop-done.invariant.count);
      belongs = c.step.ensures.belongs;
      run = one_step g.C.CellSteps.grew c.growth.ensures.snoc p
          (state_of c.args.self.now) c.args.pass.now old
          c.loop-done.pass c.step.result new c.step.new.pass c.loop-done.invariant.run going
          c.step.ensures.step
          c.step.ensures.grew;
    }

pub returns-in-Done-clause-run : goal.returns-in-Done-clause-run
returns-in-Done-clause-run g c =
    let p = shaped c.args.code.now c.args.shape.now in
    let old = state_of c.loop-done.self in
    let start = state_of c.args.self.now in
    let within : old.count < start.count + c.args.limit =
    omega (arith, c.loop-done.invariant.count, c.loop-done-test.true) in
    choice_of g.C.CellSteps.grew p start c.args.pass.now old c.loop-done.pass c.in-Done.choice
    c.args.limit (state_of c.step.new.self) c.step.new.pass c.loop-done.invariant.run within
    c.in-Done.ensures.step c.in-Done.ensures.grew

pub returns-in-Trap-clause-run : goal.returns-in-Trap-clause-run
returns-in-Trap-clause-run g c =
    let p = shaped c.args.code.now c.args.shape.now in
    let old = state_of c.loop-done.self in
    let start = state_of c.args.self.now in
    let within : old.count < start.count + c.args.limit =
    omega (arith, c.loop-done.invariant.count, c.loop-done-test.true) in
    trap_of g.C.CellSteps.grew p start c.args.pass.now old c.loop-done.pass c.args.limit
    (state_of c.step.new.self) c.step.new.pass c.loop-done.invariant.run within
    c.in-Trap.ensures.step c.in-Trap.ensures.grew

pub returns-clause-run : goal.returns-clause-run
returns-clause-run g c =
    let run = c.loop-done.invariant.run in (
      run.0,
      (
        run.1,
        omega (
          arith,
          c.loop-done.invariant.count,
          c.loop-done-test.false,
          c.loop-done.auto,
        ),
      ),
      run.2,
    )

pub returns-clause-belongs : goal.returns-clause-belongs
returns-clause-belongs g c = c.loop-done.invariant.belongs
