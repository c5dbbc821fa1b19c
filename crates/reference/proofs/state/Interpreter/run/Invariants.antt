use Rattle.std.proofs.Common.{◌≡◌, ◌+◌}
use Rattle.reference.specs.Marks.{state_of}
use Rattle.bpf_semantics.specs.Program.{shaped}
use Rattle.reference.proofs.Runs.{RunsTo}
use Rattle.reference.proofs.state.Interpreter.run.Given as goal

abbrev pub invariant-loop-done : goal.invariant-loop-done
invariant-loop-done g l =
    let start = state_of l.initial.self in
    record {
      count : (state_of l.self).count ≡ start.count + l._done;
      belongs : g.C.CellSteps.belongs l.cells l.pass;
      run : RunsTo g.C.CellSteps.grew (shaped l.code l.shape) start l.initial.pass
          (state_of l.self) l.pass;
    }
