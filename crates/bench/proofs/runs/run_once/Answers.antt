use Rattle.std.proofs.Common.{◌≡◌, ◌∙◌, List, subst}
use Rattle.cells.specs.declared.event.CellEvent.{CellEvent}
use Rattle.attrs.specs.Attributes.{Attributes}
use Rattle.bpf_semantics.specs.Program.{ShapedProgram}
use Rattle.bpf_semantics.specs.State.{opening}
use Rattle.bpf_semantics.specs.Run.{Ends}
use Rattle.bench.proofs.runs.run_once.Goals as goal

pub returns-clause-runs : goal.returns-clause-runs
returns-clause-runs c =
    let app : c.in_ok-app.app.value ≡ c.args.app.now.value = c.in_ok-app.ensures in
    let program : c.start.result.program ≡ c.args.program.now.value =
    c.start.ensures.program ∙ c.in_ok-program.ensures in
    let events : List CellEvent = c.run.ensures.runs.events in
    let end = c.run.ensures.runs.ends (opening c.in_ok-app.app.value) c.start.ensures.represents in
    record {
      events = events;
      grew = c.run.ensures.runs.grown;
      ends = subst (λ (a : Attributes). Ends c.args.program.now.value (opening a) events
          c.run.result.0 c.run.result.1) app
          (subst (λ (p : ShapedProgram). Ends p (opening c.in_ok-app.app.value) events
          c.run.result.0 c.run.result.1) program end);
    }
