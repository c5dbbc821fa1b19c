use Rattle.std.proofs.Common.{◌≡◌, ◌∙◌, List, subst}
use Rattle.std.specs.Arc.{arc_value}
use Rattle.attrs.specs.Attributes.{Attributes}
use Rattle.cells.specs.declared.event.CellEvent.{CellEvent}
use Rattle.bpf_semantics.specs.Program.{ShapedProgram}
use Rattle.bpf_semantics.specs.State.{opening}
use Rattle.bpf_semantics.specs.Run.{Ends}
use Rattle.simulate.specs.Clients.{attributes}
use Rattle.simulate.proofs.runs.choose.Goals as goal

pub returns-clause-chooses : goal.returns-clause-chooses
returns-clause-chooses c =
    let app : c.in-Ok.attrs.value ≡ attributes c.args.client.now =
    c.in-Ok.ensures.ok ∙ c.in_ok-attrs.ensures in
    let program : c.start.result.program ≡ arc_value c.args.program.now =
    c.start.ensures.program ∙ c.in-Ok-try_clone.ensures in
    let events : List CellEvent = c.run-choice.ensures.runs.events in
    let end = c.run-choice.ensures.runs.ends (opening c.in-Ok.attrs.value)
    c.start.ensures.represents in
    let of_program = subst (λ (p : ShapedProgram). Ends p (opening c.in-Ok.attrs.value)
    events c.run-choice.result.0 c.run-choice.result.1) program end in
    record {
      events = events;
      count = c.run-choice.result.1;
      legal = c.run-choice.ensures.runs.grown;
      ends = subst (λ (a : Attributes). Ends (arc_value c.args.program.now) (opening a)
          events c.run-choice.result.0 c.run-choice.result.1) app of_program;
    }
