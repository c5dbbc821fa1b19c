use Rattle.std.proofs.Common.{◌≡◌, ◌∙◌, List, subst}
use Rattle.std.specs.Arc.{arc_value}
use Rattle.attrs.specs.Attributes.{Attributes}
use Rattle.cells.specs.declared.event.CellEvent.{CellEvent}
use Rattle.bpf_semantics.specs.Program.{ShapedProgram}
use Rattle.bpf_semantics.specs.Run.{Ends}
use Rattle.bpf_semantics.specs.State.{opening}
use Rattle.cli_programs.proofs.Events.{all_fit}
use Rattle.cli_programs.proofs.run.choose.Goals as goal

pub returns-clause-run : goal.returns-clause-run
returns-clause-run c =
    let a : Attributes = arc_value c.in_ok-attrs.attrs in
    let program : c.start.result.program ≡ c.args.program =
    c.start.ensures.program ∙ c.in-Ok-new.ensures.ok in
    let events : List CellEvent = c.run.ensures.runs.events in
    let end = c.run.ensures.runs.ends (opening a) c.start.ensures.represents in
    let end_of_program = subst (λ (p : ShapedProgram).
    Ends p (opening a) events c.run.result.0 c.run.result.1) program end in
    record {
      values = c.in-Ok.pass;
      opens = c.in-Ok.ensures.opening;
      events = events;
      values_after = c.run.new.pass;
      grew = c.run.ensures.runs.grown;
      ends = subst (λ (b : Attributes).
          Ends c.args.program (opening b) events c.run.result.0 c.run.result.1)
          c.in_ok-attrs.ensures end_of_program;
      lawful = c.invariant_law-2.ensures.lawful (opening a) events
          c.run.result.0 c.run.result.1 (c.invariant_law-2.ensures.opens a
          (rw c.deref-facts.ensures at c.invariant_law.ensures.texts))
          (all_fit c.events_fit.ensures c.in-Ok.pass events c.run.new.pass c.invariant_law-3.ensures
          c.run.ensures.runs.grown) end_of_program;
    }
