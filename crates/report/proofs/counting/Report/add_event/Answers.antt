use Rattle.std.proofs.Common.{Bool, Some, None, sym, subst, ◌∙◌, if◌then◌else◌}
use Rattle.json.specs.Value.{value_view}
use Rattle.report.specs.Borrowed.{data_of}
use Rattle.report.specs.Members.{line_members}
use Rattle.report.specs.Counts.{AddsLine}
use Rattle.report.proofs.Counted.{adds_nothing}
use Rattle.report.proofs.counting.Report.add_event.Goals as goal

pub returns : goal.returns
returns c =
    let event = line_members (data_of (value_view c.args.event.now)) in
    subst (λ (b : Bool). AddsLine (Some event) (if b then Some event else None) c.args.self.now
    c.args.self.now) (sym c.if-is_within.false ∙ c.is_within.ensures)
    (adds_nothing event c.args.self.now)
