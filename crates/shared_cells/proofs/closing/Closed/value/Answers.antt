use Rattle.std.proofs.Common.{sym, ap, ◌∙◌}
use Rattle.std.specs.Prelude.{slice_index}
use Rattle.std.specs.Slots.{slots_items}
use Rattle.shared_cells.specs.Passes.{ClosedView}
use Rattle.shared_cells.proofs.Gathered.{value_read}
use Rattle.shared_cells.proofs.closing.Closed.value.Goals as goal

pub returns : goal.returns
returns c =
    let at = c.index-at.result in
    let ws = slots_items c.self.inside.table.words in
    c.to_value.ensures.value ∙ sym (value_read ws at c.word.result c.word.ensures)
    ∙ ap (λ (v : ClosedView). slice_index v.values at) c.self.view_is
    ∙ ap (slice_index c.args.self.now.values) c.index-at.ensures.value
