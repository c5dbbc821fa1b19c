use Rattle.std.proofs.Common.{length, sym, ap, ◌∙◌, arith}
use Rattle.std.specs.Slots.{slots_items, slots_counts}
use Rattle.shared_cells.specs.Passes.{ClosedView}
use Rattle.shared_cells.proofs.Gathered.{length_stored, same_lists}
use Rattle.shared_cells.proofs.closing.Closed.copy_values.Goals as goal

pub returns : goal.returns
returns c =
    let words = slots_items c.self.inside.table.words in
    let many = sym (ap (λ (v : ClosedView). length v.values) c.self.view_is)
    ∙ length_stored 0 words ∙ sym (slots_counts c.self.inside.table.words).0 ∙ c.self.invariant.1 in
    let all = c.loop-cell-test.false in
    same_lists c.loop-cell.values c.args.self.now.values (c.loop-cell.invariant.many ∙ sym many)
    (λ i less. c.loop-cell.invariant.copied i (omega (arith, many, less, all)))
