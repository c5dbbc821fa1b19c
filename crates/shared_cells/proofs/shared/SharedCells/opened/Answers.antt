use Rattle.std.proofs.Common.{List, ℕ, sym, ap, subst, ◌∙◌}
use Rattle.cells.specs.Events.{AreCells}
use Rattle.shared_cells.specs.Words.{AreWordsOf}
use Rattle.shared_cells.proofs.Cutting.{begins}
use Rattle.shared_cells.proofs.shared.SharedCells.opened.Goals as goal

pub of_words-requires : goal.of_words-requires
of_words-requires c =
    let kept = ap (λ v. v.items) c.of.ensures in
    let lent = c.deref.ensures.value in
    let words : AreWordsOf c.deref.result.now c.as_slice.result.now =
    subst (AreWordsOf c.deref.result.now) (sym c.as_slice.ensures.value) c.in_ok-words.ensures in
    begins c.of.result.value.items c.args.passes c.as_slice.result.now
    (subst AreCells (sym kept) c.requires.cells)
    (subst (λ (l : List ℕ). AreWordsOf l c.as_slice.result.now) (lent ∙ sym kept) words)
