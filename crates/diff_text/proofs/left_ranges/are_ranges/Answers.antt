use Rattle.std.proofs.Common.{◌∙◌, ap, ap₂, List, map, sym, ℕ}
use Rattle.diff_rules.specs.Rows.{SegmentSet}
use Rattle.diff_space.specs.Coordinates.{Dimension}
use Rattle.diff_text.specs.Grants.{have_number}
use Rattle.diff_text.specs.Tables.{agrees}
use Rattle.diff_text.proofs.Ranges.{are_ranges}
use Rattle.diff_text.proofs.left_ranges.are_ranges.Goals as goal

pub returns : goal.returns
returns c = λ x line is.
    let ranges = c.args.ranges.now in
    are_ranges x c.args.dimension.now c.args.set.now ranges line
    (sym c.are_cut.ensures ∙ c.if-not-are_cut.false)
    (ap₂ (λ (s e : List ℕ). agrees s 0 (map (have_number ranges) e))
    (sym (c.deref.ensures.value ∙ ap (λ (s : SegmentSet). s.segments) c.set.view_is))
    (sym (c.deref-2.ensures.value ∙ ap (λ (e : Dimension). e.starts) c.dimension.view_is))
    ∙ sym c.ranges_agree.ensures ∙ is)
