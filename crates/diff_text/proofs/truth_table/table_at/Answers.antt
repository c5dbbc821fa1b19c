use Rattle.std.proofs.Common.{◌∙◌, ap, sym}
use Rattle.std.specs.Prelude.{Some}
use Rattle.std.proofs.lemmas.Option.{slice_get-get_or}
use Rattle.diff_space.specs.Coordinates.{Dimension}
use Rattle.diff_text.specs.Tables.{truths}
use Rattle.diff_text.proofs.Tabled.{test_table}
use Rattle.diff_text.proofs.truth_table.table_at.Goals as goal

pub returns : goal.returns
returns c =
    let by = c.in-Some-number_comparison_at.compared in
    let ds = c.args.dimensions.now in
    let d = c.in-Some.dimension.now in
    let there = slice_get-get_or ds c.args.place d c.in-Some.ensures.lookup.3.0
    ∙ ap (λ (e : Dimension). Some e) (sym c.in-Some.ensures.lookup.1) in
    test_table ds c.args.test.now c.args.place by d c.in_ok-holds.holds.items there
    c.in-Some-number_comparison_at.ensures
    (c.in_ok-holds.ensures
    ∙ ap (truths by) (c.deref.ensures.value ∙ ap (λ (e : Dimension). e.starts) c.dimension.view_is))
