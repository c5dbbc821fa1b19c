use Rattle.std.proofs.Common.{IfSome, List, Option, Vec, ◌∙◌, ap, subst, sym}
use Rattle.std.specs.List.{list_all}
use Rattle.std.specs.declared.alloc.Global.{Global}
use Rattle.diff_space.specs.Coordinates.{Dimension}
use Rattle.diff_space.specs.Spaces.{Space}
use Rattle.diff_rules.specs.Checks.{are_right}
use Rattle.diff_rules.specs.Classes.{PlaceClass, Covers}
use Rattle.diff_rules.specs.Rows.{DiffRow, is_row}
use Rattle.diff_rules.proofs.Checked.{is_diff}
use Rattle.diff_rules.proofs.diff.checked_rows.Goals as goal

pub returns : goal.returns
returns c = λ x old new is.
    let space = c.args.space.now in
    let rows = c.in_ok-rows.rows.items in
    let classes = c.in-Some.classes.items in
    let dimensions = c.deref-5.ensures.value
    ∙ ap (λ (s : Space). s.dimensions) c.space.view_is in
    is_diff x old new space rows classes is
    (subst
    (λ (o : Option (Vec PlaceClass Global)). IfSome o (λ cs. Covers x old new space cs.items))
    c.in-Some.is (c.in_ok-classes.ensures x old new is))
    (ap (λ (rs : List DiffRow). are_right rs classes) (sym c.deref-3.ensures.value)
    ∙ ap (are_right c.deref-3.result.now) (sym c.deref-4.ensures.value)
    ∙ sym c.are_right.ensures ∙ c.if-not-are_right.false)
    (ap (λ (ds : List Dimension). list_all (is_row ds) rows) (sym dimensions)
    ∙ ap (list_all (is_row c.deref-5.result.now)) (sym c.deref-6.ensures.value)
    ∙ sym c.are_rows.ensures ∙ c.if-not-are_rows.false)
