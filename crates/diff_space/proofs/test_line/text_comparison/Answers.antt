use Rattle.std.proofs.Common.{◌≡◌, ap, arith, rules, subst, sym, ◌∙◌}
use Rattle.rule_lang.specs.declared.test.Comparison.TheVariants.{Eq}
use Rattle.rule_lang.specs.declared.test.Test.{Test}
use Rattle.rule_lang.specs.declared.test.Test.TheVariants as test
use Rattle.diff_space.specs.declared.coordinate.Coordinate.TheVariants as coordinate
use Rattle.diff_space.specs.Coordinates.{index_or_count}
use Rattle.diff_space.specs.Tests.{ComparesNumber}
use Rattle.diff_space.proofs.Tests.{by, text_comparison}
use Rattle.diff_space.proofs.test_line.text_comparison.Goals as goal

pub returns-then-place-texts : goal.returns-then-place-texts
returns-then-place-texts c =
    let place = c.index_or_count-place.result in
    let same : c.args.own ≡ c.in-Attr.attribute = search rules in
    let is : c.args.test.now ≡ test.Attr c.in-Attr.attribute c.in-Attr.text = search rules in
    subst
    (λ (t : Test). ComparesNumber (coordinate.Text c.args.own) c.args.texts.now t (by Eq place))
    (sym is)
    (text_comparison c.args.texts.now c.args.own c.in-Attr.attribute c.in-Attr.text place same
    (c.index_or_count-place.ensures ∙ ap (index_or_count c.args.texts.now) c.as_str.ensures.text)
    (omega arith))
