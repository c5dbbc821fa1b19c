use Rattle.std.proofs.Common.{◌≡◌, rules, subst, sym}
use Rattle.rule_lang.specs.declared.test.Test.{Test}
use Rattle.rule_lang.specs.declared.test.Test.TheVariants as test
use Rattle.diff_space.specs.declared.coordinate.Coordinate.TheVariants as coordinate
use Rattle.diff_space.specs.Tests.{ComparesNumber}
use Rattle.diff_space.proofs.Tests.{by, version_comparison}
use Rattle.diff_space.proofs.test_line.version_comparison.Goals as goal

pub returns-in-Version : goal.returns-in-Version
returns-in-Version c = λ texts.
    let r = c.in-Version.comparison in
    let is : c.args.test.now ≡ test.Version r c.in-Version.version = search rules in
    subst (λ (t : Test). ComparesNumber coordinate.Version texts t (by r c.version_number.result))
    (sym is)
    (version_comparison texts r c.in-Version.version c.version_number.result
    c.version_number.ensures.digits c.version_number.ensures.number)
