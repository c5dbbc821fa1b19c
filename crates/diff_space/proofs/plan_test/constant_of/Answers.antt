use Rattle.std.proofs.Common.{◌≡◌, rules, subst, sym, true}
use Rattle.attrs.specs.declared.vocabulary.Flag.TheVariants as flag
use Rattle.rule_lang.specs.declared.test.Test.{Test}
use Rattle.rule_lang.specs.declared.test.Test.TheVariants as test
use Rattle.diff_space.specs.Plans.{IsConstant}
use Rattle.diff_space.specs.Scopes.{IsWithin, scope_of}
use Rattle.diff_space.proofs.Tests.{is_requested}
use Rattle.diff_space.proofs.plan_test.constant_of.Goals as goal

pub returns-in-Flag-Updatecheck : goal.returns-in-Flag-Updatecheck
returns-in-Flag-Updatecheck c = λ ds s.
    let x = scope_of c.args.bounds.now in
    let is : c.args.test.now ≡ test.Flag flag.Updatecheck = search rules in
    subst (λ (t : Test). IsConstant (IsWithin x) ds s t true) (sym is) (is_requested x ds s)
