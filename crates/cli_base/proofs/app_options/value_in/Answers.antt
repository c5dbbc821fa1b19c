use Rattle.cli_base.proofs.Attributes.{found_at, none_at, passed}
use Rattle.cli_base.proofs.app_options.value_in.Goals as goal

pub loop-text-preserved : goal.loop-text-preserved
loop-text-preserved c = passed _ _ _ _ c.value_of.result c.loop-text-test.true c.value_of.ensures
    c.in_default.is c.loop-text.invariant

pub returns-in-Some : goal.returns-in-Some
returns-in-Some c = found_at _ _ _ _ c.value_of.result _ c.loop-text-test.true c.value_of.ensures
    c.in-Some.is c.loop-text.invariant

pub returns : goal.returns
returns c = none_at _ _ _ c.loop-text-test.false c.loop-text.invariant
