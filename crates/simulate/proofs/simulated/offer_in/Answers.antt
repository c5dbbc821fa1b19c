use Rattle.std.proofs.Common.{◌∙◌, arith, sym}
use Rattle.simulate.proofs.Written.{no_app_left, no_choices_left, none_offered}
use Rattle.simulate.proofs.simulated.offer_in.Goals as goal

pub returns-in_default-chosen : goal.returns-in_default-chosen
returns-in_default-chosen c =
    none_offered c.args.none.now c.requires
    ∙ sym (no_choices_left c.loop-apps.apps.now c.loop-apps.chosen.now c.args.appid.now
    (omega (arith, c.in_default-chosen.len_below))) ∙ c.loop-apps.invariant

pub returns : goal.returns
returns c =
    none_offered c.args.none.now c.requires
    ∙ sym (no_app_left c.loop-apps.apps.now c.loop-apps.chosen.now c.args.appid.now
    (omega (arith, c.in_default.len_below))) ∙ c.loop-apps.invariant
