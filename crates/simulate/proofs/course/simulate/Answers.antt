use Rattle.std.proofs.Common.{◌∙◌}
use Rattle.simulate.proofs.Courses.{no_app_yet, one_app_more}
use Rattle.simulate.proofs.course.simulate.Goals as goal

pub loop-app-init : goal.loop-app-init
loop-app-init g c = rw c.in_ok-chosen.ensures.items
    (no_app_yet c.args.client.now c.in-Ok.pass c.apps-apps.result.now)

pub loop-app-preserved : goal.loop-app-preserved
loop-app-preserved g c =
    one_app_more c.args.client.now c.loop-app.client c.choose_for_app.new.client
    c.in-Ok.pass c.loop-app.pass c.choose_for_app.new.pass c.apps-apps.result.now
    c.loop-app.app-index
    c.app-item.result c.loop-app.chosen.items c.push.new.self.items c.in_ok-choices.choices
    c.loop-app.invariant c.loop-app-test.true c.app-item.is c.in_ok-choices.ensures.choices
    c.choose_for_app.ensures.client c.in_ok-push.ensures.items

pub returns-in_err-choices-clause-client : goal.returns-in_err-choices-clause-client
returns-in_err-choices-clause-client g c =
    λ appid bucket. c.choose_for_app.ensures.client appid bucket
    ∙ c.loop-app.invariant.client appid bucket

pub returns-in_err-push-clause-client : goal.returns-in_err-push-clause-client
returns-in_err-push-clause-client g c =
    λ appid bucket. c.choose_for_app.ensures.client appid bucket
    ∙ c.loop-app.invariant.client appid bucket
