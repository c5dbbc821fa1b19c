use Rattle.std.proofs.Common.{◌≡◌, ◌∙◌, ◌+◌, ◌<◌, ◌≤◌, [], ◌∷◌, ◌++◌, length, ap, arith, refl}
use Rattle.std.proofs.Common.{rules}
use Rattle.std.proofs.lemmas.Grind.{common_steps}
use Rattle.std.proofs.lemmas.List.{take_all}
use Rattle.answering.specs.Apps.{none}
use Rattle.answering.proofs.Grown.{grows_none, grows_next, grows_few, finds_length}
use Rattle.answering.proofs.Grown.{finds_nothing}
use Rattle.answering.proofs.apps.run_apps.Goals as goal

pub returns-in_default-clause-finds : goal.returns-in_default-clause-finds
returns-in_default-clause-finds g c = grows_none (g.C.CellSteps.grew) _ _ (0, [], none)

pub loop-app-init : goal.loop-app-init
loop-app-init g c =
    let e = c.in-Ok.ensures.items in
    (c.requires, grows_none (g.C.CellSteps.grew) _ _ (rw e (finds_nothing _ _ _)))

pub returns-in_default-push-clause-finds : goal.returns-in_default-push-clause-finds
returns-in_default-push-clause-finds g c =
    let facts' = c.facts-facts.result.now in
    let apps' = c.apps-apps.result.now in
    let i = c.loop-app.app-index in
    let below : i < length apps' = c.loop-app-test.true in
    let pushed = c.loop-app.found.items ++ c.in-Ok-run_app.one ∷ [] in
    let moment' = c.args.turn.now.moment.now in
    grows_few (g.C.CellSteps.grew) c.args.rules.now moment' _ _ facts' _ apps' _ (i + 1)
    pushed c.facts-facts.ensures c.apps-apps.ensures
    (grows_next (g.C.CellSteps.grew) c.args.rules.now facts' moment' _ _ _ apps' i
    c.app-item.result c.loop-app.found.items _ c.in-Ok-run_app.one c.growth.ensures.append
    below c.app-item.is refl c.loop-app.invariant.1 c.in-Ok-run_app.ensures.finds)

pub loop-app-preserved : goal.loop-app-preserved
loop-app-preserved g c =
    let apps' = c.apps-apps.result.now in
    let i = c.loop-app.app-index in
    let below : i < length apps' = c.loop-app-test.true in
    let facts' = c.facts-facts.result.now in
    let moment' = c.args.turn.now.moment.now in
    let pushed : c.push.new.self.items ≡ c.loop-app.found.items ++ c.in-Ok-run_app.one ∷ [] =
    first_of (search rules, grind common_steps) in (
      c.run_app.ensures.belongs,
      grows_next (g.C.CellSteps.grew) c.args.rules.now facts' moment' _ _ _ apps' i
          c.app-item.result c.loop-app.found.items _ c.in-Ok-run_app.one
          c.growth.ensures.append below c.app-item.is pushed c.loop-app.invariant.1
          c.in-Ok-run_app.ensures.finds,
    )

pub returns-clause-each : goal.returns-clause-each
returns-clause-each g c =
    let apps' = c.apps-apps.result.now in
    let past : length apps' ≤ c.loop-app.app-index = c.loop-app-test.false in
    finds_length _ _ _ c.loop-app.invariant.1.of
    ∙ ap length (take_all c.loop-app.app-index apps' (omega (arith, past)) ∙ c.apps-apps.ensures)
