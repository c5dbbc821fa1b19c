use Rattle.std.proofs.Common.{◌≡◌, ◌++◌, ◌∷◌, [], length, refl, sym, ap, ◌∙◌, rules}
use Rattle.std.proofs.lemmas.Grind.{common_steps}
use Rattle.omaha_json.proofs.Bodies.{none_read, one_read, none_said, all_read}
use Rattle.omaha_json.proofs.reading.all_facts.Goals as goal

pub loop-app-init : goal.loop-app-init
loop-app-init g c =
    let gives = c.into_iter-app-iterator.ensures.into_iter_gives in (
      none_read _ _ _ c.in-Ok.ensures.items gives.0,
      gives.1 ∙ c.args.apps.ok.0 ∙ ap length (sym gives.0),
    )

pub returns-in_default-app_facts-clause-err : goal.returns-in_default-app_facts-clause-err
returns-in_default-app_facts-clause-err g c not_memory = (
  refl,
  none_said _ _ _ c.in-Some.app _ c.in-Some.ensures.steps.0
      c.in_default-app_facts.ensures c.loop-app.invariant.0,
)

pub loop-app-preserved : goal.loop-app-preserved
loop-app-preserved g c =
    let steps = c.in-Some.ensures.steps in
    let shared = c.in-Ok-new.shared in
    let pushed : c.push.new.self.items ≡ c.loop-app.each.items ++ shared ∷ [] =
    first_of (search rules, grind common_steps) in (
      one_read c.loop-app.each.items _ _ shared _ _ c.in-Some.app _ steps.0
          c.in-Some-app_facts.ensures c.in-Ok-new.ensures pushed c.loop-app.invariant.0,
      search rules,
    )

pub returns-clause-ok : goal.returns-clause-ok
returns-clause-ok g c =
    let i = c.loop-app.invariant in
    all_read _ _ _ (sym i.1 ∙ c.in-None.ensures.steps.0) i.0
