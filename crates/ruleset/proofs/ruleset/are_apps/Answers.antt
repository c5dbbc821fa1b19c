use Rattle.std.proofs.Common.{◌≡◌, ◌+◌, [], ◌∷◌, ◌++◌, All, take, sym, ap, subst, ◌∙◌, arith}
use Rattle.std.proofs.lemmas.List.{take_all, take_more}
use Rattle.std.proofs.lemmas.List.Elements.{All-push, All-same}
use Rattle.ruleset.specs.Rules.{AppRule, IsApp}
use Rattle.ruleset.proofs.ruleset.are_apps.Goals as goal

pub loop-app-preserved : goal.loop-app-preserved
loop-app-preserved c =
    let apps = c.args.apps.now in
    let i = c.loop-app.app-index in
    let app = c.app-item.result in
    let longer : take (i + 1) apps ≡ take i apps ++ app ∷ [] =
    take_more apps i app c.loop-app-test.true
    ∙ ap (λ (x : AppRule). take i apps ++ x ∷ []) (sym c.app-item.is) in
    All-same IsApp (take (i + 1) apps) (take i apps ++ app ∷ []) longer
    (All-push IsApp (take i apps) app c.loop-app.invariant c.invariant_law.ensures)

pub returns : goal.returns
returns c =
    let past = c.loop-app-test.false in
    subst (All IsApp) (take_all c.loop-app.app-index c.args.apps.now (omega (arith, past)))
    c.loop-app.invariant
