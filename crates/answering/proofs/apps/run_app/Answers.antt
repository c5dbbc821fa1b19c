use Rattle.std.proofs.Common.{◌≡◌, ◌∙◌, None, Some, List, ℕ, true, false, ap, sym, rules}
use Rattle.attrs.specs.declared.facts.AppFacts.{AppFacts}
use Rattle.ruleset.specs.Rules.{app_of}
use Rattle.answering.proofs.Found.{found_is}
use Rattle.answering.proofs.Grown.{grows_none, grows_ran, grows_found, not_true, not_false}
use Rattle.answering.proofs.Grown.{finds_none, finds_unrequested}
use Rattle.answering.proofs.apps.run_app.Goals as goal

pub returns-in_default-clause-finds : goal.returns-in_default-clause-finds
returns-in_default-clause-finds g c =
    let same = ap (λ (z : List ℕ). app_of c.args.rules.now z) c.appid.ensures in
    grows_none (g.C.CellSteps.grew) _ _
    (finds_none c.args.rules.now c.args.facts.now c.args.turn.now.moment.now c.args.app.now
    (sym same ∙ sym c.in_default.ensures.found))

pub returns-then-not-facts-clause-finds : goal.returns-then-not-facts-clause-finds
returns-then-not-facts-clause-finds g c =
    let rules' = c.args.rules.now in
    let facts' = c.args.facts.now in
    let app' = c.args.app.now in
    let asks : c.facts.result.now.updatecheck ≡ false =
    first_of (search rules, search (rules, not_true)) in
    let is =
    found_is rules' facts' app' c.appid.result.now None c.in-Some.known.now c.listed_app.result
    c.appid.ensures c.in-Some.ensures.found (c.listed_app.ensures facts' c.requires.hashed) in
    grows_none (g.C.CellSteps.grew) _ _
    (finds_unrequested rules' facts' c.args.turn.now.moment.now app' (Some c.listed_app.result)
    (sym (ap (λ (f : AppFacts). f.updatecheck) c.facts.ensures) ∙ asks) is)

pub returns-clause-finds : goal.returns-clause-finds
returns-clause-finds g c =
    let rules' = c.args.rules.now in
    let facts' = c.args.facts.now in
    let app' = c.args.app.now in
    let accepted : c.facts.result.now.updatecheck ≡ true =
    first_of (search rules, search (rules, not_false)) in
    let asks = sym (ap (λ (f : AppFacts). f.updatecheck) c.facts.ensures) ∙ accepted in
    let same = ap (λ (z : List ℕ). app_of rules' z) c.appid.ensures in
    let knows = sym same ∙ sym c.in-Some.ensures.found in
    let choice = Some c.run-choice.result.0 in
    let is =
    found_is rules' facts' app' c.appid.result.now choice c.in-Some.known.now
    c.listed_app-2.result c.appid.ensures c.in-Some.ensures.found
    (c.listed_app-2.ensures facts' c.requires.hashed) in
    grows_found (g.C.CellSteps.grew) rules' facts' c.args.turn.now.moment.now _ _ app' choice
    (Some c.listed_app-2.result) is
    (grows_ran (g.C.CellSteps.grew) _ _ _ _ _ _ c.in-Some.known.now c.in-Ok.run' _ _ asks
    knows c.invariant_law.ensures
    (rw c.appid.ensures at c.in-Some.ensures.known)
    (c.in-Ok.ensures.program ∙ c.program.ensures)
    c.in-Ok.ensures.represents c.run-choice.ensures.runs c.run-choice.ensures.short
    c.run-choice.ensures.choice)
