use Rattle.std.proofs.Common.{List, string_bytes, subst, ℕ}
use Rattle.std.specs.Prelude.{IsTrue}
use Rattle.releases.specs.Appid.{is_appid}
use Rattle.dry_run.proofs.Explaining.{is_meant, no_request_explained, of_any, run_explained}
use Rattle.dry_run.proofs.Explaining.{unknown_explained}
use Rattle.dry_run.proofs.why.explain_app.Goals as goal

pub returns-in_default : goal.returns-in_default
returns-in_default c =
    of_any c.unknown_app.result _
    (λ text. unknown_explained c.args.manifest.now c.args.facts.now c.args.moment.now
    c.args.app.now c.appid-appid.result.now c.args.counters.now (string_bytes text)
    c.appid-appid.ensures c.in_default.ensures.found)

pub returns-then-not-stated : goal.returns-then-not-stated
returns-then-not-stated c =
    of_any c.no_request_app.result _
    (λ text. no_request_explained c.args.manifest.now c.args.facts.now c.args.moment.now
    c.args.app.now c.facts-stated.result.now c.appid-appid.result.now c.args.counters.now
    (string_bytes text) c.in-Some.known.now c.appid-appid.ensures c.in-Some.ensures.found
    c.facts-stated.ensures c.if-not-stated.true)

pub app_reasons-requires : goal.app_reasons-requires
app_reasons-requires c =
    (is_meant c.args.manifest.now.apps.items c.appid-appid.result.now c.in-Some.known.now
    c.requires c.in-Some.ensures.found).meant

pub returns : goal.returns
returns c =
    run_explained c.args.manifest.now c.args.facts.now c.args.moment.now c.args.app.now
    c.facts-stated.result.now c.appid-appid.result.now c.args.counters.now _
    (string_bytes c.in_ok-_choice.field-0.text) c.in_ok-_choice.field-0.choice
    c.in-Some.known.now c.in-Ok.attrs
    c.appid-appid.ensures c.facts-stated.ensures c.in-Ok.ensures c.if-not-stated.false
    c.in-Some.ensures.found
    (is_meant c.args.manifest.now.apps.items c.appid-appid.result.now c.in-Some.known.now
    c.requires c.in-Some.ensures.found)
    (subst (λ (appid : List ℕ). IsTrue (is_appid appid)) c.appid-named.ensures.appid
    c.appid-named.ensures.named) c.in_ok-_choice.ensures
