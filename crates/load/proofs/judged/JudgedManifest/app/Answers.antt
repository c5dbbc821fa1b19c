use Rattle.std.proofs.Common.{List, ap, ◌∙◌}
use Rattle.load.specs.JudgedApps.{app_named}
use Rattle.load.specs.declared.judged.JudgedApp.{JudgedApp}
use Rattle.load.proofs.InTurn.{found_judged}
use Rattle.load.proofs.judged.JudgedManifest.app.Goals as goal

pub returns-clause-found : goal.returns-clause-found
returns-clause-found c =
    c.app_in.ensures
    ∙ ap (λ (apps : List JudgedApp). app_named apps c.args.appid.now) c.deref.ensures.value

pub returns-clause-judged : goal.returns-clause-judged
returns-clause-judged c = λ each.
    found_judged c.args.self.now.apps.items c.args.appid.now _ (returns-clause-found c) each
