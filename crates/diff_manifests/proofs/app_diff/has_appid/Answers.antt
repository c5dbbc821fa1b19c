use Rattle.diff_manifests.proofs.Reported.{has_found}
use Rattle.diff_manifests.proofs.app_diff.has_appid.Goals as goal

pub returns-in-Some : goal.returns-in-Some
returns-in-Some c =
    has_found c.args.appid.now c.args.opened.now.apps.items _ c.in-Some.ensures.found

pub returns-in-None : goal.returns-in-None
returns-in-None c =
    has_found c.args.appid.now c.args.opened.now.apps.items _ c.in-None.ensures.found
