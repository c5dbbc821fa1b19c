use Rattle.folder_facts.proofs.AllRead.{apps_shown}
use Rattle.folder_facts.proofs.facts.apps_at.Goals as goal

pub returns-in-Ok : goal.returns-in-Ok
returns-in-Ok g c =
    apps_shown _ _ c.in-Ok.collected _ c.in-Ok.ensures.collected
    c.shown_apps-shown.ensures.apps c.shown_apps-shown.ensures.digest
