use Rattle.folder_facts.proofs.AllRead.{steps_shown}
use Rattle.folder_facts.proofs.steps.shown_steps.Goals as goal

pub returns-in-Ok : goal.returns-in-Ok
returns-in-Ok g c =
    steps_shown _ _ _ c.in-Ok.recorded _ c.in-Ok.ensures c.shown_of-shown.ensures.taken
    c.shown_of-shown.ensures.unread c.shown_of-shown.ensures.earlier c.shown_of-shown.ensures.left
