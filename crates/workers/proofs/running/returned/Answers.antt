use Rattle.workers.proofs.Onwards.{is_published}
use Rattle.workers.proofs.running.returned.Goals as goal

pub returns-clause-published : goal.returns-clause-published
returns-clause-published g c =
    is_published _ _ _ _ _ c.tell-published.ensures c.generation-generation.ensures
    c.invariant_law.ensures.last c.invariant_law.ensures.sound
