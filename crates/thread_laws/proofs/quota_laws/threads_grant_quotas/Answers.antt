use Rattle.thread_laws.proofs.Granted.{quotas_are_granted}
use Rattle.thread_laws.proofs.quota_laws.threads_grant_quotas.Goals as goal

pub returns : goal.returns
returns c =
    quotas_are_granted c.threads_keep_quotas.ensures c.arrays_lie_apart.ensures.apart
    c.arrays_lie_apart.ensures.wide c.arrays_preserved.ensures.there
