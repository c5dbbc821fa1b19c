use Rattle.thread_laws.proofs.QuotaLaw.{quotas_are_kept}
use Rattle.thread_laws.proofs.quota_laws.threads_keep_quotas.Goals as goal

pub returns : goal.returns
returns c = quotas_are_kept c.events_fit.ensures
