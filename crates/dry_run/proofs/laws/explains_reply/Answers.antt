use Rattle.dry_run.proofs.Replying.{explains_reply}
use Rattle.dry_run.proofs.laws.explains_reply.Goals as goal

pub returns : goal.returns
returns c = explains_reply
