use Rattle.dry_run.proofs.Requests.{one_reply_to_body}
use Rattle.dry_run.proofs.laws.reply_unique.Goals as goal

pub returns : goal.returns
returns c = one_reply_to_body
