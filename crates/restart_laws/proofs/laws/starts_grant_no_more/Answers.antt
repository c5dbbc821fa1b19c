use Rattle.restart_laws.proofs.Starts.{no_more}
use Rattle.restart_laws.proofs.laws.starts_grant_no_more.Goals as goal

pub returns : goal.returns
returns c = no_more
