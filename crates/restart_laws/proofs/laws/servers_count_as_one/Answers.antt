use Rattle.restart_laws.proofs.Servers.{as_one, counts_on}
use Rattle.restart_laws.proofs.laws.servers_count_as_one.Goals as goal

pub returns : goal.returns
returns c = record { all = as_one; each = counts_on }
