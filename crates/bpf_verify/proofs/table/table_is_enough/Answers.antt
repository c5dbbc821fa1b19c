use Rattle.bpf_verify.proofs.Tables.{table_accepted}
use Rattle.bpf_verify.proofs.table.table_is_enough.Goals as goal

pub returns : goal.returns
returns c = table_accepted
