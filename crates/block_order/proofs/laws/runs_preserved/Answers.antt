use Rattle.block_order.proofs.Runs.{do_alike}
use Rattle.block_order.proofs.laws.runs_preserved.Goals as goal

pub returns : goal.returns
returns c = λ places p q order. do_alike places p q order
