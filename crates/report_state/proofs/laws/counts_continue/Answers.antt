use Rattle.report_state.proofs.Continue.{continued}
use Rattle.report_state.proofs.laws.counts_continue.Goals as goal

pub returns : goal.returns
returns c = continued
