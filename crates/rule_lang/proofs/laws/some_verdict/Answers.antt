use Rattle.rule_lang.proofs.Ending.{verdict_some}
use Rattle.rule_lang.proofs.laws.some_verdict.Goals as goal

pub returns : goal.returns
returns c = verdict_some
