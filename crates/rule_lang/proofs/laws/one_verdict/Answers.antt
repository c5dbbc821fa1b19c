use Rattle.rule_lang.proofs.Verdicts.{verdict_once}
use Rattle.rule_lang.proofs.laws.one_verdict.Goals as goal

pub returns : goal.returns
returns c = verdict_once
