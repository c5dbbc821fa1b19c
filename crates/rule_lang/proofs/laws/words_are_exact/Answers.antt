use Rattle.rule_lang.proofs.Exact.{words_exact}
use Rattle.rule_lang.proofs.laws.words_are_exact.Goals as goal

pub returns : goal.returns
returns c = words_exact
