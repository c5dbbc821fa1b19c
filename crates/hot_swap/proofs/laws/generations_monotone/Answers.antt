use Rattle.hot_swap.proofs.Generations.{never_goes_back, has_one_ruleset, shorter_begins}
use Rattle.hot_swap.proofs.laws.generations_monotone.Goals as goal

pub returns-clause-back : goal.returns-clause-back
returns-clause-back c = never_goes_back

pub returns-clause-one : goal.returns-clause-one
returns-clause-one c = has_one_ruleset

pub returns-clause-begins : goal.returns-clause-begins
returns-clause-begins c = shorter_begins
