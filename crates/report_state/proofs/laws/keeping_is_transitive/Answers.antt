use Rattle.report_state.proofs.Kept.{kept_all, kept_on}
use Rattle.report_state.proofs.laws.keeping_is_transitive.Goals as goal

pub returns-clause-none : goal.returns-clause-none
returns-clause-none c = kept_all

pub returns-clause-both : goal.returns-clause-both
returns-clause-both c = kept_on
