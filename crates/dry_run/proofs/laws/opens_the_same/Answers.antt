use Rattle.dry_run.proofs.Opening.{opens_the_same}
use Rattle.dry_run.proofs.laws.opens_the_same.Goals as goal

pub returns : goal.returns
returns c = opens_the_same c.opened_is_made.ensures c.sources_are_made.ensures
