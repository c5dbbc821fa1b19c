use Rattle.abs_value.proofs.Computes.{refined_includes}
use Rattle.abs_value.proofs.laws.edges_are_kept.Goals as goal

pub returns : goal.returns
returns c = refined_includes
