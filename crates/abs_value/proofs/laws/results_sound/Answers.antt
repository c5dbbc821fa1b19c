use Rattle.abs_value.proofs.Computes.{alu_includes, copied_includes, negated_includes}
use Rattle.abs_value.proofs.Computes.{extended_includes, reordered_includes}
use Rattle.abs_value.proofs.ResultsHold.{single_holds, up_to_holds}
use Rattle.abs_value.proofs.Loads.{loaded_includes}
use Rattle.abs_value.proofs.laws.results_sound.Goals as goal

pub returns : goal.returns
returns c = record {
  alu = alu_includes c.results_fit.ensures;
  copied = copied_includes;
  negated = negated_includes c.results_fit.ensures;
  extended = extended_includes;
  reordered = reordered_includes;
  loaded = loaded_includes;
  single = single_holds;
  up_to = up_to_holds;
}
