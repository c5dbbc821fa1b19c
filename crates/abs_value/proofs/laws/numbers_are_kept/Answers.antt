use Rattle.abs_value.proofs.Tidy.{tidy_holds, tidy_only, not_empty, tidied_holds, tidied_only}
use Rattle.abs_value.proofs.laws.numbers_are_kept.Goals as goal

pub returns : goal.returns
returns c = record {
  tidy = record { keeps = tidy_holds; adds_none = tidy_only };
  tidied = record { keeps = tidied_holds; adds_none = tidied_only };
  empty = not_empty;
}
