use Rattle.abs_value.proofs.Known.{covers_later, stays_before, answers_before}
use Rattle.abs_value.proofs.laws.answers_are_kept.Goals as goal

pub returns : goal.returns
returns c = record { later = covers_later; before = stays_before; next = answers_before }
