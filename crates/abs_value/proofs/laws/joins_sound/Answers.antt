use Rattle.abs_value.proofs.Writes.{covers_join_left, covers_join_right}
use Rattle.abs_value.proofs.laws.joins_sound.Goals as goal

pub returns : goal.returns
returns c = record { first = covers_join_left; second = covers_join_right }
