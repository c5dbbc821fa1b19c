use Rattle.abs_value.proofs.Known.{covers_answered}
use Rattle.abs_value.proofs.KnownEdges.{covers_edge}
use Rattle.abs_value.proofs.laws.lookups_sound.Goals as goal

pub returns : goal.returns
returns c = record { answered = covers_answered; edges = covers_edge }
