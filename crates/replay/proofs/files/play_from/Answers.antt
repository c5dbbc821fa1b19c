use Rattle.std.specs.Arc.{arc_value}
use Rattle.world.specs.World.{opening_world}
use Rattle.replay.proofs.files.play_from.Goals as goal

pub returns-in-Ok-play_lines : goal.returns-in-Ok-play_lines
returns-in-Ok-play_lines c =
    c.in-Ok-play_lines.ensures (opening_world (arc_value c.args.first) 64) c.in-Ok.ensures.opening
