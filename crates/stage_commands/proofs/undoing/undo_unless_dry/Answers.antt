use Rattle.std.proofs.Common.{refl}
use Rattle.stage_servers.specs.declared.outcome.Stop.TheVariants as stop
use Rattle.stage_commands.proofs.Left.{unchanged}
use Rattle.stage_commands.proofs.undoing.undo_unless_dry.Goals as goal

pub returns-then-not-are_complete-clause-stopped :
    goal.returns-then-not-are_complete-clause-stopped
returns-then-not-are_complete-clause-stopped g c =
    unchanged _ stop.Memory _ _ _ _ tt refl refl
