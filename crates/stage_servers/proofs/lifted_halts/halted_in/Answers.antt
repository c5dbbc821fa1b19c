use Rattle.std.proofs.Common.{map, string_bytes}
use Rattle.stage_servers.proofs.Halted.{are_halted}
use Rattle.stage_servers.proofs.lifted_halts.halted_in.Goals as goal

pub returns-in-Ok-named : goal.returns-in-Ok-named
returns-in-Ok-named g c =
    let named = map string_bytes c.in-Ok-named.named.items in
    are_halted _ _ _ c.in-Ok.recorded c.in-Ok-collected_now.present named c.in-Ok.ensures
    c.in-Ok-collected_now.ensures (rw c.deref.ensures.value at c.in-Ok-named.ensures)
