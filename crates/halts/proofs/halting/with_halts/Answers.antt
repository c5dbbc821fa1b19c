use Rattle.std.proofs.Common.{◌∙◌, ap, map, string_bytes}
use Rattle.halts.specs.Halts.{served_apps}
use Rattle.halts.proofs.Served.{distinct}
use Rattle.halts.proofs.halting.with_halts.Goals as goal

pub from_distinct-requires : goal.from_distinct-requires
from_distinct-requires c =
    let halted = map string_bytes c.args.halted.now in
    distinct halted c.args.rules.now.apps c.in-Ok-served_list.apps.items
    (c.in-Ok-served_list.ensures ∙ ap (served_apps halted) c.apps.ensures)
    c.invariant_law.ensures.once
