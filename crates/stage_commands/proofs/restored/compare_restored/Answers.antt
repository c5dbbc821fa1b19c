use Rattle.std.proofs.Common.{ap, map, string_bytes, subst}
use Rattle.stage_commands.specs.Befores.{WasGathered}
use Rattle.stage_commands.proofs.Then.{undoing_lifts_none}
use Rattle.stage_commands.proofs.restored.compare_restored.Goals as goal

pub returns-in_ok-compare_if-in-Ok-stop_if_lifted :
    goal.returns-in_ok-compare_if-in-Ok-stop_if_lifted
returns-in_ok-compare_if-in-Ok-stop_if_lifted g c = λ plain.
    let known = g.D.Disk.known c.args.call.now.disk.now in
    let current = c.args.call.now.manifest.now in
    let before = c.in-Ok-collected_before.before in
    let was = subst (λ files. WasGathered known current files before)
    (ap (λ s. s.files) c.step.view_is)
    (rw c.deref.ensures.value at c.in-Ok-collected_before.ensures) in
    undoing_lifts_none known current c.args.steps.now c.args.step.now c.in-Ok.present before
    (map string_bytes c.in-Ok-lifted_by_undoing.lifted.items) c.in-Ok-lifted_by_undoing.ensures
    c.in-Ok.ensures was (c.in-Ok-stop_if_lifted.ensures plain)
