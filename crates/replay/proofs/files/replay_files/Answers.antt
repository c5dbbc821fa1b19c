use Rattle.std.proofs.Common.{rules, ◌≡◌, Err}
use Rattle.std.specs.Arc.{arc_value}
use Rattle.replay.specs.Replays.{of_memory, of_script, of_manifest, of_swap}
use Rattle.replay.proofs.files.replay_files.Goals as goal

pub returns-in_err-lines-clause-fault : goal.returns-in_err-lines-clause-fault
returns-in_err-lines-clause-fault g c =
    let answered : c.from_residual.result ≡ Err c.in_err-lines.field-0.0 = search rules in
    rw answered (of_script c.in_err-lines.ensures.fault)

pub returns-in_err-first-clause-fault : goal.returns-in_err-first-clause-fault
returns-in_err-first-clause-fault g c =
    let answered : c.from_residual-in_err-first.result ≡ Err c.in_err-first.field-0.0
    = search rules in
    rw answered
    (of_manifest c.in_ok-lines.lines.items c.in_ok-lines.ensures.lines
    (rw c.new-directory.ensures at c.in_err-first.ensures.fault))

pub returns-in_err-events-clause-fault : goal.returns-in_err-events-clause-fault
returns-in_err-events-clause-fault g c =
    let answered : c.from_residual-in_err-events.result ≡ Err c.in_err-events.field-0.0
    = search rules in
    rw answered
    (of_swap c.in_ok-lines.lines.items (arc_value c.in_ok-first.first) c.load_rules.new.directory
    c.in_ok-lines.ensures.lines (rw c.new-directory.ensures at c.in_ok-first.ensures.rules)
    (rw c.deref.ensures.value at c.in_err-events.ensures.fault))

pub returns-clause-fault : goal.returns-clause-fault
returns-clause-fault g c = of_memory
