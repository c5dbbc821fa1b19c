use Rattle.std.proofs.Common.{map, string_bytes}
use Rattle.stage_commands.proofs.PutPlan.{lifts_none, plans}
use Rattle.stage_commands.proofs.puts.planned_files.Goals as goal

pub returns : goal.returns
returns g c =
    let known = g.D.Disk.known c.args.call.now.disk.now in
    let current = c.args.call.now.manifest.now in
    let folder = g.F.StageFolder.files c.args.folder.now in
    let next = c.in_ok-next.next in
    let are = rw (c.deref.ensures.value, c.deref-2.ensures.value) at c.in_ok-files.ensures in
    let by = rw c.deref-3.ensures.value at c.in_ok-lifted.ensures in
    let judged = rw c.deref-4.ensures.value at c.in_ok-next-2.ensures.judged in
    plans known current c.args.manifest.now folder c.args.steps.now
    c.args.call.now.options.now.anyway c.in_ok-files.files.items next c.in_ok-next.ensures
    (record { judged = c.in_ok-next-2.next; is_judged = judged }) are
    (λ plain. lifts_none known current folder c.args.steps.now c.present_manifest-present.result
    next.sources.apps.items (map string_bytes c.in_ok-lifted.lifted.items)
    c.present_manifest-present.ensures (c.in_ok-compare_next.ensures plain) by
    (c.in_ok-stop_if_lifted.ensures plain))
