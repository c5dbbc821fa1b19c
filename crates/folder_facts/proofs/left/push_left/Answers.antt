use Rattle.folder_facts.proofs.LeftDigests.{one_more}
use Rattle.folder_facts.proofs.left.push_left.Goals as goal

pub returns-in_ok-push-in-Some-2 : goal.returns-in_ok-push-in-Some-2
returns-in_ok-push-in-Some-2 g c = λ are.
    one_more (g.D.Disk.known c.args.recorded.now.disk.now) c.args.recorded.now.manifest.now
    c.args.recorded.now.steps.now c.args.first c.args.count c.in_ok-files.files.items
    c.deref.result.now c.in-Some.collected c.in_ok-digest.field-0 c.in-Some-2.digest
    c.args.digests.now.items c.push.new.self.items c.in_ok-files.ensures c.deref.ensures.value
    c.in-Some.ensures c.in_ok-digest.ensures c.in-Some-2.is
    c.in_ok-push-in-Some-2.ensures.items are
