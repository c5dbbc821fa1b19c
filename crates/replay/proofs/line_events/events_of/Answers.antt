use Rattle.std.proofs.Common.{rules, ◌≡◌, Err}
use Rattle.replay.proofs.Sharing.{none_shared}
use Rattle.replay.proofs.Walk.{begins, goes_on, ends, fails}
use Rattle.replay.specs.LineEvents.{no_memory}
use Rattle.replay.proofs.line_events.events_of.Goals as goal

pub loop-line-init : goal.loop-line-init
loop-line-init g c = record {
  leads = rw c.new-events.ensures.items (begins _ _ _);
  shared = none_shared (g.D.Disk.known c.args.disk.now) c.args.directory.now
      c.new-shared.result.loads.items c.new-shared.ensures;
}

pub returns-in_err-event-clause-fault : goal.returns-in_err-event-clause-fault
returns-in_err-event-clause-fault g c =
    let answered : c.from_residual.result ≡ Err c.in_err-event.field-0.0 = search rules in
    rw answered
    (fails (g.D.Disk.known c.args.disk.now) c.args.lines.now c.loop-line.line-index
    c.line-item.result c.args.directory.now c.loop-line.directory c.loop-line.events.items
    c.in_err-event.field-0.0 c.loop-line-test.true c.line-item.is c.loop-line.invariant.leads
    c.in_err-event.ensures.fault)

pub returns-in_default-clause-fault : goal.returns-in_default-clause-fault
returns-in_default-clause-fault g c = no_memory

pub loop-line-preserved : goal.loop-line-preserved
loop-line-preserved g c = record {
  leads =
      goes_on (g.D.Disk.known c.args.disk.now) c.args.lines.now c.loop-line.line-index
      c.line-item.result c.args.directory.now c.loop-line.directory c.event_of.new.directory
      c.loop-line.events.items c.push.new.self.items c.in_ok-event.event c.loop-line-test.true
      c.line-item.is c.in-Ok.ensures.items c.loop-line.invariant.leads
      c.in_ok-event.ensures.event;
  shared = c.in_ok-event.ensures.shared;
}

pub returns-clause-events : goal.returns-clause-events
returns-clause-events g c =
    ends (g.D.Disk.known c.args.disk.now) c.args.lines.now c.loop-line.line-index
    c.args.directory.now c.loop-line.directory c.loop-line.events.items c.loop-line-test.false
    c.loop-line.invariant.leads
