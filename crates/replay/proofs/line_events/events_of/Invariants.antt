use Rattle.std.proofs.Common.{drop}
use Rattle.replay.specs.Loaded.{AreShared}
use Rattle.replay.proofs.Walk.{Leads}
use Rattle.replay.proofs.line_events.events_of.Given as goal

-- the events of the lines so far, and loads that further lines may share
abbrev pub invariant-loop-line : goal.invariant-loop-line
invariant-loop-line g l = record {
  leads :
      Leads (g.D.Disk.known l.disk) l.lines (drop l.line-index l.lines) l.initial.directory
      l.directory l.events.items;
  shared : AreShared (g.D.Disk.known l.disk) l.directory l.shared.loads.items;
}
