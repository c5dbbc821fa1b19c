use Rattle.serde_json.specs.View.{view}
use Rattle.why_log.proofs.Kept.{keeps_newest, keeps_pushed}
use Rattle.why_log.proofs.finding.FoundLines.keep.Goals as goal

pub returns-then-len-self : goal.returns-then-len-self
returns-then-len-self c =
    keeps_newest c.args.machine.now c.in_ok-found.found c.args.line.now (view c.args.event.now)
    c.in_ok-found.ensures c.requires.json c.requires.sent c.args.self.now _
    c.push.new.self.items c.in_ok-push.ensures.items c.remove-oldest.ensures.items

pub returns-else-len-self : goal.returns-else-len-self
returns-else-len-self c =
    keeps_pushed c.args.machine.now c.in_ok-found.found c.args.line.now (view c.args.event.now)
    c.in_ok-found.ensures c.requires.json c.requires.sent c.args.self.now _
    c.in_ok-push.ensures.items
