use Rattle.std.proofs.Common.{◌≡◌, take, string_bytes}
use Rattle.dry_run.specs.Why.{ExplainsAll}
use Rattle.dry_run.proofs.why.explain_apps.Given as goal

-- the lines so far are those of the apps that were passed
abbrev pub invariant-loop-app : goal.invariant-loop-app
invariant-loop-app l =
    (l.place ≡ l.app-index)
    × ExplainsAll l.manifest l.facts l.moment l.initial.counters (take l.app-index l.apps)
    l.counters (string_bytes l.text)
