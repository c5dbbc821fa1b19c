use Rattle.std.proofs.Common.{◌≡◌, ◌+◌, ◌≤◌, drop}
use Rattle.access_log.proofs.AddedApps.{Completes}
use Rattle.access_log.specs.Apps.{more_left_out}
use Rattle.access_log.proofs.apps.write_each.Given as goal

-- the apps from here on complete the list, and the count
abbrev pub invariant-loop-app : goal.invariant-loop-app
invariant-loop-app l =
    Completes l.comma l.initial.line l.line l.fn.room l.room l.app-index l.apps
    × (l.more_left_out + more_left_out l.room (drop l.app-index l.apps)
    ≡ more_left_out l.fn.room l.apps)
    × (l.more_left_out ≤ l.app-index)
