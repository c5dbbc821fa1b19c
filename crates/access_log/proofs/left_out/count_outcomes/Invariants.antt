use Rattle.std.proofs.Common.{◌≡◌, ◌+◌, ◌≤◌, drop}
use Rattle.access_log.specs.Apps.{offers_in, unknown_in}
use Rattle.access_log.proofs.left_out.count_outcomes.Given as goal

abbrev pub invariant-loop-app : goal.invariant-loop-app
invariant-loop-app l =
    (l.offers + offers_in (drop l.app-index l.apps) ≡ offers_in l.apps)
    × (l.unknown + unknown_in (drop l.app-index l.apps) ≡ unknown_in l.apps)
    × (l.offers ≤ l.app-index) × (l.unknown ≤ l.app-index)
