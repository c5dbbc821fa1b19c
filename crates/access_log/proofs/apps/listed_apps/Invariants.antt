use Rattle.std.proofs.Common.{◌≡◌, drop}
use Rattle.access_log.specs.Apps.{fitting}
use Rattle.access_log.proofs.apps.listed_apps.Given as goal

-- the apps so far fit, and with those that fit in what is left they are all that fit
abbrev pub invariant-loop-app : goal.invariant-loop-app
invariant-loop-app l =
    (l.count ≡ l.app-index)
    × (fitting l.count l.room (drop l.app-index l.apps) ≡ fitting 0 3641 l.apps)
    × (l.line ≡ l.initial.line)
