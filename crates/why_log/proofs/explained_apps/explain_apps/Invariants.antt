use Rattle.std.proofs.Common.{◌++◌, List, ℕ, length, string_bytes}
use Rattle.why_log.specs.Explained.{ExplainsApps}
use Rattle.why_log.proofs.explained_apps.explain_apps.Given as goal

-- what explains the apps that are left, after the text so far, explains all
abbrev pub invariant-loop-left : goal.invariant-loop-left
invariant-loop-left l = (new rest : List ℕ)
    → ExplainsApps l.manifest l.moment l.left l.counters new rest
    → ExplainsApps l.manifest l.moment l.apps l.fn.counters new (string_bytes l.text ++ rest)

abbrev pub decreases-loop-left : goal.decreases-loop-left
decreases-loop-left l = length l.left
