use Rattle.std.proofs.Common.{◌≡◌, ◌++◌, List, length, option_map}
use Rattle.serde_json.specs.View.{items_view}
use Rattle.why_log.specs.Requests as specs
use Rattle.why_log.specs.declared.line_app.LineApp.{LineApp}
use Rattle.why_log.proofs.line_request.apps_in.Given as goal

-- the apps so far, and those of the values that are left
abbrev pub invariant-loop-left : goal.invariant-loop-left
invariant-loop-left l =
    option_map (λ (apps : List LineApp). l.apps.items ++ apps) (specs.apps_in (items_view l.left))
    ≡ specs.apps_in (items_view l.values)

abbrev pub decreases-loop-left : goal.decreases-loop-left
decreases-loop-left l = length l.left
