use Rattle.std.proofs.Common.{◌≡◌, length}
use Rattle.serde_json.specs.View.{items_view}
use Rattle.why_log.specs.Machine as specs
use Rattle.why_log.proofs.machine.any_in.Given as goal

-- one of those that are left is in the bucket if one of all is
abbrev pub invariant-loop-left : goal.invariant-loop-left
invariant-loop-left l =
    specs.any_in l.bucket (items_view l.left) ≡ specs.any_in l.bucket (items_view l.apps)

abbrev pub decreases-loop-left : goal.decreases-loop-left
decreases-loop-left l = length l.left
