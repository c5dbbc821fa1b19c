use Rattle.std.proofs.Common.{◌≡◌, length}
use Rattle.std.specs.List.{list_any}
use Rattle.diff_manifests.specs.Reports.{loses}
use Rattle.diff_manifests.proofs.app_diff.some_lose.Given as goal

abbrev pub invariant-loop-left : goal.invariant-loop-left
invariant-loop-left l =
    list_any loses l.left ≡ list_any loses l.diffs

abbrev pub decreases-loop-left : goal.decreases-loop-left
decreases-loop-left l = length l.left
