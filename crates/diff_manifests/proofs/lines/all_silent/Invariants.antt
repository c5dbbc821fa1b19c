use Rattle.std.proofs.Common.{◌≡◌, length}
use Rattle.std.specs.List.{list_all}
use Rattle.diff_manifests.specs.Texts.{is_silent}
use Rattle.diff_manifests.proofs.lines.all_silent.Given as goal

abbrev pub invariant-loop-left : goal.invariant-loop-left
invariant-loop-left l = list_all is_silent l.left ≡ list_all is_silent l.diffs

abbrev pub decreases-loop-left : goal.decreases-loop-left
decreases-loop-left l = length l.left
