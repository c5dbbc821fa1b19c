use Rattle.std.proofs.Common.{◌≡◌, ◌+◌, ◌++◌, length}
use Rattle.warnings.specs.Releases.{releases_from}
use Rattle.warnings.proofs.release.push_release_warnings.Given as goal

abbrev pub invariant-loop-left : goal.invariant-loop-left
invariant-loop-left l = record {
  so_far : l.warnings.items ++ releases_from l.app l.number l.left
      ≡ l.initial.warnings.items ++ releases_from l.app 1 l.releases;
  within : l.number + length l.left ≡ 1 + length l.releases;
}

abbrev pub decreases-loop-left : goal.decreases-loop-left
decreases-loop-left l = length l.left
