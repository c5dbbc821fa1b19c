use Rattle.std.proofs.Common.{◌≡◌, length}
use Rattle.timeline.proofs.app_layers.draw_layers.Given as goal

-- there is a number for each bin
abbrev pub invariant-loop-version : goal.invariant-loop-version
invariant-loop-version l = record {
  below : length l.below ≡ l.source.bins.count;
  above : length l.above ≡ l.source.bins.count;
}
