use Rattle.std.proofs.Common.{◌≡◌, ◌+◌, ◌≤◌, length}
use Rattle.why_refused_rule.specs.Followers.{line_at, line_feeds}
use Rattle.why_refused_rule.proofs.place.line_at.Given as goal

abbrev pub invariant-loop-left : goal.invariant-loop-left
invariant-loop-left l = record {
  so_far : l.line + line_feeds l.left ≡ line_at l.before;
  within : l.line + length l.left ≤ 1 + length l.before;
}

abbrev pub decreases-loop-left : goal.decreases-loop-left
decreases-loop-left l = length l.left
