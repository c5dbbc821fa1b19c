use Rattle.std.proofs.Common.{◌≡◌, ◌++◌, length, map, string_bytes}
use Rattle.halts.specs.Halts.{without}
use Rattle.halts.proofs.halted_list.push_others.Given as goal

-- what was copied, followed by the copies of what is left, is all
abbrev pub invariant-loop-left : goal.invariant-loop-left
invariant-loop-left l =
    map string_bytes l.list.items ++ without l.appid (map string_bytes l.left)
    ≡ map string_bytes l.initial.list.items ++ without l.appid (map string_bytes l.halted)

abbrev pub decreases-loop-left : goal.decreases-loop-left
decreases-loop-left l = length l.left
