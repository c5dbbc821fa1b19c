use Rattle.std.proofs.Common.{◌≡◌, length, map, string_bytes}
use Rattle.halts.specs.Halts.{is_named}
use Rattle.halts.proofs.halted_list.is_halted.Given as goal

-- what is left decides
abbrev pub invariant-loop-left : goal.invariant-loop-left
invariant-loop-left l =
    is_named (map string_bytes l.left) l.appid ≡ is_named (map string_bytes l.halted) l.appid

abbrev pub decreases-loop-left : goal.decreases-loop-left
decreases-loop-left l = length l.left
