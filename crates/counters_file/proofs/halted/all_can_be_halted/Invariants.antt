use Rattle.std.proofs.Common.{map, length}
use Rattle.std.specs.Prelude.{All, string_bytes}
use Rattle.counters_file.specs.Halts.{CanBeHalted}
use Rattle.counters_file.proofs.halted.all_can_be_halted.Given as goal

-- all can be halted if those that are left can
abbrev pub invariant-loop-left : goal.invariant-loop-left
invariant-loop-left l =
    All CanBeHalted (map string_bytes l.left) → All CanBeHalted (map string_bytes l.fn.appids)

abbrev pub decreases-loop-left : goal.decreases-loop-left
decreases-loop-left l = length l.left
