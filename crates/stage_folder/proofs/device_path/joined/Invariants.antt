use Rattle.std.proofs.Common.{◌≡◌, ◌++◌, length, map}
use Rattle.std.specs.List.{join_with_byte}
use Rattle.std.specs.Prelude.{string_bytes}
use Rattle.stage_folder.proofs.device_path.joined.Given as goal

-- what is joined, followed by what is left, is all
abbrev pub invariant-loop-left : goal.invariant-loop-left
invariant-loop-left l =
    string_bytes l.name ++ join_with_byte 47 (map (λ part. part.now) l.left)
    ≡ join_with_byte 47 (map (λ part. part.now) l.parts)

abbrev pub decreases-loop-left : goal.decreases-loop-left
decreases-loop-left l = length l.left
