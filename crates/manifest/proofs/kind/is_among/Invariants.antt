use Rattle.std.proofs.Common.{◌≡◌, map, length}
use Rattle.std.specs.List.{list_any}
use Rattle.std.specs.Str.{bytes_eq}
use Rattle.manifest.proofs.kind.is_among.Given as goal

-- none of the keys so far is it
abbrev pub invariant-loop-left : goal.invariant-loop-left
invariant-loop-left l =
    list_any (bytes_eq l.key) (map (λ other. other.now) l.left)
    ≡ list_any (bytes_eq l.key) (map (λ other. other.now) l.keys)

abbrev pub decreases-loop-left : goal.decreases-loop-left
decreases-loop-left l = length l.left
