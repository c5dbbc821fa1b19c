use Rattle.std.proofs.Common.{◌≡◌, map, length}
use Rattle.std.specs.List.{list_any}
use Rattle.std.specs.Str.{bytes_eq}
use Rattle.manifest.proofs.duplicate.has_name.Given as goal

-- none so far has the name
abbrev pub invariant-loop-rest : goal.invariant-loop-rest
invariant-loop-rest g l =
    list_any (bytes_eq l.name) (map g.N.Named.name_of l.rest)
    ≡ list_any (bytes_eq l.name) (map g.N.Named.name_of l.list)

abbrev pub decreases-loop-rest : goal.decreases-loop-rest
decreases-loop-rest g l = length l.rest
