use Rattle.std.proofs.Common.{◌≡◌, map, length}
use Rattle.manifest.specs.DuplicateNames.{repeated}
use Rattle.manifest.proofs.duplicate.repeated_name.Given as goal

-- no name so far occurs again
abbrev pub invariant-loop-rest : goal.invariant-loop-rest
invariant-loop-rest g l =
    repeated (map g.N.Named.name_of l.rest) ≡ repeated (map g.N.Named.name_of l.list)

abbrev pub decreases-loop-rest : goal.decreases-loop-rest
decreases-loop-rest g l = length l.rest
