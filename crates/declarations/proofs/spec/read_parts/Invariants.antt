use Rattle.std.proofs.Common.{◌≡◌, ◌++◌, map, length}
use Rattle.std.specs.Prelude.{option_map}
use Rattle.declarations.specs.Spec as specs
use Rattle.declarations.proofs.spec.read_parts.Given as goal

-- the declarations so far, with those of the remaining parts, are all
abbrev pub invariant-loop-rest : goal.invariant-loop-rest
invariant-loop-rest l =
    specs.of_parts (map (λ part. part.now) l.parts)
    ≡ option_map (λ ds. l.declarations.items ++ ds) (specs.of_parts (map (λ part. part.now) l.rest))

abbrev pub decreases-loop-rest : goal.decreases-loop-rest
decreases-loop-rest l = length l.rest
