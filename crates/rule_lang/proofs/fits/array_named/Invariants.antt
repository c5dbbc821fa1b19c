use Rattle.std.proofs.Common.{◌≡◌, drop}
use Rattle.rule_lang.specs.Shapes.{array_named}
use Rattle.rule_lang.proofs.fits.array_named.Given as goal

-- the first array with this name is among the remaining arrays
abbrev pub invariant-loop-array : goal.invariant-loop-array
invariant-loop-array l =
    array_named l.name (drop l.array-index l.arrays) ≡ array_named l.name l.arrays
