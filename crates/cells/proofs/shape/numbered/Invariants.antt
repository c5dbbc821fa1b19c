use Rattle.std.proofs.Common.{take}
use Rattle.cells.specs.Arrays.{AreNumbered}
use Rattle.cells.proofs.shape.numbered.Given as goal

abbrev pub invariant-loop-number : goal.invariant-loop-number
invariant-loop-number l = AreNumbered l.arrays (take l.number-index l.numbers) l.kept.items
