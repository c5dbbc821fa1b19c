use Rattle.std.proofs.Common.{take}
use Rattle.declarations.specs.Order.{AreDeclared}
use Rattle.declarations.proofs.declare.declare_all.Given as goal

abbrev pub invariant-loop-before : goal.invariant-loop-before
invariant-loop-before l =
    AreDeclared l.initial.directory (take l.before l.declarations) l.numbers.items l.directory
