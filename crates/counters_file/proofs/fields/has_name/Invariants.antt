use Rattle.std.proofs.Common.{◌≡◌, length}
use Rattle.counters_file.specs.Lines as specs
use Rattle.counters_file.proofs.fields.has_name.Given as goal

abbrev pub invariant-loop-left : goal.invariant-loop-left
invariant-loop-left l = specs.has_name l.fn.arrays l.name ≡ specs.has_name l.left l.name

abbrev pub decreases-loop-left : goal.decreases-loop-left
decreases-loop-left l = length l.left
