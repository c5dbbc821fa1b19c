use Rattle.std.proofs.Common.{length}
use Rattle.rule_compile.proofs.versions.«+put_order».Given as goal

abbrev pub decreases-put_order : goal.decreases-put_order
decreases-put_order l = length l.numbers.now
