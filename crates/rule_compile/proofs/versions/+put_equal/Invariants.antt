use Rattle.std.proofs.Common.{length}
use Rattle.rule_compile.proofs.versions.«+put_equal».Given as goal

abbrev pub decreases-put_equal : goal.decreases-put_equal
decreases-put_equal l = length l.numbers.now
