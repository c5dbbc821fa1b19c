use Rattle.std.proofs.Common.{length}
use Rattle.rule_compile.proofs.texts.«+put_stores».Given as goal

abbrev pub decreases-put_stores : goal.decreases-put_stores
decreases-put_stores l = length l.text.now
