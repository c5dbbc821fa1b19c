use Rattle.std.proofs.Common.{length}
use Rattle.rule_lang.proofs.phrase.«+tokens_after».Given as goal

abbrev pub decreases-tokens_after : goal.decreases-tokens_after
decreases-tokens_after l = length l.wants.now
