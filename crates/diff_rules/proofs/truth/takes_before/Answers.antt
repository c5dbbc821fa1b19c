use Rattle.std.proofs.Common.{◌∙◌, sym}
use Rattle.diff_rules.proofs.Takes.{count_by_reverse}
use Rattle.diff_rules.proofs.truth.takes_before.Goals as goal

pub returns : goal.returns
returns c = c.takes_of.ensures ∙ sym (count_by_reverse _ c.args.taken.now)
