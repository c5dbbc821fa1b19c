use Rattle.diff_text.proofs.Tabled.{both_is}
use Rattle.diff_text.proofs.parts.both.Goals as goal

pub returns : goal.returns
returns c = λ ds all others.
    both_is ds c.args.first c.args.second c.in_ok-part.part c.in-Some.table c.in-Some.ensures
    (λ f u. c.in_ok-part.ensures ds f u) all others
