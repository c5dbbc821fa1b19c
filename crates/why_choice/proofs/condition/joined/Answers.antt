use Rattle.why_choice.proofs.Reading.{followed_made}
use Rattle.why_choice.proofs.condition.joined.Goals as goal

pub returns-then-counts : goal.returns-then-counts
returns-then-counts c = λ r q before between first second.
    followed_made c.args.counts r q before between c.args.counters.now c.args.first c.args.second
    c.followed.result c.if-counts.true c.followed.ensures first second
