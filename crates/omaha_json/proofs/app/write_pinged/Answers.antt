use Rattle.omaha_json.proofs.Added.{then_adds}
use Rattle.omaha_json.proofs.app.write_pinged.Goals as goal

pub returns : goal.returns
returns c = rw c.if-not-ping.false
    (then_adds c.in_ok-write_tokens.ensures
    (then_adds c.in_ok-write_status.ensures c.in_ok-write_answered.ensures))
