use Rattle.omaha_json.proofs.Added.{then_adds}
use Rattle.omaha_json.proofs.reply.write_daystart.Goals as goal

pub returns : goal.returns
returns c =
    rw (← c.elapsed_at-elapsed.ensures.days, ← c.elapsed_at-elapsed.ensures.seconds)
    (then_adds c.in_ok-write_tokens.ensures
    (then_adds c.in_ok-write_number.ensures
    (then_adds c.in_ok-write_number-2.ensures c.in_ok-write_tokens-2.ensures)))
