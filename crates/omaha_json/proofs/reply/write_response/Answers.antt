use Rattle.omaha_json.proofs.Added.{then_adds}
use Rattle.omaha_json.proofs.reply.write_response.Goals as goal

pub returns : goal.returns
returns c =
    then_adds c.in_ok-write_tokens.ensures
    (then_adds c.in_ok-write_apps.ensures
    (then_adds c.in_ok-write_tokens-2.ensures
    (then_adds c.in_ok-write_daystart.ensures c.in_ok-write_tokens-3.ensures)))
