use Rattle.omaha_json.proofs.Added.{then_adds}
use Rattle.omaha_json.proofs.update.write_packages.Goals as goal

pub returns : goal.returns
returns c =
    then_adds c.in_ok-write_tokens.ensures
    (then_adds c.in_ok-write_each.ensures c.in_ok-write_tokens-2.ensures)
