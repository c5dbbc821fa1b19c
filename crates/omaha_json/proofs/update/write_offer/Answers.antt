use Rattle.omaha_json.proofs.Added.{then_adds}
use Rattle.omaha_json.proofs.update.write_offer.Goals as goal

pub returns : goal.returns
returns c =
    rw (← c.codebase.ensures)
    (then_adds c.in_ok-write_tokens.ensures
    (then_adds c.in_ok-write_manifest.ensures
    (then_adds c.in_ok-write_tokens-2.ensures
    (then_adds c.in_ok-write_urls.ensures c.in_ok-write_tokens-3.ensures))))
