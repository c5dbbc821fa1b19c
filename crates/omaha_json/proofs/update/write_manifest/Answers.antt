use Rattle.omaha_json.proofs.Added.{then_adds}
use Rattle.omaha_json.proofs.update.write_manifest.Goals as goal

pub returns : goal.returns
returns c =
    rw (← c.packages.ensures, ← c.version.ensures)
    (then_adds c.in_ok-write_tokens.ensures
    (then_adds c.in_ok-write_packages.ensures c.in_ok-write_tokens-2.ensures))
