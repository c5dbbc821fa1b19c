use Rattle.omaha_json.proofs.Added.{then_adds}
use Rattle.omaha_json.proofs.update.write_package.Goals as goal

pub returns : goal.returns
returns c =
    rw (← c.hash_sha256.ensures, ← c.name.ensures, ← c.required.ensures, ← c.size.ensures)
    (then_adds c.in_ok-write_tokens.ensures
    (then_adds c.in_ok-write_number.ensures c.in_ok-write_tokens-2.ensures))
