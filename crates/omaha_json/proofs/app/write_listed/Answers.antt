use Rattle.omaha_json.proofs.Added.{then_adds}
use Rattle.omaha_json.proofs.app.write_listed.Goals as goal

pub returns : goal.returns
returns c =
    rw (
      ← c.bucket.ensures,
      ← c.appid.ensures,
      ← c.cohort_text-cohort.ensures.value,
      ← c.as_text.ensures,
      ← c.releases.ensures,
      ← c.choice.ensures,
      ← c.facts.ensures,
    )
    (then_adds c.in_ok-write_tokens.ensures c.in_ok-write_pinged.ensures)
