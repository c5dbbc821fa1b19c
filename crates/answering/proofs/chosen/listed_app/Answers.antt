use Rattle.std.proofs.Common.{ap, ◌∙◌}
use Rattle.omaha_json.specs.Found.{found_with}
use Rattle.answering.proofs.Found.{listed_is}
use Rattle.answering.proofs.chosen.listed_app.Goals as goal

pub returns : goal.returns
returns c facts is =
    let bucket = c.named_or_hashed-bucket in
    let lent = ap (λ releases. found_with releases c.args.choice bucket.result)
    c.releases.ensures.lent in
    listed_is facts c.args.app.now c.facts.result.now c.args.choice c.args.known.now
    c.args.hashed bucket.result c.new.result is c.facts.ensures bucket.ensures
    (c.new.ensures ∙ lent)
