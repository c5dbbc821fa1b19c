use Rattle.std.proofs.Common.{rules}
use Rattle.stage_rules.proofs.KnownOffers.{known_rule}
use Rattle.stage_rules.proofs.known_offers.known_of_rule.Goals as goal

pub returns-in-Ok-parse : goal.returns-in-Ok-parse
returns-in-Ok-parse c =
    let (file, is) = c.requires.rule in
    known_rule c.args.app.now c.args.version.now c.args.bytes.now file c.in-Ok-parse.rule
    c.is_offered.result is c.requires.whole (search rules) (search rules)
