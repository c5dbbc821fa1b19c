use Rattle.std.proofs.Common.{rules}
use Rattle.stage_rules.proofs.KnownOffers.{known_halted, known_program}
use Rattle.stage_rules.proofs.known_offers.known_offer.Goals as goal

pub returns-then-is_halting_file : goal.returns-then-is_halting_file
returns-then-is_halting_file c =
    known_halted c.args.app.now c.args.version.now c.in-Some.bytes.now (search rules)
    (search rules)

pub returns-in-Program : goal.returns-in-Program
returns-in-Program c =
    known_program c.args.app.now c.args.version.now c.in-Some.bytes.now c.in-Program.field-0
    (search rules) (search rules) (search rules)
