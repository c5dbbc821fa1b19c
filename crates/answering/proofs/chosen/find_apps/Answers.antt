use Rattle.std.proofs.Common.{◌≡◌, ◌<◌, ◌++◌, ◌∷◌, [], length, arith, rules, ap, ◌∙◌}
use Rattle.std.proofs.lemmas.Grind.{common_steps}
use Rattle.answering.proofs.Found.{found_length, found_last, found_next}
use Rattle.answering.proofs.chosen.find_apps.Goals as goal

pub loop-i-preserved : goal.loop-i-preserved
loop-i-preserved c =
    let grown : c.push.new.self.items ≡ c.loop-i.found.items ++ c.find_app.result ∷ [] =
    first_of (search rules, grind common_steps) in
    let some : c.loop-i.i < length c.args.apps.now = omega arith in
    found_next c.args.rules.now c.args.facts.now c.args.apps.now c.args.choices.now c.requires
    c.loop-i.i c.index-apps-i.result c.choice_at.result _ _ _ some c.index-apps-i.is
    c.choice_at.ensures grown (c.find_app.ensures c.args.facts.now c.hashed_bucket-hashed.ensures)
    c.loop-i.invariant

pub returns-clause-found : goal.returns-clause-found
returns-clause-found c =
    found_last c.args.rules.now c.args.facts.now c.args.apps.now c.args.choices.now c.requires
    c.loop-i.i c.loop-i.found.items c.loop-i-test.false c.loop-i.invariant

pub returns-clause-each : goal.returns-clause-each
returns-clause-each c =
    ap length (returns-clause-found c)
    ∙ found_length c.args.rules.now c.args.facts.now c.args.apps.now c.args.choices.now c.requires
