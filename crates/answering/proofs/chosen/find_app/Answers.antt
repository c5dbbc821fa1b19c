use Rattle.answering.proofs.Found.{found_is}
use Rattle.answering.proofs.chosen.find_app.Goals as goal

pub returns-in-Some : goal.returns-in-Some
returns-in-Some c facts is =
    found_is c.args.rules.now facts c.args.app.now c.appid.result.now c.args.choice
    c.in-Some.known.now c.listed_app.result c.appid.ensures c.in-Some.ensures.found
    (c.listed_app.ensures facts is)
