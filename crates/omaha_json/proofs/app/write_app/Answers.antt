use Rattle.omaha_json.proofs.app.write_app.Goals as goal

pub returns-in-Some : goal.returns-in-Some
returns-in-Some c = rw c.in-Some.is c.write_listed.ensures
