use Rattle.omaha_json.proofs.update.write_update.Goals as goal

pub returns-in-None : goal.returns-in-None
returns-in-None c = rw c.in-None.is c.write_status.ensures
