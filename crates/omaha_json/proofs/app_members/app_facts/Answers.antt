use Rattle.omaha_json.proofs.MembersOfApps.{facts_are, no_facts}
use Rattle.omaha_json.proofs.app_members.app_facts.Goals as goal

pub returns-in-Some : goal.returns-in-Some
returns-in-Some c =
    facts_are _ _ _ _ c.in-Some.ensures c.app_members.ensures c.facts.ensures

pub returns-in-None : goal.returns-in-None
returns-in-None c = no_facts _ c.in-None.ensures
