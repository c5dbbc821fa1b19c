-- The lines of the members of an app and of a request are true.
use Rattle.std.proofs.Common.{◌≡◌, ℕ, List, sym, subst, Option, Some, None}
use Rattle.std.specs.Prelude.{ℤ, codes, option_map}
use Rattle.serde_json.specs.Data.{Data}
use Rattle.serde_json.specs.Find.{get}
use Rattle.attrs.specs.Attributes.{Attributes}
use Rattle.attrs.specs.Facts.{attributes_of}
use Rattle.attrs.specs.declared.facts.AppFacts.{AppFacts}
use Rattle.omaha_json.specs.Request.{has_value, number_in, request_facts, text_in}
use Rattle.dry_run.specs.Noted.{AppIsNoted, MembersAreNoted, RequestIsNoted}
use Rattle.dry_run.proofs.Noted.{attribute_noted, day_noted, os_noted, platform_noted}
use Rattle.dry_run.proofs.Noted.{text_noted, value_noted}

-- a result of a map comes from some value
taken : {A B : Type 0} (made : A → B) (o : Option A) (b : B) → option_map made o ≡ Some b
    → (a : A) × (b ≡ made a)
taken made None b is = absurd cc
taken made (Some a) b is = (a, cc)

abbrev facts_with : Data → (appid : List ℕ) → AppFacts
facts_with app appid = record {
  appid = appid;
  version = text_in (codes "version") app;
  brand = text_in (codes "brand") app;
  ap = text_in (codes "ap") app;
  lang = text_in (codes "lang") app;
  cohort = text_in (codes "cohort") app;
  installdate = number_in (codes "installdate") app;
  updatecheck = has_value (codes "updatecheck") app;
  ping = has_value (codes "ping") app;
  event = has_value (codes "event") app;
}

app_noted : (request app : Data) (appid : List ℕ) (moment : ℤ)
    → AppIsNoted app (facts_with app appid)
    (attributes_of (facts_with app appid) (request_facts request) moment)
app_noted request app appid moment = record {
  version = attribute_noted (get (codes "version") app);
  numbers = text_noted (get (codes "version") app);
  brand = attribute_noted (get (codes "brand") app);
  ap = attribute_noted (get (codes "ap") app);
  lang = attribute_noted (get (codes "lang") app);
  cohort = attribute_noted (get (codes "cohort") app);
  installdate = day_noted (get (codes "installdate") app);
  updatecheck = value_noted (get (codes "updatecheck") app);
  ping = value_noted (get (codes "ping") app);
  event = value_noted (get (codes "event") app);
}

request_noted : (request app : Data) (appid : List ℕ) (moment : ℤ)
    → RequestIsNoted request (request_facts request)
    (attributes_of (facts_with app appid) (request_facts request) moment)
request_noted request app appid moment = record {
  requestid = text_noted (get (codes "requestid") request);
  sessionid = text_noted (get (codes "sessionid") request);
  os = os_noted (get (codes "os") request);
  platform = platform_noted (get (codes "os") request);
}

pub members_are_noted : MembersAreNoted
members_are_noted request app facts moment is a same =
    let by = taken _ _ facts is in
    subst (λ (b : Attributes). RequestIsNoted request (request_facts request) b
    × AppIsNoted app facts b) (sym same)
    (subst (λ (f : AppFacts). RequestIsNoted request (request_facts request)
    (attributes_of f (request_facts request) moment)
    × AppIsNoted app f (attributes_of f (request_facts request) moment)) (sym by.1)
    (request_noted request app by.0 moment, app_noted request app by.0 moment))
