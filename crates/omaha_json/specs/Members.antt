-- What was found of the members of an object, one member after another.
use Rattle.std.specs.Prelude.{◌≡◌, ℕ, List, codes, Option, Some, None, option_and_then}
use Rattle.std.specs.Prelude.{option_map, if◌then◌else◌, Result, Err}
use Rattle.std.specs.Str.{bytes_eq}
use Rattle.serde_json.specs.Data.{Data, object, Members}
use Rattle.serde_json.specs.Find.{get, as_number, as_str, as_u64}
use Rattle.serde_json.specs.View.{view}
use Rattle.serde_json.specs.declared.value.Value.{Value}
use Rattle.attrs.specs.declared.facts.AppFacts.{AppFacts}
use Rattle.attrs.specs.declared.facts.RequestFacts.{RequestFacts}
use Rattle.omaha_json.specs.Request.{text_in, number_in, has_value, is_value, is_protocol}
use Rattle.omaha_json.specs.Request.{Request, or_fault, of_apps, listed}
use Rattle.omaha_json.specs.declared.app_members.AppMember.{AppMember}
use Rattle.omaha_json.specs.declared.app_members.AppMember.TheVariants as app
use Rattle.omaha_json.specs.declared.app_members.AppMembers.{AppMembers}
use Rattle.omaha_json.specs.declared.omaha_fault.OmahaFault.{OmahaFault}
use Rattle.omaha_json.specs.declared.omaha_fault.OmahaFault.TheVariants.{Shape, Protocol}
use Rattle.omaha_json.specs.declared.request_members.RequestMember.{RequestMember}
use Rattle.omaha_json.specs.declared.request_members.RequestMember.TheVariants as request
use Rattle.omaha_json.specs.declared.request_members.RequestMembers.{RequestMembers}

-- ---- the members of an app

-- the member of a name
abbrev pub app_member : List ℕ → Option AppMember
app_member name =
    if bytes_eq name (codes "appid") then Some app.Appid
    else if bytes_eq name (codes "version") then Some app.Version
    else if bytes_eq name (codes "brand") then Some app.Brand
    else if bytes_eq name (codes "ap") then Some app.Ap
    else if bytes_eq name (codes "lang") then Some app.Lang
    else if bytes_eq name (codes "cohort") then Some app.Cohort
    else if bytes_eq name (codes "installdate") then Some app.Installdate
    else if bytes_eq name (codes "updatecheck") then Some app.Updatecheck
    else if bytes_eq name (codes "ping") then Some app.Ping
    else if bytes_eq name (codes "event") then Some app.Event
    else None

-- one more member, with its value
abbrev pub app_with : Option AppMember → Data → AppMembers → AppMembers
app_with (Some app.Appid) d m = record m { appid = as_str d }
app_with (Some app.Version) d m = record m { version = as_str d }
app_with (Some app.Brand) d m = record m { brand = as_str d }
app_with (Some app.Ap) d m = record m { ap = as_str d }
app_with (Some app.Lang) d m = record m { lang = as_str d }
app_with (Some app.Cohort) d m = record m { cohort = as_str d }
app_with (Some app.Installdate) d m =
    record m { installdate = option_and_then as_u64 (as_number d) }
app_with (Some app.Updatecheck) d m = record m { updatecheck = is_value (Some d) }
app_with (Some app.Ping) d m = record m { ping = is_value (Some d) }
app_with (Some app.Event) d m = record m { event = is_value (Some d) }
app_with None d m = m

-- what is found in all members of an app
abbrev pub app_members : Members → AppMembers
app_members members = record {
  appid = text_in (codes "appid") (object members);
  version = text_in (codes "version") (object members);
  brand = text_in (codes "brand") (object members);
  ap = text_in (codes "ap") (object members);
  lang = text_in (codes "lang") (object members);
  cohort = text_in (codes "cohort") (object members);
  installdate = number_in (codes "installdate") (object members);
  updatecheck = has_value (codes "updatecheck") (object members);
  ping = has_value (codes "ping") (object members);
  event = has_value (codes "event") (object members);
}

-- the facts, if there is an appid
abbrev pub facts_of : AppMembers → Option AppFacts
facts_of m = option_map (λ appid. record {
  appid = appid;
  version = m.version;
  brand = m.brand;
  ap = m.ap;
  lang = m.lang;
  cohort = m.cohort;
  installdate = m.installdate;
  updatecheck = m.updatecheck;
  ping = m.ping;
  event = m.event;
}) m.appid

-- ---- the members of a request

-- the member of a name
abbrev pub request_member : List ℕ → Option RequestMember
request_member name =
    if bytes_eq name (codes "protocol") then Some request.Protocol
    else if bytes_eq name (codes "app") then Some request.App
    else if bytes_eq name (codes "requestid") then Some request.Requestid
    else if bytes_eq name (codes "sessionid") then Some request.Sessionid
    else if bytes_eq name (codes "os") then Some request.Os
    else None

-- one more member, with its value
abbrev pub request_with : Option RequestMember → Value → RequestMembers → RequestMembers
request_with (Some request.Protocol) v m =
    record m { is_version_3_1 = is_protocol (as_str (view v)) }
request_with (Some request.App) v m = record m { apps = Some v }
request_with (Some request.Requestid) v m = record m { requestid = as_str (view v) }
request_with (Some request.Sessionid) v m = record m { sessionid = as_str (view v) }
request_with (Some request.Os) v m =
    record m { platform = text_in (codes "platform") (view v) }
request_with None v m = m

-- what is found in all members of a request
pub record AreMembersOf (members : Members) (m : RequestMembers) : Type 0 where
  pub is_version_3_1 : m.is_version_3_1 ≡ is_protocol (text_in (codes "protocol") (object members))
  pub apps : option_map view m.apps ≡ get (codes "app") (object members)
  pub requestid : m.requestid ≡ text_in (codes "requestid") (object members)
  pub sessionid : m.sessionid ≡ text_in (codes "sessionid") (object members)
  pub platform : m.platform
      ≡ option_and_then (text_in (codes "platform")) (get (codes "os") (object members))

abbrev pub request_facts_of : RequestMembers → RequestFacts
request_facts_of m =
    record { requestid = m.requestid; sessionid = m.sessionid; platform = m.platform }

-- the request of these members, or its fault
abbrev pub request_found : RequestMembers → Result Request OmahaFault
request_found m =
    if m.is_version_3_1
    then or_fault Shape (of_apps (request_facts_of m)) (listed (option_map view m.apps))
    else Err Protocol
