-- Which request a body is, by this project's profile of Omaha 3.1, or its first fault.
use Rattle.std.specs.Prelude.{ℕ, suc, List, [], ◌∷◌, codes, Bool, false, nat_lt, Option, Some, None}
use Rattle.std.specs.Prelude.{is_none, option_map, option_and_then, if◌then◌else◌, Result, Ok, Err}
use Rattle.std.specs.Str.{bytes_eq}
use Rattle.serde_json.specs.Data.{Data, object, Items, no_items, item}
use Rattle.serde_json.specs.Find.{get, as_array, as_null, as_number, as_object, as_str, as_u64}
use Rattle.json_value.specs.Bytes.{json_of}
use Rattle.attrs.specs.declared.facts.AppFacts.{AppFacts}
use Rattle.attrs.specs.declared.facts.RequestFacts.{RequestFacts}
use Rattle.omaha_json.specs.declared.omaha_fault.OmahaFault.{OmahaFault}
use Rattle.omaha_json.specs.declared.omaha_fault.OmahaFault.TheVariants.{Json, Shape}
use Rattle.omaha_json.specs.declared.omaha_fault.OmahaFault.TheVariants.{Protocol, TooManyApps}

-- the facts of the request itself, and of each app, in order
pub record Request : Type 0 where
  pub facts : RequestFacts
  pub apps : List AppFacts

-- a member of another kind counts as absent
abbrev pub text_in : List ℕ → Data → Option (List ℕ)
text_in name d = option_and_then as_str (get name d)

abbrev pub object_in : List ℕ → Data → Option Data
object_in name d = option_map object (option_and_then as_object (get name d))

abbrev pub number_in : List ℕ → Data → Option ℕ
number_in name d = option_and_then as_u64 (option_and_then as_number (get name d))

abbrev pub is_value : Option Data → Bool
is_value (Some d) = is_none (as_null d)
is_value None = false

-- the member of this name exists, and isn't null
abbrev pub has_value : List ℕ → Data → Bool
has_value name d = is_value (get name d)

-- the facts of an app, if it is an object with an appid
abbrev pub app_facts : Data → Option AppFacts
app_facts app = option_map (λ appid. record {
  appid = appid;
  version = text_in (codes "version") app;
  brand = text_in (codes "brand") app;
  ap = text_in (codes "ap") app;
  lang = text_in (codes "lang") app;
  cohort = text_in (codes "cohort") app;
  installdate = number_in (codes "installdate") app;
  updatecheck = has_value (codes "updatecheck") app;
  ping = has_value (codes "ping") app;
  event = has_value (codes "event") app;
}) (text_in (codes "appid") app)

abbrev pub request_facts : Data → RequestFacts
request_facts request = record {
  requestid = text_in (codes "requestid") request;
  sessionid = text_in (codes "sessionid") request;
  platform = option_and_then (text_in (codes "platform")) (get (codes "os") request);
}

-- the result for a value, or the fault if there is none
abbrev pub or_fault : {A B : Type 0}
    → OmahaFault → (A → Result B OmahaFault) → Option A → Result B OmahaFault
or_fault fault made (Some a) = made a
or_fault fault made None = Err fault

-- the first with the rest, if both are there
abbrev pub joined : {A : Type 0} → Option A → Option (List A) → Option (List A)
joined first rest = option_and_then (λ a. option_map (λ others. a ∷ others) rest) first

-- the facts of all apps, if each has some
abbrev pub all_facts : Items → Option (List AppFacts)
all_facts no_items = Some []
all_facts (item app apps) = joined (app_facts app) (all_facts apps)

abbrev pub count_of : Items → ℕ
count_of no_items = 0
count_of (item d ds) = suc (count_of ds)

-- the list of apps, which is empty if the member doesn't exist
abbrev pub listed : Option Data → Option Items
listed (Some apps) = as_array apps
listed None = Some no_items

abbrev pub of_apps : RequestFacts → Items → Result Request OmahaFault
of_apps facts apps =
    if nat_lt 256 (count_of apps) then Err TooManyApps
    else or_fault Shape (λ each. Ok (record { facts = facts; apps = each })) (all_facts apps)

-- the text 3.1
abbrev pub is_protocol : Option (List ℕ) → Bool
is_protocol (Some text) = bytes_eq text (codes "3.1")
is_protocol None = false

-- the request in the member `request`, or its fault
abbrev pub of_request : Data → Result Request OmahaFault
of_request request =
    if is_protocol (text_in (codes "protocol") request)
    then or_fault Shape (of_apps (request_facts request)) (listed (get (codes "app") request))
    else Err Protocol

abbrev pub of_value : Data → Result Request OmahaFault
of_value top = or_fault Shape of_request (object_in (codes "request") top)

-- the request in a body, or its first fault
abbrev pub request_in : List ℕ → Result Request OmahaFault
request_in body = or_fault Json of_value (json_of body)
