-- The members from which a body's request is read are those that have the lines.
use Rattle.std.proofs.Common.{◌≡◌, ◌∙◌, List, refl, sym, ap, Bool, true, false}
use Rattle.std.proofs.Common.{Option, Some, None, Ok, Err}
use Rattle.std.specs.Prelude.{codes, nat_lt, option_and_then, option_map, unwrap_or, Result}
use Rattle.std.specs.Prelude.{if◌then◌else◌}
use Rattle.serde_json.specs.Data.{Data, null, boolean, number, string, array, object}
use Rattle.serde_json.specs.Data.{Items, Members, no_items}
use Rattle.serde_json.specs.Find.{get, as_array, as_object}
use Rattle.attrs.specs.declared.facts.AppFacts.{AppFacts}
use Rattle.json_value.specs.Bytes.{json_of}
use Rattle.omaha_json.specs.Request.{Request, all_facts, count_of, is_protocol, listed, of_apps}
use Rattle.omaha_json.specs.Request.{of_request, of_value, or_fault, request_facts, text_in}
use Rattle.omaha_json.specs.declared.omaha_fault.OmahaFault.{OmahaFault}
use Rattle.omaha_json.specs.declared.omaha_fault.OmahaFault.TheVariants.{Json, Shape}
use Rattle.omaha_json.specs.declared.omaha_fault.OmahaFault.TheVariants.{Protocol, TooManyApps}
use Rattle.dry_run.specs.Members.{apps_written}
use Rattle.dry_run.specs.Noted.{IsWritten, ReadMembersAreExplained}

abbrev asked_or : Request → Result Request OmahaFault → Request
asked_or other (Ok requested) = requested
asked_or other (Err fault) = other

abbrev requested_of : Members → List AppFacts → Result Request OmahaFault
requested_of ms each = Ok (record { facts = request_facts (object ms); apps = each })

by_each : (ms : Members) (items : Items) (each : Option (List AppFacts)) (requested : Request)
    → unwrap_or (apps_written (object ms)) no_items ≡ items → all_facts items ≡ each
    → or_fault Shape (requested_of ms) each ≡ Ok requested → IsWritten (Some (object ms)) requested
by_each ms items None requested list all is = absurd cc
by_each ms items (Some each) requested list all is =
    let same = ap (asked_or requested) is in
    record {
      written = object ms;
      apps = items;
      written_is = refl;
      facts_are = sym (ap (λ (r : Request). r.facts) same);
      list_is = list;
      apps_are = all ∙ ap (λ (r : Request). Some r.apps) same;
    }

by_count : (ms : Members) (items : Items) (many : Bool) (requested : Request)
    → unwrap_or (apps_written (object ms)) no_items ≡ items
    → (if many then Err TooManyApps else or_fault Shape (requested_of ms) (all_facts items))
    ≡ Ok requested
    → IsWritten (Some (object ms)) requested
by_count ms items true requested list is = absurd cc
by_count ms items false requested list is =
    by_each ms items (all_facts items) requested list refl is

by_list : (ms : Members) (app : Option Data) (requested : Request)
    → get (codes "app") (object ms) ≡ app
    → or_fault Shape (of_apps (request_facts (object ms))) (listed app) ≡ Ok requested
    → IsWritten (Some (object ms)) requested
by_list ms None requested found is =
    by_count ms no_items (nat_lt 256 (count_of no_items)) requested
    (ap (λ (o : Option Data). unwrap_or (option_and_then as_array o) no_items) found) is
by_list ms (Some (array items)) requested found is =
    by_count ms items (nat_lt 256 (count_of items)) requested
    (ap (λ (o : Option Data). unwrap_or (option_and_then as_array o) no_items) found) is
by_list ms (Some null) requested found is = absurd cc
by_list ms (Some (boolean b)) requested found is = absurd cc
by_list ms (Some (number n)) requested found is = absurd cc
by_list ms (Some (string text)) requested found is = absurd cc
by_list ms (Some (object others)) requested found is = absurd cc

by_protocol : (ms : Members) (fits : Bool) (requested : Request)
    → (if fits then or_fault Shape (of_apps (request_facts (object ms)))
    (listed (get (codes "app") (object ms))) else Err Protocol) ≡ Ok requested
    → IsWritten (Some (object ms)) requested
by_protocol ms true requested is = by_list ms (get (codes "app") (object ms)) requested refl is
by_protocol ms false requested is = absurd cc

by_request : (request : Option Data) (requested : Request)
    → or_fault Shape of_request (option_map object (option_and_then as_object request))
    ≡ Ok requested
    → IsWritten request requested
by_request (Some (object ms)) requested is =
    by_protocol ms (is_protocol (text_in (codes "protocol") (object ms))) requested is
by_request None requested is = absurd cc
by_request (Some null) requested is = absurd cc
by_request (Some (boolean b)) requested is = absurd cc
by_request (Some (number n)) requested is = absurd cc
by_request (Some (string text)) requested is = absurd cc
by_request (Some (array items)) requested is = absurd cc

by_top : (top : Option Data) (requested : Request) → or_fault Json of_value top ≡ Ok requested
    → IsWritten (option_and_then (get (codes "request")) top) requested
by_top None requested is = absurd cc
by_top (Some top) requested is = by_request (get (codes "request") top) requested is

pub read_members_are_explained : ReadMembersAreExplained
read_members_are_explained body requested is = by_top (json_of body) requested is
