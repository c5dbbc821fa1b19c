-- What is found in a request's members, one member more at a time, from the last one on.
use Rattle.std.proofs.Common.{◌≡◌, ℕ, List, [], ◌∷◌, ◌++◌, codes, Bool, true, false, refl}
use Rattle.std.proofs.Common.{Option, Some, None, option_map, sym, ap, subst, ◌∙◌, append_assoc}
use Rattle.std.proofs.Common.{bytes_eq, string_bytes}
use Rattle.std.specs.Prelude.{option_and_then, if◌then◌else◌, Result, Err}
use Rattle.serde_json.specs.Data.{Data, object, Members, member}
use Rattle.serde_json.specs.Find.{get_member, as_str}
use Rattle.serde_json.specs.View.{view, members_view}
use Rattle.serde_json.specs.declared.value.Value.{Value}
use Rattle.attrs.specs.declared.facts.RequestFacts.{RequestFacts}
use Rattle.omaha_json.specs.Members.{request_member, request_with, AreMembersOf}
use Rattle.omaha_json.specs.Members.{request_facts_of, request_found}
use Rattle.omaha_json.specs.Request.{Request, text_in, is_protocol}
use Rattle.omaha_json.specs.Request.{or_fault, of_apps, of_request, listed, request_facts}
use Rattle.omaha_json.specs.declared.omaha_fault.OmahaFault.{OmahaFault}
use Rattle.omaha_json.specs.declared.omaha_fault.OmahaFault.TheVariants.{Shape, Protocol}
use Rattle.omaha_json.specs.declared.request_members.RequestMember.{RequestMember}
use Rattle.omaha_json.specs.declared.request_members.RequestMember.TheVariants as asked
use Rattle.omaha_json.specs.declared.request_members.RequestMembers.{RequestMembers}
use Rattle.omaha_json.proofs.Named.{Entry, passed, choose, same}

module _ (name : List ℕ) (v : Value) (m : RequestMembers) (ms : Members)
    (are : AreMembersOf ms m) where
  pub record Holds (o : Option RequestMember) : Type 0 where
    pub so : AreMembersOf (member name (view v) ms) (request_with o v m)

  found_here : (wanted : List ℕ) (o : RequestMember) → bytes_eq name wanted ≡ true
      → AreMembersOf (member wanted (view v) ms) (request_with (Some o) v m) → Holds (Some o)
  found_here wanted o e is = record {
    so =
        subst (λ (n : List ℕ). AreMembersOf (member n (view v) ms) (request_with (Some o) v m))
        (same name wanted e) is;
  }

  kept_of : {B : Type 0} (f : Option Data → B) (wanted : List ℕ) → bytes_eq name wanted ≡ false
      → f (get_member wanted ms) ≡ f (get_member wanted (member name (view v) ms))
  kept_of f wanted other = sym (ap f (passed wanted name (view v) ms other))

  none_of : bytes_eq name (codes "protocol") ≡ false → bytes_eq name (codes "app") ≡ false
      → bytes_eq name (codes "requestid") ≡ false → bytes_eq name (codes "sessionid") ≡ false
      → bytes_eq name (codes "os") ≡ false → Holds None
  none_of a b c d e = record {
    so = record {
      is_version_3_1 =
          are.is_version_3_1
          ∙ kept_of (λ o. is_protocol (option_and_then as_str o)) (codes "protocol") a;
      apps = are.apps ∙ kept_of (λ o. o) (codes "app") b;
      requestid = are.requestid ∙ kept_of (option_and_then as_str) (codes "requestid") c;
      sessionid = are.sessionid ∙ kept_of (option_and_then as_str) (codes "sessionid") d;
      platform =
          are.platform
          ∙ kept_of (option_and_then (text_in (codes "platform"))) (codes "os") e;
    };
  }

  protocol_here : AreMembersOf (member (codes "protocol") (view v) ms)
      (request_with (Some asked.Protocol) v m)
  protocol_here = record {
    is_version_3_1 = refl;
    apps = are.apps;
    requestid = are.requestid;
    sessionid = are.sessionid;
    platform = are.platform;
  }

  app_here : AreMembersOf (member (codes "app") (view v) ms)
      (request_with (Some asked.App) v m)
  app_here = record {
    is_version_3_1 = are.is_version_3_1;
    apps = refl;
    requestid = are.requestid;
    sessionid = are.sessionid;
    platform = are.platform;
  }

  requestid_here : AreMembersOf (member (codes "requestid") (view v) ms)
      (request_with (Some asked.Requestid) v m)
  requestid_here = record {
    is_version_3_1 = are.is_version_3_1;
    apps = are.apps;
    requestid = refl;
    sessionid = are.sessionid;
    platform = are.platform;
  }

  sessionid_here : AreMembersOf (member (codes "sessionid") (view v) ms)
      (request_with (Some asked.Sessionid) v m)
  sessionid_here = record {
    is_version_3_1 = are.is_version_3_1;
    apps = are.apps;
    requestid = are.requestid;
    sessionid = refl;
    platform = are.platform;
  }

  os_here : AreMembersOf (member (codes "os") (view v) ms)
      (request_with (Some asked.Os) v m)
  os_here = record {
    is_version_3_1 = are.is_version_3_1;
    apps = are.apps;
    requestid = are.requestid;
    sessionid = are.sessionid;
    platform = refl;
  }

  pub request_more : Holds (request_member name)
  request_more =
      choose Holds _ asked.Protocol _
      (λ t. found_here (codes "protocol") asked.Protocol t protocol_here) (λ a.
      choose Holds _ asked.App _ (λ t. found_here (codes "app") asked.App t app_here) (λ b.
      choose Holds _ asked.Requestid _
      (λ t. found_here (codes "requestid") asked.Requestid t requestid_here) (λ c.
      choose Holds _ asked.Sessionid _
      (λ t. found_here (codes "sessionid") asked.Sessionid t sessionid_here) (λ d.
      choose Holds _ asked.Os _ (λ t. found_here (codes "os") asked.Os t os_here) (λ e.
      none_of a b c d e)))))

pub request_next : (all left left' done : List Entry) (e : Entry) (found found' : RequestMembers)
    → all ≡ left ++ done → left ≡ left' ++ e ∷ [] → AreMembersOf (members_view done) found
    → found' ≡ request_with (request_member (string_bytes e.0)) e.1 found
    → (all ≡ left' ++ e ∷ done) × AreMembersOf (members_view (e ∷ done)) found'
request_next all left left' done e found found' so_far taken are more = (
  so_far ∙ ap (λ (es : List Entry). es ++ done) taken ∙ append_assoc left' (e ∷ []) done,
  subst (AreMembersOf (members_view (e ∷ done))) (sym more)
      (request_more (string_bytes e.0) e.1 found (members_view done) are).so,
)

request_by : Bool → RequestFacts → Option Data → Result Request OmahaFault
request_by version facts apps =
    if version then or_fault Shape (of_apps facts) (listed apps) else Err Protocol

facts_by : Option (List ℕ) → Option (List ℕ) → Option (List ℕ) → RequestFacts
facts_by requestid sessionid platform =
    record { requestid = requestid; sessionid = sessionid; platform = platform }

pub of_all_members : (ms : Members) (m : RequestMembers) → AreMembersOf ms m
    → request_found m ≡ of_request (object ms)
unfolding facts_by request_by
of_all_members ms m are =
    let request = object ms in
    let first = text_in (codes "requestid") request in
    let second = text_in (codes "sessionid") request in
    let said : request_facts_of m ≡ request_facts request =
    ap (λ (o : Option (List ℕ)). facts_by o m.sessionid m.platform) are.requestid
    ∙ ap (λ (o : Option (List ℕ)). facts_by first o m.platform) are.sessionid
    ∙ ap (facts_by first second) are.platform in
    ap (λ (b : Bool). request_by b (request_facts_of m) (option_map view m.apps))
    are.is_version_3_1
    ∙ ap (λ (f : RequestFacts). request_by (is_protocol (text_in (codes "protocol") request)) f
    (option_map view m.apps)) said
    ∙ ap (request_by (is_protocol (text_in (codes "protocol") request)) (request_facts request))
    are.apps
