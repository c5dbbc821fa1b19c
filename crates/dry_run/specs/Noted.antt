-- The lines of members are true: a member that fits counts, and a member that doesn't counts as
-- absent. What counts is what the request is read as, and what a program reads of it.
use Rattle.std.specs.Prelude.{◌≡◌, ◌≢◌, ℕ, ℤ, List, [], codes, Bool, true, false}
use Rattle.std.specs.Prelude.{Option, Some, None, Ok, option_and_then, unwrap_or}
use Rattle.serde_json.specs.Data.{Data, Items, Members, no_items, object, string}
use Rattle.serde_json.specs.Find.{get, as_number, as_u64}
use Rattle.attrs.specs.Attributes.{Attributes}
use Rattle.attrs.specs.Context.{unknown_day}
use Rattle.attrs.specs.Facts.{attributes_of}
use Rattle.attrs.specs.Helpers.{attribute}
use Rattle.attrs.specs.Vocabulary.{attribute_number, attribute_text}
use Rattle.attrs.specs.declared.facts.AppFacts.{AppFacts}
use Rattle.attrs.specs.declared.facts.RequestFacts.{RequestFacts}
use Rattle.attrs.specs.declared.vocabulary.Attribute.{Attribute}
use Rattle.attrs.specs.declared.vocabulary.Attribute.TheVariants.{Version, Brand, Ap, Lang}
use Rattle.attrs.specs.declared.vocabulary.Attribute.TheVariants.{Cohort, Platform}
use Rattle.omaha_json.specs.Request.{Request, all_facts, app_facts, request_facts, request_in}
use Rattle.dry_run.specs.Members.{apps_written, fits, platform_written, request_written}
use Rattle.dry_run.specs.declared.wanted.MemberKind.{MemberKind}
use Rattle.dry_run.specs.declared.wanted.MemberKind.TheVariants as wanted

-- a member is absent; or it fits, and counts; or it doesn't fit, and counts as absent
pub data IsNoted (is : MemberKind) (counts : Data → Type 0) (is_absent : Type 0)
    : Option Data → Type 0 where
  not_there : is_absent → IsNoted is counts is_absent None
  it_counts : {d : Data} → fits is d ≡ true → counts d → IsNoted is counts is_absent (Some d)
  ignored : {d : Data} → fits is d ≡ false → is_absent → IsNoted is counts is_absent (Some d)

-- ---- by what a member has to be

-- a text: the request is read with it, or without one
abbrev pub IsTextNoted : (said : Option (List ℕ)) → Option Data → Type 0
IsTextNoted said member =
    IsNoted wanted.Text (λ d. (text : List ℕ) × (d ≡ string text) × (said ≡ Some text))
    (said ≡ None) member

-- a text that is an attribute: a program reads it, or the empty text
abbrev pub IsAttributeNoted : Attributes → Attribute → Option Data → Type 0
IsAttributeNoted a kind member =
    IsNoted wanted.Attribute
    (λ d. (text : List ℕ) × (d ≡ string text) × (attribute a (attribute_number kind) ≡ Some text))
    (attribute a (attribute_number kind) ≡ Some []) member

-- a number is a day that is known
abbrev pub IsDay : Data → (day : ℕ) → Type 0
IsDay d day = (option_and_then as_u64 (as_number d) ≡ Some day) × (day ≢ unknown_day)

-- a day: a program reads it, or the unknown day
abbrev pub IsDayNoted : Attributes → Option Data → Type 0
IsDayNoted a member =
    IsNoted wanted.Day (λ d. IsDay d a.context.install_day)
    (a.context.install_day ≡ unknown_day) member

-- a member that requests something by its presence
abbrev pub IsValueNoted : (asks : Bool) → Option Data → Type 0
IsValueNoted asks member = IsNoted wanted.Value (λ d. asks ≡ true) (asks ≡ false) member

-- ---- an app, and a request

-- a text of an app that is an attribute of the same name
abbrev pub IsAppTextNoted : (app : Data) → Attributes → Attribute → Type 0
IsAppTextNoted app a kind = IsAttributeNoted a kind (get (attribute_text kind) app)

-- all members of an app that may have lines. A version that isn't a text has no numbers; one that
-- is too long is the empty text only as an attribute
pub record AppIsNoted (app : Data) (facts : AppFacts) (a : Attributes) : Type 0 where
  pub version : IsAppTextNoted app a Version
  pub numbers : IsTextNoted facts.version (get (codes "version") app)
  pub brand : IsAppTextNoted app a Brand
  pub ap : IsAppTextNoted app a Ap
  pub lang : IsAppTextNoted app a Lang
  pub cohort : IsAppTextNoted app a Cohort
  pub installdate : IsDayNoted a (get (codes "installdate") app)
  pub updatecheck : IsValueNoted facts.updatecheck (get (codes "updatecheck") app)
  pub ping : IsValueNoted facts.ping (get (codes "ping") app)
  pub event : IsValueNoted facts.event (get (codes "event") app)

-- all members of a request that may have lines
pub record RequestIsNoted (request : Data) (facts : RequestFacts) (a : Attributes) : Type 0 where
  pub requestid : IsTextNoted facts.requestid (get (codes "requestid") request)
  pub sessionid : IsTextNoted facts.sessionid (get (codes "sessionid") request)
  pub os : IsNoted wanted.Object (λ d. (ms : Members) × (d ≡ object ms)) (facts.platform ≡ None)
      (get (codes "os") request)
  pub platform : IsAttributeNoted a Platform (platform_written (get (codes "os") request))

-- the lines are true for any request and any of its apps
abbrev pub MembersAreNoted : Type 0
MembersAreNoted = (request app : Data) (facts : AppFacts) (moment : ℤ) → app_facts app ≡ Some facts
    → (a : Attributes) → a ≡ attributes_of facts (request_facts request) moment
    → RequestIsNoted request (request_facts request) a × AppIsNoted app facts a

-- ---- a body

-- the facts of a request are those of these members
pub record IsWritten (request : Option Data) (requested : Request) : Type 0 where
  pub written : Data
  pub apps : Items
  pub written_is : request ≡ Some written
  pub facts_are : requested.facts ≡ request_facts written
  pub list_is : unwrap_or (apps_written written) no_items ≡ apps
  pub apps_are : all_facts apps ≡ Some requested.apps

-- the lines are those of exactly the members from which a body's request is read
abbrev pub ReadMembersAreExplained : Type 0
ReadMembersAreExplained = (body : List ℕ) (requested : Request) → request_in body ≡ Ok requested
    → IsWritten (request_written body) requested
