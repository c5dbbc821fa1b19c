-- What the members of a request and of its apps have to be. A member that is present and doesn't
-- fit counts as absent, and `ask --why` has a line for it.
use Rattle.std.specs.Prelude.{ℕ, List, codes, Bool, false, is_some, length, nat_le}
use Rattle.std.specs.Prelude.{Option, Some, None, option_and_then}
use Rattle.serde_json.specs.Data.{Data, Items}
use Rattle.serde_json.specs.Find.{get, as_array, as_number, as_object, as_str, as_u64}
use Rattle.attrs.specs.Facts.{known_day}
use Rattle.json_value.specs.Bytes.{json_of}
use Rattle.omaha_json.specs.Request.{is_value}
use Rattle.dry_run.specs.declared.wanted.MemberKind.{MemberKind}
use Rattle.dry_run.specs.declared.wanted.MemberKind.TheVariants as wanted

-- a text that an attribute keeps
abbrev pub is_short : Option (List ℕ) → Bool
is_short (Some text) = nat_le (length text) 1024
is_short None = false

-- a member with this value counts. The numbers of a version that is too long also count.
abbrev pub fits : MemberKind → Data → Bool
fits wanted.Text d = is_some (as_str d)
fits wanted.Attribute d = is_short (as_str d)
fits wanted.Version d = is_short (as_str d)
fits wanted.Day d = is_some (known_day (option_and_then as_u64 (as_number d)))
fits wanted.Object d = is_some (as_object d)
fits wanted.Value d = is_value (Some d)

-- ---- the places of the members

-- the member `request` of a body
abbrev pub request_written : (body : List ℕ) → Option Data
request_written body = option_and_then (get (codes "request")) (json_of body)

-- the platform that a request's `os` names
abbrev pub platform_written : (os : Option Data) → Option Data
platform_written os = option_and_then (get (codes "platform")) os

-- the list of a request's apps
abbrev pub apps_written : (request : Data) → Option Items
apps_written request = option_and_then as_array (get (codes "app") request)
