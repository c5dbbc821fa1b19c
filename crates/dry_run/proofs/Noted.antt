-- A member counts if it fits, by what it has to be.
use Rattle.std.proofs.Common.{◌≡◌, ◌≢◌, ℕ, List, [], refl, subst}
use Rattle.std.proofs.Common.{Bool, true, false, Option, Some, None, length}
use Rattle.std.specs.Prelude.{codes, is_some, nat_le, nat_lt, if◌then◌else◌}
use Rattle.std.specs.Prelude.{option_and_then, unwrap_or}
use Rattle.serde_json.specs.Data.{Data, Members, null, boolean, number, string, array, object}
use Rattle.serde_json.specs.Find.{get, as_number, as_str, as_u64}
use Rattle.attrs.specs.Attributes.{kept_text}
use Rattle.attrs.specs.Context.{unknown_day}
use Rattle.attrs.specs.Facts.{known_day}
use Rattle.omaha_json.specs.Request.{is_value, text_in}
use Rattle.dry_run.specs.Members.{fits, platform_written}
use Rattle.dry_run.specs.Noted.{IsDay, IsNoted, IsTextNoted, not_there, it_counts, ignored}
use Rattle.dry_run.specs.declared.wanted.MemberKind.TheVariants as wanted

-- ---- a text

pub text_noted : (member : Option Data) → IsTextNoted (option_and_then as_str member) member
text_noted None = not_there refl
text_noted (Some null) = ignored refl refl
text_noted (Some (boolean b)) = ignored refl refl
text_noted (Some (number n)) = ignored refl refl
text_noted (Some (string text)) = it_counts refl (text, refl, refl)
text_noted (Some (array items)) = ignored refl refl
text_noted (Some (object ms)) = ignored refl refl

-- ---- a text as an attribute

abbrev Keeps : Option (List ℕ) → Option Data → Type 0
Keeps kept member =
    IsNoted wanted.Attribute (λ d. (text : List ℕ) × (d ≡ string text) × (kept ≡ Some text))
    (kept ≡ Some []) member

by_length : (short : Bool) (text : List ℕ) → fits wanted.Attribute (string text) ≡ short
    → Keeps (Some (if short then text else [])) (Some (string text))
by_length true text is = it_counts is (text, refl, refl)
by_length false text is = ignored is refl

pub attribute_noted : (member : Option Data)
    → Keeps (Some (kept_text (option_and_then as_str member))) member
attribute_noted None = not_there refl
attribute_noted (Some null) = ignored refl refl
attribute_noted (Some (boolean b)) = ignored refl refl
attribute_noted (Some (number n)) = ignored refl refl
attribute_noted (Some (string text)) = by_length (nat_le (length text) 1024) text refl
attribute_noted (Some (array items)) = ignored refl refl
attribute_noted (Some (object ms)) = ignored refl refl

-- ---- a day

abbrev number_of : Data → Option ℕ
number_of d = option_and_then as_u64 (as_number d)

abbrev Days : (day : ℕ) → Option Data → Type 0
Days day member = IsNoted wanted.Day (λ d. IsDay d day) (day ≡ unknown_day) member

abbrev counted : (is_day : Bool) → (day : ℕ) → Option ℕ
counted is_day day = if is_day then Some day else None

below : (day : ℕ) → nat_lt day unknown_day ≡ true → day ≢ unknown_day
below day less same =
    let never : nat_lt unknown_day unknown_day ≡ true =
    subst (λ (d : ℕ). nat_lt d unknown_day ≡ true) same less in absurd cc

by_day : (is_day : Bool) (day : ℕ) (d : Data) → number_of d ≡ Some day
    → nat_lt day unknown_day ≡ is_day → fits wanted.Day d ≡ is_some (counted is_day day)
    → Days (unwrap_or (counted is_day day) unknown_day) (Some d)
by_day true day d is less fit = it_counts fit (is, below day less)
by_day false day d is less fit = ignored fit refl

by_number : (n : Option ℕ) (d : Data) → number_of d ≡ n
    → fits wanted.Day d ≡ is_some (known_day n)
    → Days (unwrap_or (known_day n) unknown_day) (Some d)
by_number None d is fit = ignored fit refl
by_number (Some day) d is fit = by_day (nat_lt day unknown_day) day d is refl fit

pub day_noted : (member : Option Data)
    → Days
    (unwrap_or (known_day (option_and_then as_u64 (option_and_then as_number member))) unknown_day)
    member
day_noted None = not_there refl
day_noted (Some d) = by_number (number_of d) d refl refl

-- ---- a member that only has to be present

by_value : (asks : Bool) (d : Data) → fits wanted.Value d ≡ asks
    → IsNoted wanted.Value (λ e. asks ≡ true) (asks ≡ false) (Some d)
by_value true d is = it_counts is refl
by_value false d is = ignored is refl

pub value_noted : (member : Option Data)
    → IsNoted wanted.Value (λ d. is_value member ≡ true) (is_value member ≡ false) member
value_noted None = not_there refl
value_noted (Some d) = by_value (is_value (Some d)) d refl

-- ---- an object

pub os_noted : (os : Option Data)
    → IsNoted wanted.Object (λ d. (ms : Members) × (d ≡ object ms))
    (option_and_then (text_in (codes "platform")) os ≡ None) os
os_noted None = not_there refl
os_noted (Some null) = ignored refl refl
os_noted (Some (boolean b)) = ignored refl refl
os_noted (Some (number n)) = ignored refl refl
os_noted (Some (string text)) = ignored refl refl
os_noted (Some (array items)) = ignored refl refl
os_noted (Some (object ms)) = it_counts refl (ms, refl)

pub platform_noted : (os : Option Data)
    → Keeps (Some (kept_text (option_and_then (text_in (codes "platform")) os)))
    (platform_written os)
platform_noted None = attribute_noted None
platform_noted (Some os) = attribute_noted (get (codes "platform") os)
