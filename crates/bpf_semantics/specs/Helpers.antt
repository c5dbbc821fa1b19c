-- The helpers that a program may call (RFC 9669, "Helper Functions"). Each has a row: its number in
-- CALL, its arguments from R1 on, and the greatest number that it returns.
use Rattle.std.specs.Prelude.{ℕ, ◌<◌, ◌≤◌, ◌^◌, ℤ, pos, negsuc, Option, Some, None, option_map}
use Rattle.std.specs.Prelude.{◌==◌, if◌then◌else◌}
use Rattle.attrs.specs.Attributes.{Attributes}
use Rattle.attrs.specs.Helpers.{attr_len, bucket_of}
use Rattle.bpf_semantics.specs.declared.helpers.Helper.{Helper}
use Rattle.bpf_semantics.specs.declared.helpers.Helper.TheVariants.{Lookup, AttrIs, AttrLen, Bucket}
use Rattle.bpf_semantics.specs.declared.helpers.Prototype.{Prototype}
use Rattle.bpf_semantics.specs.declared.helpers.Prototype.TheVariants.{OfMap, OfText, OfNumber}

-- the helpers' numbers in CALL
abbrev pub lookup_number : ℕ
lookup_number = 1

abbrev pub attr_is_number : ℕ
attr_is_number = 2

abbrev pub attr_len_number : ℕ
attr_len_number = 3

abbrev pub bucket_number : ℕ
bucket_number = 4

-- the helper with this number, 1 to 4
abbrev pub helper_of : ℤ → Option Helper
helper_of (negsuc n) = None
helper_of (pos n) =
    if n == lookup_number then Some Lookup
    else if n == attr_is_number then Some AttrIs
    else if n == attr_len_number then Some AttrLen
    else if n == bucket_number then Some Bucket
    else None

-- the prototype, with the greatest result for a number
abbrev pub prototype_of : Helper → Prototype
prototype_of Lookup = OfMap
prototype_of AttrIs = OfText
prototype_of AttrLen = OfNumber 1024
prototype_of Bucket = OfNumber 9999

-- the result of a helper that takes a number
abbrev pub given_of_number : Helper → Attributes → ℕ → ℕ
given_of_number AttrLen a number = attr_len a number
given_of_number Bucket a salt = bucket_of a salt
given_of_number helper a n = 0

-- the prototype of the helper that a CALL names
abbrev pub called_prototype : ℤ → Option Prototype
called_prototype number = option_map prototype_of (helper_of number)

-- ---- a result is at most what the prototype says

-- the greatest result for a number, or for a comparison of texts, which is 0 or 1
abbrev pub most_given : Prototype → ℕ
most_given (OfNumber most) = most
most_given prototype = 1

-- for each number a helper's result is at most this, and this is a word
pub record KeepsMost (a : Attributes) (helper : Helper) : Type 0 where
  pub within : (n : ℕ) → given_of_number helper a n ≤ most_given (prototype_of helper)
  pub word : most_given (prototype_of helper) < 2 ^ 64

-- for each helper
abbrev pub AllKeepMost : Attributes → Type 0
AllKeepMost a = (helper : Helper) → KeepsMost a helper
