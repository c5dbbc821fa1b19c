-- The results of a program's helpers for an app: functions of only its attributes.
use Rattle.std.specs.Prelude.{ℕ, ◌%◌, List, ◌++◌, length}
use Rattle.std.specs.Prelude.{Option, Some, None, slice_get, bytes_eq, if◌then◌else◌}
use Rattle.std.specs.Int.{w64, to_le_bytes}
use Rattle.attrs.specs.Attributes.{Attributes}
use Rattle.attrs.specs.Bucket.{four_digits}
use Rattle.attrs.specs.Hash.{fnv1a}

-- an attribute's text by its number, which may be unknown
abbrev pub attribute : Attributes → ℕ → Option (List ℕ)
attribute a number = slice_get a.texts number

-- 1 if an attribute has these bytes, otherwise 0
abbrev pub is_text : List ℕ → Option (List ℕ) → ℕ
is_text bytes (Some text) = if bytes_eq text bytes then 1 else 0
is_text bytes None = 0

-- whether an attribute's text is these bytes
abbrev pub attr_is : Attributes → (number : ℕ) → (bytes : List ℕ) → ℕ
attr_is a number bytes = is_text bytes (attribute a number)

-- the length in bytes
abbrev pub text_length : Option (List ℕ) → ℕ
text_length (Some text) = length text
text_length None = 0

-- the length of an attribute's text, 0 for an unknown number
abbrev pub attr_len : Attributes → (number : ℕ) → ℕ
attr_len a number = text_length (attribute a number)

-- a bucket by a salt: a hash of the app's bucket, as four digits, and the salt's bytes
abbrev pub bucket_of : Attributes → (salt : ℕ) → ℕ
bucket_of a salt = fnv1a (four_digits a.context.bucket ++ to_le_bytes w64 salt) % 10000
