-- Bytes with and without a JSON value.
use Rattle.std.proofs.Common.{◌≡◌, ℕ, List, Bool, true, false}
use Rattle.std.proofs.Common.{Option, Some, None, if◌then◌else◌, refl}
use Rattle.std.specs.Str.{IsUtf8, is_utf8}
use Rattle.std.proofs.lemmas.Str.{is_utf8-from_IsUtf8, IsUtf8-from_is_utf8}
use Rattle.serde_json.specs.Data.{Data}
use Rattle.serde_json.specs.Read.{read}
use Rattle.json_value.specs.Bytes.{json_of}

some_if : (b : Bool) (o : Option Data) (d : Data)
    → b ≡ true → o ≡ Some d → (if b then o else None) ≡ Some d
some_if true o d holds found = found
some_if false o d holds found = cc

none_if : (b : Bool) (o : Option Data) → (b ≡ true → o ≡ None) → (if b then o else None) ≡ None
none_if true o none = none refl
none_if false o none = refl

pub value_found : (bytes : List ℕ) (d : Data)
    → IsUtf8 bytes → read bytes ≡ Some d → json_of bytes ≡ Some d
unfolding json_of
value_found bytes d utf8 found =
    some_if (is_utf8 bytes) (read bytes) d (is_utf8-from_IsUtf8 bytes utf8) found

pub value_missing : (bytes : List ℕ) → (IsUtf8 bytes → read bytes ≡ None) → json_of bytes ≡ None
unfolding json_of
value_missing bytes none =
    none_if (is_utf8 bytes) (read bytes) (λ e. none (IsUtf8-from_is_utf8 bytes e))
