-- Bytes with and without a JSON value.
use Rattle.std.proofs.Common.{◌≡◌, ◌∙◌, ℕ, List, Bool, true, false}
use Rattle.std.proofs.Common.{Option, None, if◌then◌else◌, refl, ap}
use Rattle.std.specs.Str.{IsUtf8, is_utf8}
use Rattle.std.proofs.lemmas.Str.{is_utf8-from_IsUtf8, IsUtf8-from_is_utf8}
use Rattle.serde_json.specs.Data.{Data}
use Rattle.serde_json.specs.Read.{read}
use Rattle.json_value.specs.Bytes.{json_of}

as_read : (b : Bool) (o p : Option Data) → b ≡ true → p ≡ o → p ≡ (if b then o else None)
as_read true o p holds is = is
as_read false o p holds is = cc

none_read : (b : Bool) (o : Option Data) → (b ≡ true → ⊥) → None ≡ (if b then o else None)
none_read true o fails = absurd (fails refl)
none_read false o fails = refl

pub utf8_value : (bytes text : List ℕ) (p : Option Data) → IsUtf8 bytes → text ≡ bytes
    → p ≡ read text → p ≡ json_of bytes
unfolding json_of
utf8_value bytes text p utf8 same is =
    as_read (is_utf8 bytes) (read bytes) p (is_utf8-from_IsUtf8 bytes utf8) (is ∙ ap read same)

pub no_utf8 : (bytes : List ℕ) → (IsUtf8 bytes → ⊥) → None ≡ json_of bytes
unfolding json_of
no_utf8 bytes fails =
    none_read (is_utf8 bytes) (read bytes) (λ e. fails (IsUtf8-from_is_utf8 bytes e))
