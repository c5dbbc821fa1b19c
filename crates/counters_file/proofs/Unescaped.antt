-- Bytes that are an appid that can be halted, or that aren't.
use Rattle.std.proofs.Common.{◌≡◌, ℕ, Bool, true, false, List, Option, Some, None, Global, refl}
use Rattle.std.proofs.Common.{sym, ap}
use Rattle.std.proofs.Common.{subst, ◌∙◌}
use Rattle.std.specs.Prelude.{IsUtf8, if◌then◌else◌, ◌&&◌, string_bytes}
use Rattle.std.specs.Str.{is_utf8}
use Rattle.std.specs.declared.string.String.{String}
use Rattle.std.proofs.lemmas.Str.{IsUtf8-from_is_utf8, IsUtf8-string_bytes, is_utf8-from_IsUtf8}
use Rattle.counters_file.specs.Halts.{appid_in, can_be_halted}

pub text_found : (bytes : List ℕ) (text : String Global) (found : Option (List ℕ))
    → string_bytes text ≡ bytes
    → found ≡ (if can_be_halted (string_bytes text) then Some (string_bytes text) else None)
    → found ≡ appid_in bytes
text_found bytes text found is are =
    are ∙ ap (λ (bs : List ℕ). if can_be_halted bs then Some bs else None) is
    ∙ sym (ap (λ (b : Bool). if b && can_be_halted bytes then Some bytes else None)
    (is_utf8-from_IsUtf8 bytes (subst IsUtf8 is (IsUtf8-string_bytes text))))

pub no_text : (bytes : List ℕ) → ¬ IsUtf8 bytes → None ≡ appid_in bytes
no_text bytes other = at (is_utf8 bytes) refl
  where
    at : (b : Bool) → is_utf8 bytes ≡ b → None ≡ appid_in bytes
    at true is = absurd (other (IsUtf8-from_is_utf8 bytes is))
    at false is =
        sym (ap (λ (b : Bool). if b && can_be_halted bytes then Some bytes else None) is)
