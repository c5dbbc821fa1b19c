-- A text without control characters is printed as it is.
use Rattle.std.proofs.Common.{◌≡◌, refl, sym, ℕ, List, [], ◌∷◌, Bool, true, false, ◌||◌, chars}
use Rattle.std.proofs.Common.{IsUtf8}
use Rattle.std.proofs.lemmas.Str.{encodes-chars}
use Rattle.std.specs.List.{list_any}
use Rattle.std.specs.Str.{NonePass}
use Rattle.printing.specs.Laws.{PrintsNoControl}
use Rattle.printing.specs.Printed.{has_control, is_control, printed}

none_pass : (p : ℕ → Bool) (cs : List ℕ) → list_any p cs ≡ false → NonePass p cs
none_pass p [] none = tt
none_pass p (c ∷ cs) none = (
  (neither (p c) (list_any p cs) none).0,
  none_pass p cs (neither (p c) (list_any p cs) none).1,
)
  where
    neither : (a b : Bool) → (a || b) ≡ false → (a ≡ false) × (b ≡ false)
    neither true b none = cc
    neither false b none = (refl, none)

pub plain_is_printed : PrintsNoControl → (text : List ℕ) → IsUtf8 text → has_control text ≡ false
    → text ≡ printed text
plain_is_printed law text utf8 none =
    sym (law.text_is_kept text utf8
    (chars text, encodes-chars text utf8, none_pass is_control (chars text) none))
