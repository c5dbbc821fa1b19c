-- Lines without the line feed that ends the last of them.
use Rattle.std.proofs.Common.{◌≡◌, ◌≢◌, ◌∙◌, sym, ap, refl, ℕ, suc, ◌-◌, List, [], ◌∷◌, ◌++◌}
use Rattle.std.proofs.Common.{Bool, true, false, arith, length, take, drop, None, get_or}
use Rattle.std.proofs.lemmas.Bool.{and_parts, eqb-true, ltb-true}
use Rattle.std.proofs.lemmas.List.{take-append-drop}
use Rattle.std.proofs.lemmas.Str.Pattern.{strip_suffix_char}
use Rattle.std.proofs.Math.ListN.{drop_of_length-le}
use Rattle.std.proofs.Math.Seq.{drop-cons}
use Rattle.std.specs.Prelude.{if◌then◌else◌}
use Rattle.std.specs.Str.Pattern.{FindsCharSuffix}
use Rattle.std.specs.Io.BufRead.{ends_with_byte, strip_last}

whole : (bs : List ℕ) → ends_with_byte 10 bs ≡ true → bs ≡ take (length bs - 1) bs ++ 10 ∷ []
whole bs is =
    let parts = and_parts _ _ is in
    let some = ltb-true 0 (length bs) parts.0 in
    sym (take-append-drop (length bs - 1) bs)
    ∙ ap (λ l. take (length bs - 1) bs ++ l)
    (drop-cons bs (length bs - 1) 0 (omega (arith, some))
    ∙ ap (λ b. b ∷ drop (suc (length bs - 1)) bs)
    (eqb-true (get_or bs (length bs - 1) 0) 10 parts.1)
    ∙ ap (λ l. 10 ∷ l)
    (drop_of_length-le bs {i = suc (length bs - 1)} (omega (arith, some))))

kept_by : (bs : List ℕ) (b : Bool) → ends_with_byte 10 bs ≡ b
    → ((front : List ℕ) → bs ≢ front ++ 10 ∷ [])
    → bs ≡ (if b then take (length bs - 1) bs else bs)
kept_by bs false is none = refl
kept_by bs true is none = absurd (none (take (length bs - 1) bs) (whole bs is))

pub kept : (bs : List ℕ) → FindsCharSuffix 10 bs None → bs ≡ strip_last 10 bs
kept bs none =
    kept_by bs (ends_with_byte 10 bs) refl (strip_suffix_char 10 bs None none (omega arith))
