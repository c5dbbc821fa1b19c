-- Control characters are escaped, and all other characters are printed unchanged.
use Rattle.std.proofs.Common.{◌≡◌, ◌∙◌, refl, sym, ap, subst, ℕ, zero, suc, ◌+◌, ◌/◌, ◌%◌, ◌<◌, ◌≤◌}
use Rattle.std.proofs.Common.{List, [], ◌∷◌, ◌++◌, append-nil, codes, arith, chars, flat_map}
use Rattle.std.proofs.Common.{IsUtf8}
use Rattle.std.proofs.Common.{Bool, true, false, not, ◌&&◌, ◌||◌, ◌==◌, if◌then◌else◌}
use Rattle.std.proofs.Common.{nat_lt, encode_utf8, encode_utf8_all}
use Rattle.std.proofs.lemmas.Str.{NoCharPasses-append, NoCharPasses-nil, encode_ascii}
use Rattle.std.proofs.lemmas.Str.{encodes-chars, encodes_same}
use Rattle.std.specs.Fmt.{digit_glyph, digits, digits_onto}
use Rattle.std.specs.Str.{NoCharPasses, NonePass}
use Rattle.printing.specs.Laws.{PrintsNoControl}
use Rattle.printing.specs.Printed.{escape, is_control, is_control_in_line, printed, printed_char}
use Rattle.printing.specs.Printed.{printed_lines}

-- ---- the digits of an escape: 0 to 9 and a to f lie among these bytes

abbrev AllPlain : List ℕ → Type 0
AllPlain [] = Unit {0}
AllPlain (b ∷ bs) = (48 ≤ b) × (b ≤ 102) × AllPlain bs

record ArePlain (bs : List ℕ) : Type 0 where
  all : AllPlain bs

either : (b : Bool) {xs ys : List ℕ} → ArePlain xs → ArePlain ys
    → ArePlain (if b then xs else ys)
either true first second = first
either false first second = second

glyph_from : (d : ℕ) → 48 ≤ digit_glyph false d
glyph_from d = by_case (nat_lt d 10)
  where
    by_case : (b : Bool) → 48 ≤ (if b then 48 + d else (if false then 55 + d else 87 + d))
    by_case true = omega arith
    by_case false = omega arith

glyph_to : (d : ℕ) → d < 16 → digit_glyph false d ≤ 102
glyph_to d low = grind arith

put : (d : ℕ) {bs : List ℕ} → d < 16 → ArePlain bs → ArePlain (digit_glyph false d ∷ bs)
put d low plain = record { all = (glyph_from d, glyph_to d low, plain.all) }

remainder : (n : ℕ) → n % 16 < 16
remainder n = omega arith

digits_are_plain : (k n : ℕ) (after : List ℕ) → ArePlain after
    → ArePlain (digits_onto k 16 false n after)
digits_are_plain zero n after plain = plain
digits_are_plain (suc k) n after plain =
    let more = put (n % 16) (remainder n) plain in
    either (n / 16 == 0) more
    (digits_are_plain k (n / 16) (digit_glyph false (n % 16) ∷ after) more)

hexadecimal : (n : ℕ) → ArePlain (digits 16 false n)
unfolding digits
hexadecimal n = digits_are_plain 64 n [] (record { all = tt })

plain_is_low : (b : ℕ) → b ≤ 102 → b < 128
plain_is_low b low = omega (arith, low)

plain_is_printed : (b : ℕ) → 48 ≤ b → b ≤ 102 → is_control b ≡ false
plain_is_printed b from to = grind arith

spelled_alike : (bs : List ℕ) → AllPlain bs → encode_utf8_all bs ≡ bs
spelled_alike [] plain = refl
spelled_alike (b ∷ bs) plain =
    ap (λ (l : List ℕ). l ++ encode_utf8_all bs) (encode_ascii b (plain_is_low b plain.1))
    ∙ ap (λ (l : List ℕ). b ∷ l) (spelled_alike bs plain.2)

-- ---- for any test that only control characters pass

module _ (p : ℕ → Bool) (fewer : (c : ℕ) → is_control c ≡ false → p c ≡ false) where
  plain_pass_none : (bs : List ℕ) → AllPlain bs → NonePass p bs
  plain_pass_none [] plain = tt
  plain_pass_none (b ∷ bs) plain =
      (fewer b (plain_is_printed b plain.0 plain.1), plain_pass_none bs plain.2)

  digits_pass : (c : ℕ) → NoCharPasses p (digits 16 false c)
  digits_pass c =
      let plain = (hexadecimal c).all in (
        digits 16 false c,
        spelled_alike (digits 16 false c) plain,
        plain_pass_none (digits 16 false c) plain,
      )

  low_passes : (b : ℕ) → b < 128 → is_control b ≡ false → NoCharPasses p (b ∷ [])
  low_passes b low fails =
      (b ∷ [], ap (λ (l : List ℕ). l ++ []) (encode_ascii b low), (fewer b fails, tt))

  escape_passes : (c : ℕ) → NoCharPasses p (escape c)
  escape_passes c =
      let opened : NoCharPasses p (codes "\\u{") =
      NoCharPasses-append p (92 ∷ []) (117 ∷ 123 ∷ []) (low_passes 92 (omega arith) refl)
      (NoCharPasses-append p (117 ∷ []) (123 ∷ []) (low_passes 117 (omega arith) refl)
      (low_passes 123 (omega arith) refl)) in
      NoCharPasses-append p (codes "\\u{" ++ digits 16 false c) (codes "}")
      (NoCharPasses-append p (codes "\\u{") (digits 16 false c) opened (digits_pass c))
      (low_passes 125 (omega arith) refl)

  one_passes : (c : ℕ) (b : Bool) → p c ≡ b
      → NoCharPasses p (if b then escape c else encode_utf8 c)
  one_passes c true is = escape_passes c
  one_passes c false is = (c ∷ [], append-nil (encode_utf8 c), (is, tt))

  all_pass : (cs : List ℕ) → NoCharPasses p (flat_map (printed_char p) cs)
  all_pass [] = NoCharPasses-nil p
  all_pass (c ∷ cs) =
      NoCharPasses-append p (printed_char p c) (flat_map (printed_char p) cs)
      (one_passes c (p c) refl) (all_pass cs)

  written_alike : (cs : List ℕ) → NonePass p cs
      → flat_map (printed_char p) cs ≡ encode_utf8_all cs
  written_alike [] none = refl
  written_alike (c ∷ cs) none =
      ap (λ (b : Bool). (if b then escape c else encode_utf8 c) ++ flat_map (printed_char p) cs)
      none.0
      ∙ ap (λ (l : List ℕ). encode_utf8 c ++ l) (written_alike cs none.1)

  kept : (text : List ℕ) → IsUtf8 text → NoCharPasses p text
      → flat_map (printed_char p) (chars text) ≡ text
  kept text utf8 none =
      let spelled : encode_utf8_all (chars text) ≡ text = encodes-chars text utf8 in
      let same : none.0 ≡ chars text = encodes_same none.0 (chars text) (none.1 ∙ sym spelled) in
      written_alike (chars text) (subst (NonePass p) same none.2) ∙ spelled

in_line_fewer : (c : ℕ) → is_control c ≡ false → is_control_in_line c ≡ false
in_line_fewer c fails = ap (λ (b : Bool). b && not ((c == 9) || (c == 10))) fails

pub no_control_is_printed : PrintsNoControl
unfolding printed printed_lines
no_control_is_printed = record {
  text_has_none = λ text. all_pass is_control (λ c fails. fails) (chars text);
  text_is_kept = kept is_control (λ c fails. fails);
  lines_have_none = λ text. all_pass is_control_in_line in_line_fewer (chars text);
  lines_are_kept = kept is_control_in_line in_line_fewer;
}
