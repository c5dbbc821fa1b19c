-- Between quotes: only printable ASCII without a quote, and texts of this form unchanged.
use Rattle.std.proofs.Common.{◌≡◌, ◌∙◌, refl, sym, ap, subst, ℕ, zero, suc, ◌+◌, ◌/◌, ◌%◌, ◌<◌, ◌≤◌}
use Rattle.std.proofs.Common.{List, [], ◌∷◌, ◌++◌, codes, arith, chars, flat_map, IsUtf8}
use Rattle.std.proofs.Common.{Bool, true, false, ◌==◌, if◌then◌else◌}
use Rattle.std.proofs.Common.{nat_lt, encode_utf8, encode_utf8_all}
use Rattle.std.proofs.lemmas.Bool.{or_parts}
use Rattle.std.proofs.lemmas.Str.{encode_ascii, encodes-chars, encodes_same}
use Rattle.std.specs.Fmt.{digit_glyph, digits, digits_onto}
use Rattle.std.specs.Str.{NoCharPasses, NonePass}
use Rattle.printing.specs.Printed.{escape, printed_char}
use Rattle.why_choice.specs.Quoted.{QuotesEndTexts, escaped, is_kept_out, is_shown_by_number}

-- ---- the digits of a number: 0 to 9 and a to f lie among these bytes

abbrev AreGlyphs : List ℕ → Type 0
AreGlyphs [] = Unit {0}
AreGlyphs (b ∷ bs) = (48 ≤ b) × (b ≤ 102) × AreGlyphs bs

record HasGlyphs (bs : List ℕ) : Type 0 where
  pub all : AreGlyphs bs

either : (b : Bool) {xs ys : List ℕ} → HasGlyphs xs → HasGlyphs ys
    → HasGlyphs (if b then xs else ys)
either true first second = first
either false first second = second

glyph_from : (d : ℕ) → 48 ≤ digit_glyph false d
glyph_from d = by_case (nat_lt d 10)
  where
    by_case : (b : Bool) → 48 ≤ (if b then 48 + d else (if false then 55 + d else 87 + d))
    by_case true = omega arith
    by_case false = omega arith

glyph_to : (d : ℕ) → d < 16 → digit_glyph false d ≤ 102
glyph_to d low = grind arith

put : (d : ℕ) {bs : List ℕ} → d < 16 → HasGlyphs bs → HasGlyphs (digit_glyph false d ∷ bs)
put d low glyphs = record { all = (glyph_from d, glyph_to d low, glyphs.all) }

-- in base 16 or less
digits_are_glyphs : (base : ℕ) → ((n : ℕ) → n % base < 16) → (k n : ℕ) (after : List ℕ)
    → HasGlyphs after → HasGlyphs (digits_onto k base false n after)
digits_are_glyphs base low zero n after glyphs = glyphs
digits_are_glyphs base low (suc k) n after glyphs =
    let more = put (n % base) (low n) glyphs in
    either (n / base == 0) more
    (digits_are_glyphs base low k (n / base) (digit_glyph false (n % base) ∷ after) more)

hexadecimal : (n : ℕ) → HasGlyphs (digits 16 false n)
unfolding digits
hexadecimal n = digits_are_glyphs 16 (λ m. omega arith) 64 n [] (record { all = tt })

-- ---- bytes that may be between quotes

abbrev MayOccur : List ℕ → Type 0
MayOccur [] = Unit {0}
MayOccur (b ∷ bs) = (b < 128) × (is_kept_out b ≡ false) × MayOccur bs

both_stand : (xs ys : List ℕ) → MayOccur xs → MayOccur ys → MayOccur (xs ++ ys)
both_stand [] ys p q = q
both_stand (x ∷ xs) ys p q = (p.0, p.1, both_stand xs ys p.2 q)

glyph_stands : (b : ℕ) → 48 ≤ b → b ≤ 102 → is_kept_out b ≡ false
glyph_stands b from to = grind arith

glyphs_stand : (bs : List ℕ) → AreGlyphs bs → MayOccur bs
glyphs_stand [] glyphs = tt
glyphs_stand (b ∷ bs) glyphs =
    (omega (arith, glyphs.1), glyph_stands b glyphs.0 glyphs.1, glyphs_stand bs glyphs.2)

opening_stands : MayOccur (92 ∷ 117 ∷ 123 ∷ [])
opening_stands = (omega arith, refl, (omega arith, refl, (omega arith, refl, tt)))

escape_stands : (c : ℕ) → MayOccur (escape c)
escape_stands c =
    both_stand (codes "\\u{" ++ digits 16 false c) (codes "}")
    (both_stand (codes "\\u{") (digits 16 false c) opening_stands
    (glyphs_stand (digits 16 false c) (hexadecimal c).all))
    (omega arith, refl, tt)

others_are_low : (c : ℕ) → is_shown_by_number c ≡ false → c < 128
others_are_low c is = grind arith

others_are_spelled : (c : ℕ) → is_shown_by_number c ≡ false → encode_utf8 c ≡ c ∷ []
others_are_spelled c is = encode_ascii c (others_are_low c is)

one_stands : (c : ℕ) (b : Bool) → is_shown_by_number c ≡ b
    → MayOccur (if b then escape c else encode_utf8 c)
one_stands c true is = escape_stands c
one_stands c false is =
    subst MayOccur (sym (others_are_spelled c is))
    (others_are_low c is, (or_parts (is_kept_out c) (c == 92) is).0, tt)

all_stand : (cs : List ℕ) → MayOccur (flat_map (printed_char is_shown_by_number) cs)
all_stand [] = tt
all_stand (c ∷ cs) =
    both_stand (printed_char is_shown_by_number c) (flat_map (printed_char is_shown_by_number) cs)
    (one_stands c (is_shown_by_number c) refl) (all_stand cs)

spelled_alike : (bs : List ℕ) → MayOccur bs → encode_utf8_all bs ≡ bs
spelled_alike [] stand = refl
spelled_alike (b ∷ bs) stand =
    ap (λ (l : List ℕ). l ++ encode_utf8_all bs) (encode_ascii b stand.0)
    ∙ ap (λ (l : List ℕ). b ∷ l) (spelled_alike bs stand.2)

none_passes : (bs : List ℕ) → MayOccur bs → NonePass is_kept_out bs
none_passes [] stand = tt
none_passes (b ∷ bs) stand = (stand.1, none_passes bs stand.2)

some_stand : (bs : List ℕ) → MayOccur bs → NoCharPasses is_kept_out bs
some_stand bs stand = (bs, spelled_alike bs stand, none_passes bs stand)

-- ---- characters that aren't escaped are unchanged

written_alike : (cs : List ℕ) → NonePass is_shown_by_number cs
    → flat_map (printed_char is_shown_by_number) cs ≡ encode_utf8_all cs
written_alike [] none = refl
written_alike (c ∷ cs) none =
    ap (λ (b : Bool). (if b then escape c else encode_utf8 c)
    ++ flat_map (printed_char is_shown_by_number) cs) none.0
    ∙ ap (λ (l : List ℕ). encode_utf8 c ++ l) (written_alike cs none.1)

kept : (text : List ℕ) → IsUtf8 text → NoCharPasses is_shown_by_number text
    → flat_map (printed_char is_shown_by_number) (chars text) ≡ text
kept text utf8 none =
    let spelled : encode_utf8_all (chars text) ≡ text = encodes-chars text utf8 in
    let same : none.0 ≡ chars text = encodes_same none.0 (chars text) (none.1 ∙ sym spelled) in
    written_alike (chars text) (subst (NonePass is_shown_by_number) same none.2) ∙ spelled

pub quotes_end_texts : QuotesEndTexts
unfolding escaped
quotes_end_texts = record {
  none_there =
      λ text. some_stand (flat_map (printed_char is_shown_by_number) (chars text))
      (all_stand (chars text));
  others_there = kept;
}
