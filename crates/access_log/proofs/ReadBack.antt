-- The bytes between the quotes of a text are read back as the text.
use Rattle.std.proofs.Common.{◌≡◌, ℕ, ◌+◌, ◌*◌, ◌/◌, ◌%◌, ◌<◌, ◌≤◌}
use Rattle.std.proofs.Common.{◌⊎◌, inl, inr, List, [], ◌∷◌, ◌++◌}
use Rattle.std.proofs.Common.{Bool, true, false, cond, ◌&&◌, refl, sym, ap, ◌∙◌, subst, arith}
use Rattle.std.proofs.Common.{append_assoc, Option, Some, None, option_and_then}
use Rattle.std.specs.Prelude.{nat_lt, encode_utf8}
use Rattle.std.specs.Char.{digit_char, digit_value}
use Rattle.std.specs.List.{flat_map}
use Rattle.std.specs.Str.{chars, encode_utf8_all}
use Rattle.std.proofs.lemmas.Bool.{cases_eq, cases_lt, ne_eqb, lt-ltb, le-ltb, lt-leb, ltb-true}
use Rattle.std.proofs.lemmas.Bool.Decides.{nat_tests}
use Rattle.std.proofs.lemmas.Str.{encode_ascii, encodes-chars}
use lib.Utf8.{encode}
use Rattle.json.specs.Print.{escape_byte}
use Rattle.json.specs.Text.{content, plain, after_high, prepend, code_unit}
use Rattle.json.specs.Text.{short_escape, is_high_surrogate, is_low_surrogate}
use Rattle.json.proofs.Printed.Strings.{escape_byte_plain}
use Rattle.printing.specs.Printed.{is_control}
use Rattle.access_log.specs.Spelled.{IsReadBack, spelled_char}

either : {A : Type 0} (P : A → Type 0) (b : Bool) (x y : A)
    → (b ≡ true → P x) → (b ≡ false → P y) → P (cond b x y)
either P true x y first other = first refl
either P false x y first other = other refl

-- the bytes `shown` are read as `text`
abbrev Reads : List ℕ → List ℕ → Type 0
Reads shown text = (r : List ℕ) → content plain (shown ++ r) ≡ prepend text (content plain r)

-- ---- four digits

value_of : (d : ℕ) → d < 16 → digit_value (digit_char d) ≡ d
value_of d few = grind (arith, nat_tests)

abbrev unit : ℕ → ℕ → ℕ → ℕ → Option ℕ
unit a b c d =
    cond (nat_lt a 16 && nat_lt b 16 && nat_lt c 16 && nat_lt d 16)
    (Some (a * 4096 + b * 256 + c * 16 + d)) None

unit_of : (a b c d : ℕ) → a < 16 → b < 16 → c < 16 → d < 16
    → code_unit (digit_char a) (digit_char b) (digit_char c) (digit_char d)
    ≡ Some (a * 4096 + b * 256 + c * 16 + d)
unfolding code_unit
unit_of a b c d p q r s =
    rw (
      value_of a p,
      value_of b q,
      value_of c r,
      value_of d s,
      lt-ltb a 16 p,
      lt-ltb b 16 q,
      lt-ltb c 16 r,
      lt-ltb d 16 s,
    )

escape_reads : (a b c d n : ℕ) → a < 16 → b < 16 → c < 16 → d < 16 → n < 0xd800
    → a * 4096 + b * 256 + c * 16 + d ≡ n
    → Reads (92 ∷ 117 ∷ digit_char a ∷ digit_char b ∷ digit_char c ∷ digit_char d ∷ [])
    (encode_utf8 n)
unfolding content
escape_reads a b c d n p q r s small is rest =
    ap
    (option_and_then
    (λ (u : ℕ). cond (is_high_surrogate u) (content (after_high u) rest)
    (cond (is_low_surrogate u) None (prepend (encode_utf8 u) (content plain rest)))))
    (unit_of a b c d p q r s ∙ ap Some is)
    ∙ rw (lt-leb 0xd800 n small, lt-leb 0xdc00 n (omega (arith, small)))

-- ---- bytes

quote_reads : Reads (escape_byte 34) (34 ∷ [])
unfolding escape_byte content short_escape
quote_reads r = refl

backslash_reads : Reads (escape_byte 92) (92 ∷ [])
unfolding escape_byte content short_escape
backslash_reads r = refl

backspace_reads : Reads (escape_byte 8) (8 ∷ [])
unfolding escape_byte content short_escape
backspace_reads r = refl

tab_reads : Reads (escape_byte 9) (9 ∷ [])
unfolding escape_byte content short_escape
tab_reads r = refl

line_feed_reads : Reads (escape_byte 10) (10 ∷ [])
unfolding escape_byte content short_escape
line_feed_reads r = refl

form_feed_reads : Reads (escape_byte 12) (12 ∷ [])
unfolding escape_byte content short_escape
form_feed_reads r = refl

return_reads : Reads (escape_byte 13) (13 ∷ [])
unfolding escape_byte content short_escape
return_reads r = refl

-- a byte that needs no escape
as_it_is : (x : ℕ) → (x ≡ 34 → ⊥) → (x ≡ 92 → ⊥) → 32 ≤ x → Reads (x ∷ []) (x ∷ [])
unfolding content
as_it_is x q b l r = rw (ne_eqb x 34 q, ne_eqb x 92 b, le-ltb x 32 l)

control_is : (x : ℕ) → x < 32 → (x ≡ 8 → ⊥) → (x ≡ 9 → ⊥) → (x ≡ 10 → ⊥) → (x ≡ 12 → ⊥)
    → (x ≡ 13 → ⊥)
    → escape_byte x ≡ 92 ∷ 117 ∷ 48 ∷ 48 ∷ digit_char (x / 16) ∷ digit_char (x % 16) ∷ []
unfolding escape_byte
control_is x low a b c d e =
    rw (
      ne_eqb x 34 (λ is. omega (arith, low, is)),
      ne_eqb x 92 (λ is. omega (arith, low, is)),
      ne_eqb x 8 a,
      ne_eqb x 12 d,
      ne_eqb x 10 c,
      ne_eqb x 13 e,
      ne_eqb x 9 b,
      lt-ltb x 32 low,
    )

control_reads : (x : ℕ) → x < 32 → (x ≡ 8 → ⊥) → (x ≡ 9 → ⊥) → (x ≡ 10 → ⊥) → (x ≡ 12 → ⊥)
    → (x ≡ 13 → ⊥) → Reads (escape_byte x) (x ∷ [])
control_reads x low a b c d e =
    subst (λ (l : List ℕ). Reads l (x ∷ [])) (sym (control_is x low a b c d e))
    (subst
    (λ (l : List ℕ). Reads (92 ∷ 117 ∷ 48 ∷ 48 ∷ digit_char (x / 16) ∷ digit_char (x % 16) ∷ []) l)
    (encode_ascii x (omega (arith, low)))
    (escape_reads 0 0 (x / 16) (x % 16) x (omega arith) (omega arith) (omega (arith, low))
    (omega arith) (omega (arith, low)) (omega arith)))

byte_reads : (x : ℕ) → Reads (escape_byte x) (x ∷ [])
byte_reads x =
    go (cases_eq x 34) (cases_eq x 92) (cases_lt x 32) (cases_eq x 8) (cases_eq x 9)
    (cases_eq x 10) (cases_eq x 12) (cases_eq x 13)
  where
    P : ℕ → Type 0
    P y = Reads (escape_byte y) (y ∷ [])

    go : (x ≡ 34) ⊎ (x ≡ 34 → ⊥) → (x ≡ 92) ⊎ (x ≡ 92 → ⊥) → (x < 32) ⊎ (32 ≤ x)
        → (x ≡ 8) ⊎ (x ≡ 8 → ⊥) → (x ≡ 9) ⊎ (x ≡ 9 → ⊥) → (x ≡ 10) ⊎ (x ≡ 10 → ⊥)
        → (x ≡ 12) ⊎ (x ≡ 12 → ⊥) → (x ≡ 13) ⊎ (x ≡ 13 → ⊥) → P x
    go (inl e) b c d f g h i = subst P (sym e) quote_reads
    go (inr q) (inl e) c d f g h i = subst P (sym e) backslash_reads
    go (inr q) (inr b) (inr high) d f g h i =
        subst (λ (l : List ℕ). Reads l (x ∷ [])) (sym (escape_byte_plain x q b high))
        (as_it_is x q b high)
    go (inr q) (inr b) (inl low) (inl e) f g h i = subst P (sym e) backspace_reads
    go (inr q) (inr b) (inl low) (inr d) (inl e) g h i = subst P (sym e) tab_reads
    go (inr q) (inr b) (inl low) (inr d) (inr f) (inl e) h i = subst P (sym e) line_feed_reads
    go (inr q) (inr b) (inl low) (inr d) (inr f) (inr g) (inl e) i =
        subst P (sym e) form_feed_reads
    go (inr q) (inr b) (inl low) (inr d) (inr f) (inr g) (inr h) (inl e) =
        subst P (sym e) return_reads
    go (inr q) (inr b) (inl low) (inr d) (inr f) (inr g) (inr h) (inr i) =
        control_reads x low d f g h i

-- ---- characters

high_byte : (b : ℕ) → 128 ≤ b → Reads (b ∷ []) (b ∷ [])
high_byte b high =
    as_it_is b (λ e. omega (arith, high, e)) (λ e. omega (arith, high, e)) (omega (arith, high))

joined : (x y : List ℕ) (o : Option (List ℕ)) → prepend x (prepend y o) ≡ prepend (x ++ y) o
joined x y None = refl
joined x y (Some z) = ap Some (sym (append_assoc x y z))

both_read : (a b c d : List ℕ) → Reads a c → Reads b d → Reads (a ++ b) (c ++ d)
both_read a b c d first last r =
    ap (content plain) (append_assoc a b r) ∙ first (b ++ r) ∙ ap (prepend c) (last r)
    ∙ joined c d (content plain r)

-- a byte and those after it
then_reads : (b : ℕ) (bs : List ℕ) → 128 ≤ b → Reads bs bs → Reads (b ∷ bs) (b ∷ bs)
then_reads b bs high = both_read (b ∷ []) bs (b ∷ []) bs (high_byte b high)

two_read : (a b : ℕ) → 128 ≤ a → 128 ≤ b → Reads (a ∷ b ∷ []) (a ∷ b ∷ [])
two_read a b p q = then_reads a (b ∷ []) p (high_byte b q)

three_read : (a b c : ℕ) → 128 ≤ a → 128 ≤ b → 128 ≤ c
    → Reads (a ∷ b ∷ c ∷ []) (a ∷ b ∷ c ∷ [])
three_read a b c p q r = then_reads a (b ∷ c ∷ []) p (two_read b c q r)

four_read : (a b c d : ℕ) → 128 ≤ a → 128 ≤ b → 128 ≤ c → 128 ≤ d
    → Reads (a ∷ b ∷ c ∷ d ∷ []) (a ∷ b ∷ c ∷ d ∷ [])
four_read a b c d p q r s = then_reads a (b ∷ c ∷ d ∷ []) p (three_read b c d q r s)

high_reads : (c : ℕ) → 128 ≤ c → Reads (encode_utf8 c) (encode_utf8 c)
unfolding encode
high_reads c high =
    let P = λ (l : List ℕ). Reads l l in
    either P (nat_lt c 128) _ _ (λ e. absurd (grind (arith, nat_tests)))
    (λ e. either P (nat_lt c 2048) _ _
    (λ f. two_read (192 + c / 64) (128 + c % 64) (omega arith) (omega arith))
    (λ f. either P (nat_lt c 65536) _ _
    (λ g. three_read (224 + c / 4096) (128 + c / 64 % 64) (128 + c % 64) (omega arith)
    (omega arith) (omega arith))
    (λ g. four_read (240 + c / 262144) (128 + c / 4096 % 64) (128 + c / 64 % 64) (128 + c % 64)
    (omega arith) (omega arith) (omega arith) (omega arith))))

control_is_low : (c : ℕ) → is_control c ≡ true → c < 0xd800
control_is_low c is = grind (arith, nat_tests)

above_del : (c : ℕ) → nat_lt c 127 ≡ false → is_control c ≡ false → 128 ≤ c
above_del c high is = grind (arith, nat_tests)

char_reads : (c : ℕ) → Reads (spelled_char c) (encode_utf8 c)
char_reads c =
    let P = λ (l : List ℕ). Reads l (encode_utf8 c) in
    either P (nat_lt c 127) _ _
    (λ e. let low = ltb-true c 127 e in
    subst (λ (l : List ℕ). Reads (escape_byte c) l) (sym (encode_ascii c (omega (arith, low))))
    (byte_reads c))
    (λ e. either P (is_control c) _ _
    (λ f. let low = control_is_low c f in
    escape_reads (c / 4096) (c / 256 % 16) (c / 16 % 16) (c % 16) c (omega (arith, low))
    (omega arith) (omega arith) (omega arith) low (omega arith))
    (λ f. high_reads c (above_del c e f)))

chars_read : (cs r : List ℕ)
    → content plain (flat_map spelled_char cs ++ 34 ∷ r) ≡ Some (encode_utf8_all cs)
unfolding content
chars_read [] r = refl
chars_read (c ∷ cs) r =
    ap (content plain) (append_assoc (spelled_char c) (flat_map spelled_char cs) (34 ∷ r))
    ∙ char_reads c (flat_map spelled_char cs ++ 34 ∷ r)
    ∙ ap (prepend (encode_utf8 c)) (chars_read cs r)

pub text_reads : (text : List ℕ) → IsReadBack text
text_reads text is r = chars_read (chars text) r ∙ ap Some (encodes-chars text is)
