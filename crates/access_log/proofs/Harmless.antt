-- What is printed has no control.
use Rattle.std.proofs.Common.{◌≡◌, ℕ, zero, suc, ◌/◌, ◌%◌, ◌<◌, ◌≤◌, List, [], ◌∷◌, ◌++◌}
use Rattle.std.proofs.Common.{Bool, true, false, cond, refl, arith, ap, append-nil}
use Rattle.std.specs.Prelude.{nat_lt, ◌==◌, ◌||◌, ◌&&◌, decimal, encode_utf8}
use Rattle.std.specs.Char.{digit_char}
use Rattle.std.specs.Fmt.{digits, digits_onto, digit_glyph}
use Rattle.std.specs.List.{flat_map}
use Rattle.std.specs.Str.{chars, NoCharPasses}
use Rattle.std.proofs.lemmas.Bool.{ltb-true}
use Rattle.std.proofs.lemmas.Bool.Decides.{nat_tests}
use Rattle.std.proofs.lemmas.Str.{NoCharPasses-append, NoCharPasses-nil, encode_ascii}
use Rattle.json.specs.Print.{escape_letter, escape_byte, separator, begins, ends}
use Rattle.json.specs.Token.{Token, begin_object, end_object, begin_array, end_array, key, string}
use Rattle.json.specs.Token.{number, boolean, null, bad}
use Rattle.printing.specs.Printed.{is_control}
use Rattle.access_log.specs.Line.{IsOneLine, begun_at, object_with, line_with}
use Rattle.access_log.specs.Spelled.{spelled_char, spelled_text}
use Rattle.access_log.specs.Spelled.{spelled_quoted, spelled_token, spelled_from, spelled}
use Rattle.access_log.specs.Tokens.{IsHarmlessToken, AreHarmless}
use Rattle.access_log.specs.declared.log_event.LineHeader.{LineHeader}

-- a text without a control
abbrev pub IsHarmless : List ℕ → Type 0
IsHarmless text = NoCharPasses is_control text

either : {A : Type 0} (P : A → Type 0) (b : Bool) (x y : A)
    → (b ≡ true → P x) → (b ≡ false → P y) → P (cond b x y)
either P true x y first other = first refl
either P false x y first other = other refl

-- ---- bytes of ASCII, and concatenated texts

ascii_is : (b : ℕ) → 32 ≤ b → b < 127 → is_control b ≡ false
ascii_is b from to = grind (arith, nat_tests)

no_byte : IsHarmless []
no_byte = NoCharPasses-nil is_control

both : (xs ys : List ℕ) → IsHarmless xs → IsHarmless ys → IsHarmless (xs ++ ys)
both xs ys first last = NoCharPasses-append is_control xs ys first last

mark : (b : ℕ) → 32 ≤ b → b < 127 → IsHarmless (b ∷ [])
mark b from to = (
  b ∷ [],
  ap (λ (l : List ℕ). l ++ []) (encode_ascii b (omega (arith, to))),
  (ascii_is b from to, tt),
)

one_byte : (b : ℕ) (bytes : List ℕ) → 32 ≤ b → b < 127 → IsHarmless bytes
    → IsHarmless (b ∷ bytes)
one_byte b bytes from to is = both (b ∷ []) bytes (mark b from to) is

one_char : (c : ℕ) → is_control c ≡ false → IsHarmless (encode_utf8 c)
one_char c is = (c ∷ [], append-nil (encode_utf8 c), (is, tt))

-- ---- numbers

low_glyph : (d : ℕ) → 32 ≤ digit_glyph false d
low_glyph d = either (λ (x : ℕ). 32 ≤ x) (nat_lt d 10) _ _ (λ e. omega arith) (λ e. omega arith)

high_glyph : (d : ℕ) → d < 16 → digit_glyph false d < 127
high_glyph d few =
    either (λ (x : ℕ). x < 127) (nat_lt d 10) _ _ (λ e. omega (arith, few))
    (λ e. omega (arith, few))

digits_are : (k n : ℕ) (behind : List ℕ) → IsHarmless behind
    → IsHarmless (digits_onto k 10 false n behind)
digits_are zero n behind is = is
digits_are (suc k) n behind is =
    let more = one_byte (digit_glyph false (n % 10)) behind (low_glyph (n % 10))
    (high_glyph (n % 10) (omega arith)) is in
    either IsHarmless (n / 10 == 0) _ _ (λ e. more)
    (λ e. digits_are k (n / 10) (digit_glyph false (n % 10) ∷ behind) more)

pub decimal_is_harmless : (n : ℕ) → IsHarmless (decimal n)
unfolding digits
decimal_is_harmless n = digits_are 64 n [] no_byte

-- ---- texts

letter_is : (x : ℕ) → nat_lt 0 (escape_letter x) ≡ true
    → (32 ≤ escape_letter x) × (escape_letter x < 127)
letter_is x =
    let P = λ (l : ℕ). nat_lt 0 l ≡ true → (32 ≤ l) × (l < 127) in
    either P ((x == 34) || (x == 92)) _ _
    (λ e some. (grind (arith, nat_tests), grind (arith, nat_tests))) (λ e.
    either P (x == 8) _ _ (λ f some. (omega arith, omega arith)) (λ f.
    either P (x == 12) _ _ (λ g some. (omega arith, omega arith)) (λ g.
    either P (x == 10) _ _ (λ h some. (omega arith, omega arith)) (λ h.
    either P (x == 13) _ _ (λ i some. (omega arith, omega arith)) (λ i.
    either P (x == 9) _ _ (λ j some. (omega arith, omega arith)) (λ j some. absurd cc))))))

low_digit : (d : ℕ) → 32 ≤ digit_char d
low_digit d = either (λ (x : ℕ). 32 ≤ x) (nat_lt d 10) _ _ (λ e. omega arith) (λ e. omega arith)

high_digit : (d : ℕ) → d < 16 → digit_char d < 127
high_digit d few =
    either (λ (x : ℕ). x < 127) (nat_lt d 10) _ _ (λ e. omega (arith, few))
    (λ e. omega (arith, few))

hex : (d : ℕ) (bytes : List ℕ) → d < 16 → IsHarmless bytes → IsHarmless (digit_char d ∷ bytes)
hex d bytes few is = one_byte (digit_char d) bytes (low_digit d) (high_digit d few) is

-- `\u` and four digits
escape_is : (a b c d : ℕ) → a < 16 → b < 16 → c < 16 → d < 16
    → IsHarmless (92 ∷ 117 ∷ digit_char a ∷ digit_char b ∷ digit_char c ∷ digit_char d ∷ [])
escape_is a b c d p q r s =
    one_byte 92 (117 ∷ digit_char a ∷ digit_char b ∷ digit_char c ∷ digit_char d ∷ [])
    (omega arith) (omega arith)
    (one_byte 117 (digit_char a ∷ digit_char b ∷ digit_char c ∷ digit_char d ∷ [])
    (omega arith) (omega arith)
    (hex a (digit_char b ∷ digit_char c ∷ digit_char d ∷ []) p
    (hex b (digit_char c ∷ digit_char d ∷ []) q
    (hex c (digit_char d ∷ []) r (hex d [] s no_byte)))))

byte_is : (x : ℕ) → x < 127 → IsHarmless (escape_byte x)
unfolding escape_byte
byte_is x low =
    either IsHarmless (nat_lt 0 (escape_letter x)) _ _
    (λ e. one_byte 92 (escape_letter x ∷ []) (omega arith) (omega arith)
    (mark (escape_letter x) (letter_is x e).0 (letter_is x e).1))
    (λ e. either IsHarmless (nat_lt x 32) _ _
    (λ f. escape_is 0 0 (x / 16) (x % 16) (omega arith) (omega arith) (omega (arith, low))
    (omega arith))
    (λ f. mark x (grind (arith, nat_tests)) low))

control_is_small : (c : ℕ) → is_control c ≡ true → c < 65536
control_is_small c is = grind (arith, nat_tests)

char_is : (c : ℕ) → IsHarmless (spelled_char c)
char_is c =
    either IsHarmless (nat_lt c 127) _ _ (λ e. byte_is c (ltb-true c 127 e))
    (λ e. either IsHarmless (is_control c) _ _
    (λ f. let small = control_is_small c f in
    escape_is (c / 4096) (c / 256 % 16) (c / 16 % 16) (c % 16)
    (omega (arith, small)) (omega arith) (omega arith) (omega arith))
    (λ f. one_char c f))

chars_are : (cs : List ℕ) → IsHarmless (flat_map spelled_char cs)
chars_are [] = no_byte
chars_are (c ∷ cs) = both (spelled_char c) (flat_map spelled_char cs) (char_is c) (chars_are cs)

quoted_is : (text : List ℕ) → IsHarmless (spelled_quoted text)
quoted_is text =
    one_byte 34 (spelled_text text ++ 34 ∷ []) (omega arith) (omega arith)
    (both (spelled_text text) (34 ∷ []) (chars_are (chars text))
    (mark 34 (omega arith) (omega arith)))

-- ---- tokens

pub all_harmless : (ts us : List Token) → AreHarmless ts → AreHarmless us
    → AreHarmless (ts ++ us)
all_harmless [] us first last = last
all_harmless (t ∷ ts) us first last = (first.0, all_harmless ts us first.1 last)

letters : (a b c d : ℕ) (rest : List ℕ) → (32 ≤ a) × (a < 127) → (32 ≤ b) × (b < 127)
    → (32 ≤ c) × (c < 127) → (32 ≤ d) × (d < 127) → IsHarmless rest
    → IsHarmless (a ∷ b ∷ c ∷ d ∷ rest)
letters a b c d rest p q r s t =
    one_byte a (b ∷ c ∷ d ∷ rest) p.0 p.1
    (one_byte b (c ∷ d ∷ rest) q.0 q.1
    (one_byte c (d ∷ rest) r.0 r.1 (one_byte d rest s.0 s.1 t)))

token_is : (t : Token) → IsHarmlessToken t → IsHarmless (spelled_token t)
token_is begin_object is = mark 123 (omega arith) (omega arith)
token_is end_object is = mark 125 (omega arith) (omega arith)
token_is begin_array is = mark 91 (omega arith) (omega arith)
token_is end_array is = mark 93 (omega arith) (omega arith)
token_is (key s) is =
    both (spelled_quoted s) (58 ∷ []) (quoted_is s) (mark 58 (omega arith) (omega arith))
token_is (string s) is = quoted_is s
token_is (number s) is = is
token_is (boolean true) is =
    letters 116 114 117 101 [] (omega arith, omega arith) (omega arith, omega arith)
    (omega arith, omega arith) (omega arith, omega arith) no_byte
token_is (boolean false) is =
    letters 102 97 108 115 (101 ∷ []) (omega arith, omega arith) (omega arith, omega arith)
    (omega arith, omega arith) (omega arith, omega arith)
    (mark 101 (omega arith) (omega arith))
token_is null is =
    letters 110 117 108 108 [] (omega arith, omega arith) (omega arith, omega arith)
    (omega arith, omega arith) (omega arith, omega arith) no_byte
token_is bad is = no_byte

spelled_is : (after : Bool) (ts : List Token) → AreHarmless ts
    → IsHarmless (spelled_from after ts)
unfolding spelled_from
spelled_is after [] are = no_byte
spelled_is after (t ∷ ts) are =
    let rest = spelled_from (ends t) ts in
    both (separator after t) (spelled_token t ++ rest)
    (either IsHarmless (after && begins t) (44 ∷ []) []
    (λ e. mark 44 (omega arith) (omega arith)) (λ e. no_byte))
    (both (spelled_token t) rest (token_is t are.0) (spelled_is (ends t) ts are.1))

pub print_is_harmless : (ts : List Token) → AreHarmless ts → IsHarmless (spelled ts)
print_is_harmless ts are = spelled_is false ts are

-- ---- lines

pub is_one : (h : LineHeader) (members : List Token) {line : List ℕ} → AreHarmless members
    → line ≡ line_with h members → IsOneLine line
is_one h members {line} are is =
    let begun : AreHarmless (begun_at h.time h.port) =
    (tt, (tt, (tt, (tt, (decimal_is_harmless h.port, tt))))) in
    let all = all_harmless (begun_at h.time h.port ++ members) (end_object ∷ [])
    (all_harmless (begun_at h.time h.port) members begun are) (tt, tt) in
    (spelled (object_with h members), is, print_is_harmless (object_with h members) all)
