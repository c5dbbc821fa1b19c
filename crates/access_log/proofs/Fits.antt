-- A text has no more bytes in a line than were computed for it.
use Rattle.std.proofs.Common.{◌≡◌, ℕ, ◌≤◌, List, [], ◌∷◌, length, length-append, arith}
use Rattle.std.proofs.Common.{Bool, true, false, cond, refl, ap}
use Rattle.std.specs.Prelude.{nat_lt, ◌==◌, ◌||◌, if◌then◌else◌}
use Rattle.std.specs.Char.{len_utf8}
use Rattle.std.specs.List.{flat_map}
use Rattle.std.specs.Str.{chars}
use Rattle.std.proofs.lemmas.Bool.Decides.{nat_tests}
use Rattle.std.proofs.lemmas.Str.{length-encode}
use Rattle.json.specs.Print.{escape_letter, escape_byte}
use Rattle.printing.specs.Printed.{is_control}
use Rattle.access_log.specs.TextSize.{char_size, chars_size, text_size}
use Rattle.access_log.specs.Spelled.{spelled_char, spelled_text}

either : {A : Type 0} (P : A → Type 0) (b : Bool) (x y : A)
    → (b ≡ true → P x) → (b ≡ false → P y) → P (cond b x y)
either P true x y first other = first refl
either P false x y first other = other refl

-- the bytes for a character that is a control, and for another one
abbrev room_if : Bool → ℕ → ℕ
room_if b c = if b then 6 else (if (c == 34) || (c == 92) then 2 else len_utf8 c)

room_is : (c : ℕ) (b : Bool) → is_control c ≡ b → char_size c ≡ room_if b c
room_is c b is = ap (λ (b : Bool). room_if b c) is

-- below U+007F the controls are those below U+0020
low_control : (c : ℕ) → nat_lt c 127 ≡ true → is_control c ≡ nat_lt c 32
low_control c low = grind (arith, nat_tests)

letter_fits : (c : ℕ) → nat_lt 0 (escape_letter c) ≡ true → 2 ≤ room_if (nat_lt c 32) c
letter_fits c is = grind (arith, nat_tests)

plain_fits : (c : ℕ) → nat_lt 0 (escape_letter c) ≡ false → nat_lt c 32 ≡ false
    → 1 ≤ room_if (nat_lt c 32) c
plain_fits c none high = grind (arith, nat_tests)

escape_fits : (c : ℕ) → length (escape_byte c) ≤ room_if (nat_lt c 32) c
unfolding escape_byte
escape_fits c =
    let P = λ (l : List ℕ). length l ≤ room_if (nat_lt c 32) c in
    either P (nat_lt 0 (escape_letter c)) _ _ (λ e. letter_fits c e)
    (λ e. either P (nat_lt c 32) _ _
    (λ f. rw f (omega arith)) (λ f. plain_fits c e f))

high_fits : (c : ℕ) → nat_lt c 127 ≡ false → len_utf8 c ≤ room_if false c
high_fits c high = grind (arith, nat_tests)

char_fits : (c : ℕ) → length (spelled_char c) ≤ char_size c
char_fits c =
    let P = λ (l : List ℕ). length l ≤ char_size c in
    either P (nat_lt c 127) _ _
    (λ e. omega (arith, room_is c (nat_lt c 32) (low_control c e), escape_fits c))
    (λ e. either P (is_control c) _ _ (λ f. omega (arith, room_is c true f))
    (λ f. omega (arith, room_is c false f, length-encode c, high_fits c e)))

chars_fit : (cs : List ℕ) → length (flat_map spelled_char cs) ≤ chars_size cs
unfolding chars_size
chars_fit [] = omega arith
chars_fit (c ∷ cs) =
    omega (
      arith,
      length-append (spelled_char c) (flat_map spelled_char cs),
      char_fits c,
      chars_fit cs,
    )

pub brief_fits : (n : ℕ) (text : List ℕ) → n ≤ 4096 → text_size text ≤ n
    → length (spelled_text text) ≤ n
brief_fits n text within few =
    either (λ (k : ℕ). k ≤ n → length (spelled_text text) ≤ n) (nat_lt 4096 (length text)) _ _
    (λ e much. absurd (omega (arith, much, within)))
    (λ e room. omega (arith, room, chars_fit (chars text))) few
