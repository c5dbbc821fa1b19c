-- A text without characters to escape is its own text in JSON, and the text of a time is one.
use Rattle.std.proofs.Common.{◌≡◌, ℕ, zero, suc, ◌/◌, ◌<◌, List, [], ◌∷◌, ◌++◌, length}
use Rattle.std.proofs.Common.{Bool, true, false, cond, refl, ap, ◌∙◌, sym, append_assoc, arith}
use Rattle.std.proofs.Common.{append-nil}
use Rattle.std.specs.Prelude.{slice_index}
use Rattle.std.specs.Bool.{OnTrue}
use Rattle.std.specs.List.{flat_map}
use Rattle.std.specs.Str.{chars}
use Rattle.std.proofs.lemmas.Bool.Decides.{nat_tests}
use Rattle.std.proofs.lemmas.Str.{chars-IsAscii, chars-nil}
use Rattle.json.specs.Print.{escape_byte}
use Rattle.access_log.specs.Plain.{is_escaped, is_plain_text}
use Rattle.access_log.specs.TextSize.{char_size, chars_size}
use Rattle.access_log.specs.Spelled.{spelled_char, spelled_text, spelled_quoted}
use Rattle.access_log.specs.Utc.{digit, two_digits, date_text, clock_text, utc_text}
use Rattle.access_log.specs.declared.utc.Utc.{Utc}

-- a byte that needs no escape
as_spelled : (b : ℕ) → is_escaped b ≡ false → spelled_char b ≡ b ∷ []
unfolding escape_byte
as_spelled b is = grind (arith, nat_tests)

room_of_1 : (b : ℕ) → is_escaped b ≡ false → char_size b ≡ 1
room_of_1 b is = grind (arith, nat_tests)

pub listed_before : {P : Type 0} (b : Bool) → OnTrue b P → b ≡ true → P
listed_before true is holds = is
listed_before false is holds = absurd cc

parts : (escaped plain : Bool) → cond escaped false plain ≡ true
    → (escaped ≡ false) × (plain ≡ true)
parts true plain is = absurd cc
parts false plain is = (refl, is)

-- ---- its characters are its bytes

low : (b : ℕ) → is_escaped b ≡ false → b < 128
low b is = grind (arith, nat_tests)

pub plain_low : (text : List ℕ) → is_plain_text text ≡ true → (i : ℕ) → slice_index text i < 128
plain_low [] is i = omega arith
plain_low (b ∷ text) is zero = low b (parts (is_escaped b) (is_plain_text text) is).0
plain_low (b ∷ text) is (suc i) = plain_low text (parts (is_escaped b) (is_plain_text text) is).1 i

plain_chars : (text : List ℕ) → is_plain_text text ≡ true → chars text ≡ text
plain_chars text is = chars-IsAscii text (plain_low text is)

each_spelled : (text : List ℕ) → is_plain_text text ≡ true → flat_map spelled_char text ≡ text
each_spelled [] is = refl
each_spelled (b ∷ text) is =
    let both = parts (is_escaped b) (is_plain_text text) is in
    ap (λ l. l ++ flat_map spelled_char text) (as_spelled b both.0)
    ∙ ap (λ l. b ∷ l) (each_spelled text both.1)

each_has_1 : (text : List ℕ) → is_plain_text text ≡ true → chars_size text ≡ length text
unfolding chars_size
each_has_1 [] is = refl
each_has_1 (b ∷ text) is =
    let both = parts (is_escaped b) (is_plain_text text) is in
    omega (arith, room_of_1 b both.0, each_has_1 text both.1)

pub plain_spelled : (text : List ℕ) → is_plain_text text ≡ true → spelled_text text ≡ text
plain_spelled text is = ap (flat_map spelled_char) (plain_chars text is) ∙ each_spelled text is

pub plain_size : (text : List ℕ) → is_plain_text text ≡ true
    → chars_size (chars text) ≡ length text
plain_size text is = ap chars_size (plain_chars text is) ∙ each_has_1 text is

-- ---- characters one by one

pub one_further : (o part rest new whole : List ℕ) → new ≡ o ++ part → o ++ (part ++ rest) ≡ whole
    → new ++ rest ≡ whole
one_further o part rest new whole is all =
    ap (λ (l : List ℕ). l ++ rest) is ∙ append_assoc o part rest ∙ all

nothing : (text : List ℕ) → length text ≡ 0 → text ≡ []
nothing [] none = refl
nothing (b ∷ text) none = absurd (omega (arith, none))

pub none_further : (rest o whole : List ℕ) → length rest ≡ 0
    → o ++ flat_map spelled_char (chars rest) ≡ whole → o ≡ whole
none_further rest o whole none is =
    let no_chars : chars rest ≡ [] = ap chars (nothing rest none) ∙ chars-nil in
    sym (append-nil o) ∙ ap (λ (l : List ℕ). o ++ flat_map spelled_char l) (sym no_chars) ∙ is

-- such a text between quotes, written in three pieces
pub quoted_plain : (a text : List ℕ) {b c d : List ℕ} → is_plain_text text ≡ true
    → b ≡ a ++ 34 ∷ []
    → c ≡ b ++ text → d ≡ c ++ 34 ∷ [] → d ≡ a ++ spelled_quoted text
quoted_plain a text {b} {c} {d} plain first next last =
    last ∙ ap (λ l. l ++ 34 ∷ []) (next ∙ ap (λ l. l ++ text) first)
    ∙ append_assoc (a ++ 34 ∷ []) text (34 ∷ []) ∙ append_assoc a (34 ∷ []) (text ++ 34 ∷ [])
    ∙ ap (λ l. a ++ (34 ∷ (l ++ 34 ∷ []))) (sym (plain_spelled text plain))

-- ---- the text of a time

abbrev AllStand : List ℕ → Type 0
AllStand text = is_plain_text text ≡ true

stands : (b : ℕ) (text : List ℕ) → is_escaped b ≡ false → AllStand text → AllStand (b ∷ text)
stands b text is are = ap (λ (x : Bool). cond x false (is_plain_text text)) is ∙ are

both : (xs ys : List ℕ) → AllStand xs → AllStand ys → AllStand (xs ++ ys)
both [] ys are all = all
both (b ∷ xs) ys are all =
    let first = parts (is_escaped b) (is_plain_text xs) are in
    stands b (xs ++ ys) first.0 (both xs ys first.1 all)

digit_stands : (n : ℕ) → is_escaped (digit n) ≡ false
digit_stands n = grind (arith, nat_tests)

two_stand : (n : ℕ) → AllStand (two_digits n)
two_stand n =
    stands (digit (n / 10)) (digit n ∷ []) (digit_stands (n / 10))
    (stands (digit n) [] (digit_stands n) refl)

-- two digits after others, followed by a mark
marked : (before : List ℕ) (mark n : ℕ) → AllStand before → is_escaped mark ≡ false
    → AllStand (before ++ mark ∷ two_digits n)
marked before mark n first is =
    both before (mark ∷ two_digits n) first (stands mark (two_digits n) is (two_stand n))

date_stands : (t : Utc) → AllStand (date_text t)
date_stands t =
    let year = two_digits (t.year / 100) ++ two_digits t.year in
    let whole = both (two_digits (t.year / 100)) (two_digits t.year)
    (two_stand (t.year / 100)) (two_stand t.year) in
    marked (year ++ 45 ∷ two_digits t.month) 45 t.day (marked year 45 t.month whole refl) refl

fraction_stands : (millis : ℕ) → AllStand (46 ∷ digit (millis / 100) ∷ two_digits millis)
fraction_stands millis =
    stands 46 (digit (millis / 100) ∷ two_digits millis) refl
    (stands (digit (millis / 100)) (two_digits millis) (digit_stands (millis / 100))
    (two_stand millis))

clock_stands : (t : Utc) → AllStand (clock_text t)
clock_stands t =
    let minutes = two_digits t.hour ++ 58 ∷ two_digits t.minute in
    both (minutes ++ 58 ∷ two_digits t.second)
    (46 ∷ digit (t.millis / 100) ∷ two_digits t.millis)
    (marked minutes 58 t.second
    (marked (two_digits t.hour) 58 t.minute (two_stand t.hour) refl) refl)
    (fraction_stands t.millis)

pub time_stands : (t : Utc) → is_plain_text (utc_text t) ≡ true
time_stands t =
    both (date_text t) (84 ∷ (clock_text t ++ 90 ∷ [])) (date_stands t)
    (stands 84 (clock_text t ++ 90 ∷ []) refl
    (both (clock_text t) (90 ∷ []) (clock_stands t) refl))
