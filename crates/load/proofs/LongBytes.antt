-- Some bytes that are longer than a file may be are text, and some aren't. So there is a verdict on
-- every file that is too long.
use Rattle.std.proofs.Common.{◌≡◌, ℕ, zero, suc, ◌+◌, ◌/◌, ◌<◌, List, [], ◌∷◌, ◌++◌, length}
use Rattle.std.proofs.Common.{Bool, true, false, cond, Option, Some, None, refl, ap, arith}
use Rattle.std.specs.Prelude.{◌↔◌, IsTrue, IsUtf8, encode_utf8, nat_lt}
use Rattle.std.specs.Str.{IsAscii, chars, encode_utf8_all}
use Rattle.std.proofs.lemmas.Bool.{ltb-true}
use Rattle.std.proofs.lemmas.Str.{IsUtf8-from_ascii, encodes-chars}
use lib.Utf8.{encode}
use Rattle.cells.specs.Arrays.{AppShape}
use Rattle.manifest.specs.declared.app.ProgramSource.{ProgramSource}
use Rattle.load.specs.declared.load_fault.AppFault.TheVariants as app
use Rattle.bounded_files.specs.declared.kept_bytes.KeptBytes.{KeptBytes}
use Rattle.bounded_files.specs.declared.kept_bytes.KeptBytes.TheVariants.{Whole, Longer}
use Rattle.load.specs.Kept.{IsLonger, RefusesKept, most_of}
use Rattle.load.proofs.Keeping.{no_file}

-- ---- bytes that are text

letters : ℕ → List ℕ
letters zero = []
letters (suc n) = 97 ∷ letters n

as_many : (n : ℕ) → length (letters n) ≡ n
unfolding letters
as_many zero = refl
as_many (suc n) = ap (λ (m : ℕ). suc m) (as_many n)

are_ascii : (n : ℕ) → IsAscii (letters n)
unfolding letters
are_ascii zero i = omega arith
are_ascii (suc n) zero = omega arith
are_ascii (suc n) (suc i) = are_ascii n i

abbrev IsLong : ℕ → Bool → List ℕ → Type 0
IsLong most is_text bytes = (most < length bytes) × (IsTrue is_text ↔ IsUtf8 bytes)

a_text : (most : ℕ) → (bytes : List ℕ) × IsLong most true bytes
a_text most =
    let long = as_many (suc most) in (
      letters (suc most),
      (
        omega (arith, long),
        (λ is. IsUtf8-from_ascii (letters (suc most)) (are_ascii (suc most)), λ utf8. refl),
      ),
    )

-- ---- bytes that aren't: no character begins with the byte 128

abbrev first : List ℕ → ℕ
first [] = 0
first (b ∷ bytes) = b

either : {A : Type 0} (P : A → Type 0) (b : Bool) (x y : A)
    → (b ≡ true → P x) → (b ≡ false → P y) → P (cond b x y)
either P true x y h k = h refl
either P false x y h k = k refl

apart : (b : ℕ) (rest bytes : List ℕ) → (b ≡ 128 → ⊥) → b ∷ rest ≡ 128 ∷ bytes → ⊥
apart b rest bytes other e = other (ap first e)

not_first : (c : ℕ) (more bytes : List ℕ) → encode_utf8 c ++ more ≡ 128 ∷ bytes → ⊥
unfolding encode
not_first c more bytes =
    let P = λ (l : List ℕ). l ++ more ≡ 128 ∷ bytes → ⊥ in
    either P (nat_lt c 128) _ _
    (λ e. let low = ltb-true c 128 e in apart c _ bytes (λ is. omega (arith, low, is)))
    (λ e. either P (nat_lt c 2048) _ _
    (λ f. apart (192 + c / 64) _ bytes (λ is. omega (arith, is)))
    (λ f. either P (nat_lt c 65536) _ _
    (λ g. apart (224 + c / 4096) _ bytes (λ is. omega (arith, is)))
    (λ g. apart (240 + c / 262144) _ bytes (λ is. omega (arith, is)))))

not_spelled : (cs bytes : List ℕ) → encode_utf8_all cs ≡ 128 ∷ bytes → ⊥
not_spelled [] bytes e = absurd cc
not_spelled (c ∷ cs) bytes e = not_first c (encode_utf8_all cs) bytes e

no_text : (bytes : List ℕ) → IsUtf8 (128 ∷ bytes) → ⊥
no_text bytes utf8 = not_spelled (chars (128 ∷ bytes)) bytes (encodes-chars (128 ∷ bytes) utf8)

none_of_text : (most : ℕ) → (bytes : List ℕ) × IsLong most false bytes
none_of_text most =
    let long = as_many most in (
      128 ∷ letters most,
      (
        omega (arith, long),
        (λ is. absurd cc, λ utf8. absurd (no_text (letters most) utf8)),
      ),
    )

pub longer : (from : ProgramSource) (is_text : Bool)
    → (bytes : List ℕ) × IsLonger from is_text bytes
longer from true = a_text (most_of from)
longer from false = none_of_text (most_of from)

-- ---- so a file is the fault only if it couldn't be read

pub file_is_unread : (from : ProgramSource) (kept : Option KeptBytes) (shape : AppShape)
    → RefusesKept from kept shape app.File → kept ≡ None
file_is_unread from None shape h = refl
file_is_unread from (Some (Whole v)) shape h = absurd (no_file from v.items shape h)
file_is_unread from (Some (Longer v count is_text)) shape h =
    let long = longer from is_text in absurd (no_file from long.0 shape (h long.0 long.1))
