-- The flags of a machine are what its facts say.
use Rattle.std.proofs.Common.{◌≡◌, ℕ, ◌+◌, ℤ, List, [], ◌∷◌, Bool, true, false, not, refl, ap, ◌∙◌}
use Rattle.std.specs.Prelude.{bit_and, is_some, ◌==◌}
use Rattle.attrs.specs.Attributes.{Attributes}
use Rattle.attrs.specs.Bucket.{named_bucket}
use Rattle.attrs.specs.Facts.{app_version, attributes_of, flag, known_day}
use Rattle.attrs.specs.declared.facts.AppFacts.{AppFacts}
use Rattle.attrs.specs.declared.facts.RequestFacts.{RequestFacts}

abbrev pub is_set : (flags bit : ℕ) → Bool
is_set flags bit = not (bit_and flags bit == 0)

-- whether the version, the cohort and the day of installation are known, and an update is requested
abbrev bits_of : ℕ → List Bool
bits_of n = is_set n 1 ∷ is_set n 16 ∷ is_set n 32 ∷ is_set n 2 ∷ []

abbrev are : (v c i u : Bool) → List Bool
are v c i u = v ∷ c ∷ i ∷ u ∷ []

abbrev Sums : (v c i : Bool) → (own : ℕ) → Bool → ℕ → Type 0
Sums v c i own u n = bits_of (own + n) ≡ are v c i u

by_asked : (P : Bool → ℕ → Type 0) → P false 0 → P false 8 → P false 4 → P false 12 → P true 2
    → P true 10 → P true 6 → P true 14 → (u p e : Bool) → P u (flag u 2 + flag p 4 + flag e 8)
by_asked P a b c d e f g h false false false = a
by_asked P a b c d e f g h false false true = b
by_asked P a b c d e f g h false true false = c
by_asked P a b c d e f g h false true true = d
by_asked P a b c d e f g h true false false = e
by_asked P a b c d e f g h true false true = f
by_asked P a b c d e f g h true true false = g
by_asked P a b c d e f g h true true true = h

bits : (v c i u p e : Bool)
    → bits_of (flag v 1 + flag c 16 + flag i 32 + (flag u 2 + flag p 4 + flag e 8)) ≡ are v c i u
bits false false false = by_asked (Sums false false false 0) refl refl refl refl refl refl refl refl
bits false false true = by_asked (Sums false false true 32) refl refl refl refl refl refl refl refl
bits false true false = by_asked (Sums false true false 16) refl refl refl refl refl refl refl refl
bits false true true = by_asked (Sums false true true 48) refl refl refl refl refl refl refl refl
bits true false false = by_asked (Sums true false false 1) refl refl refl refl refl refl refl refl
bits true false true = by_asked (Sums true false true 33) refl refl refl refl refl refl refl refl
bits true true false = by_asked (Sums true true false 17) refl refl refl refl refl refl refl refl
bits true true true = by_asked (Sums true true true 49) refl refl refl refl refl refl refl refl

-- ---- of a machine

pub record HasFlags (a : Attributes) (app : AppFacts) : Type 0 where
  pub version : is_set a.context.flags 1 ≡ is_some (app_version app)
  pub cohort : is_set a.context.flags 16 ≡ is_some (named_bucket app)
  pub installdate : is_set a.context.flags 32 ≡ is_some (known_day app.installdate)
  pub updatecheck : is_set a.context.flags 2 ≡ app.updatecheck

pub has_flags : (app : AppFacts) (request : RequestFacts) (moment : ℤ) (a : Attributes)
    → a ≡ attributes_of app request moment → HasFlags a app
has_flags app request moment a is =
    let all : bits_of a.context.flags
    ≡ are (is_some (app_version app)) (is_some (named_bucket app))
    (is_some (known_day app.installdate)) app.updatecheck =
    ap (λ (b : Attributes). bits_of b.context.flags) is
    ∙ bits (is_some (app_version app)) (is_some (named_bucket app))
    (is_some (known_day app.installdate)) app.updatecheck app.ping app.event in
    record { version = cc; cohort = cc; installdate = cc; updatecheck = cc }
