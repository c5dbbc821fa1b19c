-- The highest bit that says more than the range, from the top down.
use Rattle.std.proofs.Common.{◌≡◌, ℕ, zero, suc, ◌-◌, ◌<◌, ◌≤◌, List, ◌++◌}
use Rattle.std.proofs.Common.{true, false, refl, ap, ◌∙◌, append_assoc, arith}
use Rattle.abs_value.specs.declared.number.Number.{Number}
use Rattle.why_refused_program.specs.Values.{adds_to_range, bits_beyond_range}
use Rattle.why_refused_program.specs.Values.{bit_text, lowest_bits}
use native.Mathlib.Numerals.{unary_clauses}

-- it is the one below k
pub here : (a : Number) (k : ℕ) → 0 < k → adds_to_range a (k - 1) ≡ true → bits_beyond_range a k ≡ k
here a zero lt e = absurd (omega (arith, lt))
here a (suc j) lt e = let t : adds_to_range a j ≡ true = simp unary_clauses at e in rw t refl

pub next : (a : Number) (k : ℕ) → 0 < k → adds_to_range a (k - 1) ≡ false
    → bits_beyond_range a k ≡ bits_beyond_range a (k - 1)
next a zero lt e = absurd (omega (arith, lt))
next a (suc j) lt e =
    let t : adds_to_range a j ≡ false = simp unary_clauses at e in
    simp unary_clauses (rw t refl)

pub last : (a : Number) (k : ℕ) → k ≤ 0 → bits_beyond_range a k ≡ 0
last a zero le = refl
last a (suc k) le = absurd (omega (arith, le))

-- one bit, and then those below it
pub bit_pushed : (a : Number) (o new : List ℕ) (k : ℕ) → 0 < k → new ≡ o ++ bit_text a (k - 1)
    → new ++ lowest_bits a (k - 1) ≡ o ++ lowest_bits a k
bit_pushed a o new zero lt pushed = absurd (omega (arith, lt))
bit_pushed a o new (suc j) lt pushed =
    let p : new ≡ o ++ bit_text a j = simp unary_clauses at pushed in
    simp unary_clauses (ap (λ (u : List ℕ). u ++ lowest_bits a j) p
    ∙ append_assoc o (bit_text a j) (lowest_bits a j))
