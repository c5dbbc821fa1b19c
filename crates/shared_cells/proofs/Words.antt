-- What each kind of step does to a cell's word is what its operation does to the value.
use Rattle.std.proofs.Common.{◌≡◌, ◌≢◌, ℕ, ◌+◌, ◌*◌, ◌/◌, ◌%◌, ◌^◌}
use Rattle.std.proofs.Common.{Bool, true, false, refl, sym, ap, ◌∙◌, arith, eq-eqb, ne_eqb}
use Rattle.std.specs.Prelude.{nat_lt, if◌then◌else◌, bit_and, bit_or, bit_xor, ◌==◌}
use Rattle.std.proofs.lemmas.Nat.{pow_pos, or_block, and_block, xor_block, mod-pow-add, shl-shr}
use Rattle.std.proofs.Math.Nat.{add-mul-mod_self_right, mod-add-div', mul-mod_left}
use Rattle.std.proofs.Common.{add-zero}
use mathlib.Core.Logic.{dite}
use native.Mathlib.Decide.{ℕ_discrete}
use prog.Atomic.{either}
use Rattle.cells.specs.declared.event.CellOp.TheVariants.{Add, Or, And, Xor, CompareExchange}
use Rattle.cells.specs.Events.{limit, after}
use Rattle.shared_cells.specs.Words.{stored_word, stored_value}

-- the word of a cell, and its width, by whether it is one of the first 4096
abbrev word_by : Bool → ℕ → ℕ
word_by b v = if b then v else v * 2 ^ 32

abbrev limit_by : Bool → ℕ
limit_by b = 2 ^ (if b then 64 else 32)

add-mod_second : (v x m : ℕ) → (v + x % m) % m ≡ (v + x) % m
add-mod_second v x m =
    let parts = mod-add-div' x m in
    sym (add-mul-mod_self_right (v + x % m) (x / m) m)
    ∙ ap (λ (n : ℕ). n % m) (omega (arith, parts))

-- a number in the upper half wraps as in a word of 32 bits
upper-mod : (n : ℕ) → n * 2 ^ 32 % 2 ^ 64 ≡ n % 2 ^ 32 * 2 ^ 32
upper-mod n =
    let high = shl-shr n 32 in
    let low = mul-mod_left n (2 ^ 32) in
    mod-pow-add (n * 2 ^ 32) 32 32 ∙ ap (λ (k : ℕ). k % 2 ^ 32 * 2 ^ 32 + n * 2 ^ 32 % 2 ^ 32) high
    ∙ ap (λ (k : ℕ). n % 2 ^ 32 * 2 ^ 32 + k) low ∙ add-zero (n % 2 ^ 32 * 2 ^ 32)

add_by : (b : Bool) (x v : ℕ) → (word_by b v + word_by b (x % limit_by b)) % 2 ^ 64 ≡ word_by b
    ((v + x) % limit_by b)
add_by true x v = add-mod_second v x (2 ^ 64)
add_by false x v =
    let y : ℕ = x % 2 ^ 32 in
    let sum : v * 2 ^ 32 + y * 2 ^ 32 ≡ (v + y) * 2 ^ 32 = omega arith in
    ap (λ (n : ℕ). n % 2 ^ 64) sum ∙ upper-mod (v + y)
    ∙ ap (λ (n : ℕ). n * 2 ^ 32) (add-mod_second v x (2 ^ 32))

or_by : (b : Bool) (x v : ℕ) → bit_or (word_by b v) (word_by b x) ≡ word_by b (bit_or v x)
or_by true x v = refl
or_by false x v = simp add-zero at (or_block 32 v x 0 0 (pow_pos 32) (pow_pos 32))

and_by : (b : Bool) (x v : ℕ) → bit_and (word_by b v) (word_by b x) ≡ word_by b (bit_and v x)
and_by true x v = refl
and_by false x v = simp add-zero at (and_block 32 v x 0 0 (pow_pos 32) (pow_pos 32))

xor_by : (b : Bool) (x v : ℕ) → bit_xor (word_by b v) (word_by b x) ≡ word_by b (bit_xor v x)
xor_by true x v = refl
xor_by false x v = simp add-zero at (xor_block 32 v x 0 0 (pow_pos 32) (pow_pos 32))

word-injective : (b : Bool) (v w : ℕ) → word_by b v ≡ word_by b w → v ≡ w
word-injective true v w e = e
word-injective false v w e = omega arith

exchange_by : (b : Bool) (old new v : ℕ)
    → either (word_by b v == word_by b old) (word_by b new) (word_by b v) ≡ word_by b
    (if v == old then new else v)
exchange_by b old new v =
    dite (ℕ_discrete v old)
    (λ (same : v ≡ old).
    ap (λ (t : Bool). either t (word_by b new) (word_by b v))
    (eq-eqb (word_by b v) (word_by b old) (ap (word_by b) same))
    ∙ sym (ap (λ (t : Bool). word_by b (if t then new else v)) (eq-eqb v old same)))
    (λ (differ : v ≢ old).
    ap (λ (t : Bool). either t (word_by b new) (word_by b v))
    (ne_eqb (word_by b v) (word_by b old) (λ e. differ (word-injective b v old e)))
    ∙ sym (ap (λ (t : Bool). word_by b (if t then new else v)) (ne_eqb v old differ)))

pub adds : (c x v k : ℕ) → k ≡ stored_word c (x % limit c)
    → (stored_word c v + k) % 2 ^ 64 ≡ stored_word c (after (limit c) v (Add x))
adds c x v k is = ap (λ (j : ℕ). (stored_word c v + j) % 2 ^ 64) is ∙ add_by (nat_lt c 4096) x v

pub ors : (c x v k : ℕ) → k ≡ stored_word c (x % limit c)
    → bit_or (stored_word c v) k ≡ stored_word c (after (limit c) v (Or x))
ors c x v k is = ap (λ (j : ℕ). bit_or (stored_word c v) j) is
    ∙ or_by (nat_lt c 4096) (x % limit c) v

pub ands : (c x v k : ℕ) → k ≡ stored_word c (x % limit c)
    → bit_and (stored_word c v) k ≡ stored_word c (after (limit c) v (And x))
ands c x v k is = ap (λ (j : ℕ). bit_and (stored_word c v) j) is
    ∙ and_by (nat_lt c 4096) (x % limit c) v

pub xors : (c x v k : ℕ) → k ≡ stored_word c (x % limit c)
    → bit_xor (stored_word c v) k ≡ stored_word c (after (limit c) v (Xor x))
xors c x v k is = ap (λ (j : ℕ). bit_xor (stored_word c v) j) is
    ∙ xor_by (nat_lt c 4096) (x % limit c) v

pub exchanges : (c old new v j k : ℕ) → j ≡ stored_word c (old % limit c)
    → k ≡ stored_word c (new % limit c)
    → either (stored_word c v == j) k (stored_word c v) ≡ stored_word c
    (after (limit c) v (CompareExchange old new))
exchanges c old new v j k was is =
    ap (λ (p : ℕ × ℕ). either (stored_word c v == p.0) p.1 (stored_word c v)) (λ i. (was i, is i))
    ∙ exchange_by (nat_lt c 4096) (old % limit c) (new % limit c) v

-- a cell's word determines its value
pub stored_value-stored_word : (c v : ℕ) → stored_value c (stored_word c v) ≡ v
stored_value-stored_word c v = by_width (nat_lt c 4096)
  where
    by_width : (b : Bool) → (if b then (if b then v else v * 2 ^ 32)
        else (if b then v else v * 2 ^ 32) / 2 ^ 32) ≡ v
    by_width true = refl
    by_width false = shl-shr v 32
