-- Bytes that are read and written one by one.
use Rattle.std.proofs.Common.{◌≡◌, ℕ, zero, suc, ◌+◌, ◌-◌, ◌*◌, ◌/◌, ◌%◌, ◌^◌, ◌<◌, ◌≤◌, List}
use Rattle.std.proofs.Common.{[], ◌∷◌}
use Rattle.std.proofs.Common.{length, inl, inr, refl, sym, ◌∙◌, ap, arith, get_or-set_same}
use Rattle.std.proofs.Common.{get_or-set_other}
use Rattle.std.specs.Prelude.{Option, Some, None, Bool, true, false, ◌&&◌, nat_le, nat_lt}
use Rattle.std.specs.Prelude.{if◌then◌else◌}
use Rattle.std.specs.Prelude.{slice_set, slice_index, replicate}
use Rattle.std.proofs.Math.Nat.{div-div-eq-div-mul, pow-suc, pow-le-pow_right}
use Rattle.std.proofs.lemmas.Bool.{cases_lt}
use Rattle.bpf_insn.specs.Program.{◌>>=◌}
use Rattle.bpf_semantics.specs.Memory.{set_bytes}
use Rattle.bpf_semantics.specs.State.{with_bytes}
use Rattle.reference.specs.Marks.{mark_at}

-- functions that agree everywhere are one
pub everywhere : {A B : Type 0} (f g : A → B) → ((a : A) → f a ≡ g a) → f ≡ g
everywhere f g h = λ i a. h a i

-- ---- reads

pub all_set : (memory : ℕ → Option ℕ) (place : ℕ) (bytes : List ℕ)
    → ((i : ℕ) → i < length bytes → memory (place + i) ≡ Some (slice_index bytes i))
    → set_bytes memory place (length bytes) ≡ Some bytes
all_set memory place [] each = refl
all_set memory place (b ∷ bytes) each =
    let first : memory place ≡ Some b = ap memory (omega arith) ∙ each zero (omega arith) in
    let later : set_bytes memory (place + 1) (length bytes) ≡ Some bytes =
    all_set memory (place + 1) bytes
    (λ i within. ap memory (omega arith) ∙ each (suc i) (omega (arith, within))) in
    let then_all : Option ℕ → Option (List ℕ) = λ o.
    o >>= λ x. set_bytes memory (place + 1) (length bytes) >>= λ rest. Some (x ∷ rest) in
    let onto : Option (List ℕ) → Option (List ℕ) = λ o. o >>= λ rest. Some (b ∷ rest) in
    ap then_all first ∙ ap onto later

absent_later : (x : Option ℕ) (y : Option (List ℕ)) → y ≡ None
    → (x >>= λ b. y >>= λ rest. Some (b ∷ rest)) ≡ None
absent_later None y e = refl
absent_later (Some b) y e = ap (λ (o : Option (List ℕ)). o >>= λ rest. Some (b ∷ rest)) e

pub one_unset : (memory : ℕ → Option ℕ) (place n i : ℕ) → i < n → memory (place + i) ≡ None
    → set_bytes memory place n ≡ None
one_unset memory place zero i within none = absurd (omega (arith, within))
one_unset memory place (suc n) zero within none =
    let first : memory place ≡ None = ap memory (omega arith) ∙ none in
    let then_all : Option ℕ → Option (List ℕ) = λ o.
    o >>= λ x. set_bytes memory (place + 1) n >>= λ rest. Some (x ∷ rest) in
    ap then_all first
one_unset memory place (suc n) (suc i) within none =
    absent_later (memory place) (set_bytes memory (place + 1) n)
    (one_unset memory (place + 1) n i (omega (arith, within)) (ap memory (omega arith) ∙ none))

-- a stack with nothing set
pub none_set : (n k : ℕ) → mark_at (replicate n None) k ≡ None
none_set zero k = refl
none_set (suc n) zero = refl
none_set (suc n) (suc k) = none_set n k

-- ---- writes

written : (memory : ℕ → Option ℕ) (place n v j : ℕ) → place ≤ j → j < place + n
    → with_bytes memory place n v j ≡ Some (v / 256 ^ (j - place) % 256)
written memory place n v j from to =
    let here : Option ℕ = Some (v / 256 ^ (j - place) % 256) in
    let a : nat_le place j ≡ true = grind arith in
    let b : nat_lt j (place + n) ≡ true = grind arith in
    ap (λ (x : Bool). if x && nat_lt j (place + n) then here else memory j) a
    ∙ ap (λ (x : Bool). if true && x then here else memory j) b

before_written : (memory : ℕ → Option ℕ) (place n v j : ℕ) → j < place
    → with_bytes memory place n v j ≡ memory j
before_written memory place n v j before =
    let here : Option ℕ = Some (v / 256 ^ (j - place) % 256) in
    let a : nat_le place j ≡ false = grind arith in
    ap (λ (x : Bool). if x && nat_lt j (place + n) then here else memory j) a

behind_written : (memory : ℕ → Option ℕ) (place n v j : ℕ) → place + n ≤ j
    → with_bytes memory place n v j ≡ memory j
behind_written memory place n v j behind =
    let here : Option ℕ = Some (v / 256 ^ (j - place) % 256) in
    let a : nat_le place j ≡ true = grind arith in
    let b : nat_lt j (place + n) ≡ false = grind arith in
    ap (λ (x : Bool). if x && nat_lt j (place + n) then here else memory j) a
    ∙ ap (λ (x : Bool). if true && x then here else memory j) b

-- one more byte
pub one_more : (memory : ℕ → Option ℕ) (marks : List (Option ℕ)) (place k v b j : ℕ)
    → place + k < length marks → b ≡ v / 256 ^ k
    → ((i : ℕ) → mark_at marks i ≡ with_bytes memory place k v i)
    → mark_at (slice_set marks (place + k) (Some (b % 256))) j ≡ with_bytes memory place (k + 1) v j
one_more memory marks place k v b j room byte before = elim (cases_lt j (place + k)) [
  | inl less ↦
      get_or-set_other marks (place + k) j (Some (b % 256)) None (λ e. omega (arith, e, less))
      ∙ before j
      ∙ (elim (cases_lt j place) [
        | inl out ↦ before_written memory place k v j out
            ∙ sym (before_written memory place (k + 1) v j out)
        | inr within ↦ written memory place k v j within less
            ∙ sym (written memory place (k + 1) v j within (omega (arith, less)))
      ])
  | inr more ↦ elim (cases_lt (place + k) j) [
    | inl behind ↦
        get_or-set_other marks (place + k) j (Some (b % 256)) None
        (λ e. omega (arith, e, behind)) ∙ before j
        ∙ behind_written memory place k v j more
        ∙ sym (behind_written memory place (k + 1) v j (omega (arith, behind)))
    | inr least ↦
        let here : j ≡ place + k = omega (arith, more, least) in
        let offset : k ≡ j - place = omega (arith, here) in
        ap (λ (i : ℕ). mark_at (slice_set marks (place + k) (Some (b % 256))) i) here
        ∙ get_or-set_same marks (place + k) (Some (b % 256)) None room
        ∙ ap (λ (n : ℕ). Some (n % 256)) (byte ∙ ap (λ (n : ℕ). v / 256 ^ n) offset)
        ∙ sym (written memory place (k + 1) v j (omega (arith, here)) (omega (arith, here)))
  ]
]

pub next_rest : (v k : ℕ) → v / 256 ^ k / 256 ≡ v / 256 ^ (k + 1)
next_rest v k = div-div-eq-div-mul v (256 ^ k) 256 ∙ ap (λ (d : ℕ). v / d) (power k)
  where
    power : (k : ℕ) → 256 ^ k * 256 ≡ 256 ^ (k + 1)
    power k = sym (pow-suc 256 k) ∙ ap (λ (n : ℕ). 256 ^ n) (omega arith)

-- ---- numbers of bytes

-- a number of at most seven bytes and one more byte fit 64 bits
pub one_byte_more : (n m b : ℕ) → n ≤ 7 → m < 256 ^ n → b < 256 → b + 256 * m < 2 ^ 64
one_byte_more n m b few small byte =
    let most : 256 ^ n ≤ 256 ^ 7 = pow-le-pow_right {n = 256} (omega arith) {i = n} {j = 7} few in
    omega (arith, most, small, byte)

-- a shift by whole bytes
pub byte_shift : (n : ℕ) → n < 8 → 1 * 2 ^ (8 * n) % 18446744073709551616 ≡ 256 ^ n
byte_shift zero h = refl
byte_shift (suc zero) h = refl
byte_shift (suc (suc zero)) h = refl
byte_shift (suc (suc (suc zero))) h = refl
byte_shift (suc (suc (suc (suc zero)))) h = refl
byte_shift (suc (suc (suc (suc (suc zero))))) h = refl
byte_shift (suc (suc (suc (suc (suc (suc zero)))))) h = refl
byte_shift (suc (suc (suc (suc (suc (suc (suc zero))))))) h = refl
byte_shift (suc (suc (suc (suc (suc (suc (suc (suc n)))))))) h = absurd (omega (arith, h))
