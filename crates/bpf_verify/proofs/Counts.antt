-- Counts of numbers that pass a test.
use Rattle.std.proofs.Common.{◌≡◌, ◌≢◌, ℕ, zero, suc, ◌+◌, ◌<◌, ◌≤◌}
use Rattle.std.proofs.Common.{Bool, true, false, refl, arith, inl, inr}
use Rattle.std.specs.Prelude.{if◌then◌else◌}
use Rattle.std.proofs.lemmas.Bool.{cases_lt}
use Rattle.bpf_verify.specs.Count.{count}

-- if f implies g, no more numbers pass f than g
pub count_within : (f g : ℕ → Bool) (n : ℕ) → ((m : ℕ) → m < n → f m ≡ true → g m ≡ true)
    → count f n ≤ count g n
unfolding count
count_within f g zero h = omega arith
count_within f g (suc n) h =
    let rest : count f n ≤ count g n = count_within f g n (λ m lt. h m (omega (arith, lt))) in
    last (f n) (g n) rest (h n (omega arith))
  where
    last : (a b : Bool) → count f n ≤ count g n → (a ≡ true → b ≡ true)
        → count f n + (if a then 1 else 0) ≤ count g n + (if b then 1 else 0)
    last false b le k = grind arith
    last true true le k = omega (arith, le)
    last true false le k = absurd (grind (arith, k refl))

pub count_same : (f g : ℕ → Bool) (n : ℕ) → ((m : ℕ) → m < n → f m ≡ g m)
    → count f n ≡ count g n
unfolding count
count_same f g zero h = refl
count_same f g (suc n) h =
    let rest : count f n ≡ count g n = count_same f g n (λ m lt. h m (omega (arith, lt))) in
    let last : f n ≡ g n = h n (omega arith) in
    rw (rest, last) refl

-- one more number passes
pub count_more : (f g : ℕ → Bool) (m n : ℕ) → m < n → f m ≡ false → g m ≡ true
    → ((k : ℕ) → k ≢ m → g k ≡ f k) → count g n ≡ count f n + 1
unfolding count
count_more f g m zero lt out into same = absurd (omega (arith, lt))
count_more f g m (suc n) lt out into same = elim (cases_lt m n) [
  | inl below ↦
      let rest : count g n ≡ count f n + 1 = count_more f g m n below out into same in
      let ne : n ≢ m = omega (arith, below) in
      let last : g n ≡ f n = same n ne in
      rw (rest, last) (omega arith)
  | inr above ↦
      let is : m ≡ n = omega (arith, lt, above) in
      let rest : count g n ≡ count f n =
      count_same g f n (λ k below. same k (omega (arith, below, is))) in
      let a : f n ≡ false = rw (← is) out in
      let b : g n ≡ true = rw (← is) into in
      rw (rest, a, b) (omega arith)
]

pub count_length : (f : ℕ → Bool) (n : ℕ) → count f n ≤ n
unfolding count
count_length f zero = omega arith
count_length f (suc n) = last (f n) (count_length f n)
  where
    last : (a : Bool) → count f n ≤ n → count f n + (if a then 1 else 0) ≤ suc n
    last true le = omega (arith, le)
    last false le = omega (arith, le)

pub count_none : (f : ℕ → Bool) (n : ℕ) → ((m : ℕ) → f m ≡ false) → count f n ≡ 0
unfolding count
count_none f zero h = refl
count_none f (suc n) h =
    let rest : count f n ≡ 0 = count_none f n h in
    let last : f n ≡ false = h n in
    rw (rest, last) refl
