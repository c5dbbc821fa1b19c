-- Whether a property holds for some number below a bound, and for the app of some bucket.
use Rattle.std.proofs.Common.{◌≡◌, ℕ, zero, suc, ◌+◌, ◌<◌, List, Bool, true, false, ◌||◌}
use Rattle.std.proofs.Common.{Option, unwrap_or, refl, sym, ap, ◌∙◌, subst, arith, inl, inr}
use Rattle.std.proofs.Common.{add-one}
use Rattle.std.proofs.lemmas.Bool.{cases_Bool, cases_lt, or_right}
use Rattle.attrs.specs.Attributes.{Attributes, plain}
use Rattle.warnings.specs.Evaluation.{any_below}
use Rattle.warnings.specs.Getting.{moved}

-- ---- numbers

pub none_below_zero : (p : ℕ → Bool) → any_below p 0 ≡ false
unfolding any_below
none_below_zero p = refl

none_below_suc : (p : ℕ → Bool) (n : ℕ) → any_below p n ≡ false → p n ≡ false
    → any_below p (suc n) ≡ false
unfolding any_below
none_below_suc p n before here = ap (λ b. b || p n) before ∙ here

pub none_more : (p : ℕ → Bool) (n : ℕ) → any_below p n ≡ false → p n ≡ false
    → any_below p (n + 1) ≡ false
none_more p n before here =
    subst (λ m. any_below p m ≡ false) (sym (add-one n)) (none_below_suc p n before here)

-- one number is enough
pub any_found : (p : ℕ → Bool) (m n : ℕ) → m < n → p m ≡ true → any_below p n ≡ true
unfolding any_below
any_found p m zero within here = absurd (omega (arith, within))
any_found p m (suc n) within here =
    elim (cases_lt m n) [
      | inl before ↦ ap (λ b. b || p n) (any_found p m n before here)
      | inr behind ↦ let same : m ≡ n = omega (arith, within, behind) in
          or_right (any_below p n) (p n) (subst (λ k. p k ≡ true) same here)
    ]

-- no number has the property
pub none_at : (p : ℕ → Bool) (n m : ℕ) → m < n → any_below p n ≡ false → p m ≡ false
none_at p n m within none = elim (cases_Bool (p m)) [
  | inl holds ↦ absurd (let both = sym (any_found p m n within holds) ∙ none in cc)
  | inr fails ↦ fails
]

-- a number that has the property
pub record Witness (p : ℕ → Bool) (n : ℕ) : Type 0 where
  pub number : ℕ
  pub below : number < n
  pub holds : p number ≡ true

pub some_at : (p : ℕ → Bool) (n : ℕ) → any_below p n ≡ true → Witness p n
unfolding any_below
some_at p zero some = absurd cc
some_at p (suc n) some = elim (cases_Bool (any_below p n)) [
  | inl before ↦ let w = some_at p n before in
      record { number = w.number; below = let b = w.below in omega arith; holds = w.holds }
  | inr none ↦ record {
    number = n;
    below = omega arith;
    holds = ap (λ b. b || p n) (sym none) ∙ some;
  }
]

-- ---- buckets

-- with its bucket set, `a` is the plain app of that bucket
abbrev pub AreClients : List ℕ → Option (List ℕ) → Attributes → Type 0
AreClients appid version a = (bucket : ℕ) → moved a bucket ≡ plain appid version bucket

pub begins : (appid : List ℕ) (version : Option (List ℕ)) (a : Attributes)
    → a ≡ plain appid version 0 → AreClients appid version a
begins appid version a is bucket = ap (λ (x : Attributes). moved x bucket) is

pub moves : (appid : List ℕ) (version : Option (List ℕ)) (a b : Attributes) (k : ℕ)
    → AreClients appid version a → b ≡ moved a k → AreClients appid version b
moves appid version a b k clients is bucket =
    ap (λ (x : Attributes). moved x bucket) is ∙ clients bucket

-- ---- a client that is moved to the bucket of its cohort, or otherwise from bucket to bucket

-- the property holds in none of the first `k` buckets
abbrev pub IsNowhere : (Attributes → Bool) → (named : Option ℕ) → Attributes → ℕ → Type 0
IsNowhere question named a k =
    any_below (λ hashed. question (moved a (unwrap_or named hashed))) k ≡ false

-- `b` is the client `a` in some bucket
abbrev pub IsMoved : (a b : Attributes) → Type 0
IsMoved a b = (bucket : ℕ) → moved b bucket ≡ moved a bucket

pub still_moved : (a b c : Attributes) (place : ℕ) → IsMoved a b → c ≡ moved b place → IsMoved a c
still_moved a b c place client is bucket =
    ap (λ (x : Attributes). moved x bucket) is ∙ client bucket

module _ (question : Attributes → Bool) (named : Option ℕ) (a b c : Attributes) (k place : ℕ)
    (got : Bool) (client : IsMoved a b) (placed : place ≡ unwrap_or named k)
    (is : c ≡ moved b place)
    (answers : got ≡ question c) where
  here_is : question (moved a (unwrap_or named k)) ≡ got
  here_is =
      ap (λ p. question (moved a p)) (sym placed) ∙ ap question (sym (is ∙ client place))
      ∙ sym answers

  pub found : k < 10000 → got ≡ true
      → true ≡ any_below (λ hashed. question (moved a (unwrap_or named hashed))) 10000
  found within holds =
      sym (any_found (λ hashed. question (moved a (unwrap_or named hashed))) k 10000 within
      (here_is ∙ holds))

  pub not_found : got ≡ false → IsNowhere question named a k → IsNowhere question named a (k + 1)
  not_found fails before =
      none_more (λ hashed. question (moved a (unwrap_or named hashed))) k before (here_is ∙ fails)
