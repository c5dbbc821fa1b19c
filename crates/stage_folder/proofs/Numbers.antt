-- A number that is above those of all records.
use Rattle.std.proofs.Common.{◌≡◌, ◌⊎◌, inl, inr, ◌+◌, ◌-◌, ◌^◌, ◌≤◌, ◌<◌, ℕ, List, [], ◌∷◌}
use Rattle.std.proofs.Common.{refl, sym, subst, arith}
use Rattle.std.specs.Prelude.{All, Contains, Option, Some, None, IfSome, IsSome}
use Rattle.std.proofs.lemmas.List.Elements.{All-cons, All-contains, All-nil}
use Rattle.std.proofs.lemmas.List.Elements.{Contains-append_left, Contains-append_right}
use Rattle.std.proofs.lemmas.List.Elements.{Contains-push}
use Rattle.stage_folder.specs.Folders.{Follows, FollowsRecord, GivesNumbers, IsFree}
use Rattle.stage_folder.specs.Folders.{KnownRecords}

-- ---- one number after the other

-- what is at least `next`, and above those that are left, is above all; it follows one of all, and
-- those that are left are among all
pub record GoesOn (numbers : List ℕ) (next : ℕ) (left : List ℕ) : Type 0 where
  pub bounds : (m : ℕ) → next ≤ m → All (λ n. n < m) left → All (λ n. n < m) numbers
  pub follows : Follows (Contains numbers) (Some next)
  pub among : (n : ℕ) → Contains left n → Contains numbers n

pub begins : (numbers : List ℕ) → GoesOn numbers 1 numbers
begins numbers = record {
  bounds = λ m least all. all;
  follows = inl refl;
  among = λ n is. is;
}

-- the number before the next one
before : (numbers : List ℕ) (next number more : ℕ) → Follows (Contains numbers) (Some next)
    → Contains numbers number → (more ≡ next) ⊎ (more ≡ number + 1)
    → Follows (Contains numbers) (Some more)
before numbers next number more was is (inl same) =
    subst (λ n. Follows (Contains numbers) (Some n)) (sym same) was
before numbers next number more was is (inr follows) =
    inr (number, is, follows)

first_among : (numbers left : List ℕ) (number next : ℕ) → GoesOn numbers next (number ∷ left)
    → Contains numbers number
first_among numbers left number next h = h.among number
    (Contains-append_left (number ∷ []) left number (Contains-push [] number))

pub goes_on : (numbers left : List ℕ) (number next more : ℕ) → number < more → next ≤ more
    → (more ≡ next) ⊎ (more ≡ number + 1) → GoesOn numbers next (number ∷ left)
    → GoesOn numbers more left
goes_on numbers left number next more below least by h = record {
  bounds = λ m at rest. h.bounds m (omega (arith, least, at))
      (All-cons (λ n. n < m) number left (omega (arith, below, at)) rest);
  follows = before numbers next number more h.follows (first_among numbers left number next h) by;
  among = λ n is. h.among n (Contains-append_right (number ∷ []) left n is);
}

pub bounds_all : (numbers left : List ℕ) (next : ℕ) → left ≡ [] → GoesOn numbers next left
    → All (λ n. n < next) numbers
bounds_all numbers left next none h = h.bounds next (omega arith)
    (subst (λ ns. All (λ n. n < next) ns) (sym none) (All-nil (λ n. n < next)))

-- no number follows the first one that is left
pub none_follows : (numbers left : List ℕ) (number next : ℕ) → number ≡ 2 ^ 32 - 1
    → GoesOn numbers next (number ∷ left) → Follows (Contains numbers) None
none_follows numbers left number next greatest h =
    subst (Contains numbers) greatest (first_among numbers left number next h)

-- ---- a free number

none_at : (found : Option (List ℕ)) → (IsSome found → ⊥) → found ≡ None
none_at None not = refl
none_at (Some bytes) not = absurd (not refl)

pub free : (known : KnownRecords) (numbers : List ℕ) (next : ℕ) → GivesNumbers known numbers
    → All (λ n. n < next) numbers → IsFree known next
free None numbers next given above = tt
free (Some records) numbers next given above = λ n least. none_at (records n)
    (λ is. absurd (omega (
      arith,
      least,
      All-contains (λ m. m < next) numbers n above ((given n).1 is),
    )))

pub free_next : (known : KnownRecords) (numbers : List ℕ) (next : Option ℕ)
    → GivesNumbers known numbers → IfSome next (λ n. All (λ m. m < n) numbers)
    → IfSome next (IsFree known)
free_next known numbers None given above = tt
free_next known numbers (Some next) given above = free known numbers next given above

-- ---- the number before it

more_follow : (Is Has : ℕ → Type 0) (next : Option ℕ) → ((n : ℕ) → Is n → Has n)
    → Follows Is next → Follows Has next
more_follow Is Has None has is = has _ is
more_follow Is Has (Some next) has (inl first) = inl first
more_follow Is Has (Some next) has (inr follows) =
    inr (follows.0, has follows.0 follows.1, follows.2)

pub follows_record : (known : KnownRecords) (numbers : List ℕ) (next : Option ℕ)
    → GivesNumbers known numbers → Follows (Contains numbers) next → FollowsRecord known next
follows_record None numbers next given follows = tt
follows_record (Some records) numbers next given follows =
    more_follow (Contains numbers) (λ n. IsSome (records n)) next (λ n. (given n).0) follows
