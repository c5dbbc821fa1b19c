-- The numbers of versions order as the versions do.
use Rattle.std.proofs.Common.{◌≡◌, ℕ, ◌+◌, ◌*◌, ◌^◌, ◌-◌, ◌<◌, ◌≤◌, List, length, All, refl, sym}
use Rattle.std.proofs.Common.{ap, subst, ◌∙◌, arith, inl, inr, Less, Equal, Greater}
use Rattle.std.specs.Prelude.{slice_index}
use Rattle.std.specs.Cmp.{nat_cmp_is}
use Rattle.std.specs.Ordering.{MatchOrdering, nat_cmp, ordering_then}
use Rattle.std.specs.declared.cmp.Ordering.{Ordering}
use Rattle.std.proofs.lemmas.Bool.{cases_lt}
use Rattle.std.proofs.lemmas.Cmp.{ranked}
use Rattle.std.proofs.lemmas.List.{get_or_past}
use Rattle.std.proofs.lemmas.Nat.{mul-add-lt}
use Rattle.rule_lang.specs.Meaning.{version_cmp}
use Rattle.diff_space.specs.Numbers.{version_number}

pub digit : (v : List ℕ) → All (λ n. n < 2 ^ 32) v → (k : ℕ) → slice_index v k < 2 ^ 32
digit v all k = elim (cases_lt k (length v)) [
  | inl within ↦ all k 0 within
  | inr past ↦ subst (λ (n : ℕ). n < 2 ^ 32) (sym (get_or_past v k 0 past)) (omega arith)
]

-- ---- the greatest number

below_last : (n m : ℕ) → n < m → n ≤ m - 1
below_last n m below = omega arith

pub number_within : (v : List ℕ) → All (λ n. n < 2 ^ 32) v → version_number v ≤ 2 ^ 128 - 1
number_within v all =
    let two = mul-add-lt (slice_index v 0) (2 ^ 32) (slice_index v 1) (2 ^ 32) (digit v all 0)
    (digit v all 1) in
    let three = mul-add-lt (slice_index v 0 * 2 ^ 32 + slice_index v 1) (2 ^ 32)
    (slice_index v 2) (2 ^ 32 * 2 ^ 32) two (digit v all 2) in
    below_last (version_number v) (2 ^ 128)
    (mul-add-lt ((slice_index v 0 * 2 ^ 32 + slice_index v 1) * 2 ^ 32 + slice_index v 2) (2 ^ 32)
    (slice_index v 3) (2 ^ 32 * (2 ^ 32 * 2 ^ 32)) three (digit v all 3))

-- ---- two digits are compared in order

module _ (a b c d : ℕ) (low : c < 2 ^ 32) (high : d < 2 ^ 32) where
  same_first : a ≡ b → (o : Ordering) → MatchOrdering o (c < d) (c ≡ d) (d < c)
      → o ≡ nat_cmp (a * 2 ^ 32 + c) (b * 2 ^ 32 + d)
  same_first same Less is = nat_cmp_is (a * 2 ^ 32 + c) (b * 2 ^ 32 + d) Less (omega arith)
  same_first same Equal is = nat_cmp_is (a * 2 ^ 32 + c) (b * 2 ^ 32 + d) Equal (omega arith)
  same_first same Greater is = nat_cmp_is (a * 2 ^ 32 + c) (b * 2 ^ 32 + d) Greater (omega arith)

  by_first : (o : Ordering) → MatchOrdering o (a < b) (a ≡ b) (b < a)
      → nat_cmp (a * 2 ^ 32 + c) (b * 2 ^ 32 + d) ≡ ordering_then o (nat_cmp c d)
  by_first Less is = sym (nat_cmp_is (a * 2 ^ 32 + c) (b * 2 ^ 32 + d) Less (omega arith))
  by_first Equal is = sym (same_first is (nat_cmp c d) (ranked c d (nat_cmp c d) refl))
  by_first Greater is = sym (nat_cmp_is (a * 2 ^ 32 + c) (b * 2 ^ 32 + d) Greater (omega arith))

  in_order : nat_cmp (a * 2 ^ 32 + c) (b * 2 ^ 32 + d) ≡ ordering_then (nat_cmp a b) (nat_cmp c d)
  in_order = by_first (nat_cmp a b) (ranked a b (nat_cmp a b) refl)

then_assoc : (o p q : Ordering)
    → ordering_then (ordering_then o p) q ≡ ordering_then o (ordering_then p q)
then_assoc Less p q = refl
then_assoc Equal p q = refl
then_assoc Greater p q = refl

pub numbers_order : (v w : List ℕ) → All (λ n. n < 2 ^ 32) v → All (λ n. n < 2 ^ 32) w
    → nat_cmp (version_number v) (version_number w) ≡ version_cmp v w
numbers_order v w all every =
    let at = λ (k : ℕ). nat_cmp (slice_index v k) (slice_index w k) in
    let one = in_order (slice_index v 0) (slice_index w 0) (slice_index v 1) (slice_index w 1)
    (digit v all 1) (digit w every 1) in
    let two = in_order (slice_index v 0 * 2 ^ 32 + slice_index v 1)
    (slice_index w 0 * 2 ^ 32 + slice_index w 1) (slice_index v 2) (slice_index w 2)
    (digit v all 2) (digit w every 2) in
    in_order ((slice_index v 0 * 2 ^ 32 + slice_index v 1) * 2 ^ 32 + slice_index v 2)
    ((slice_index w 0 * 2 ^ 32 + slice_index w 1) * 2 ^ 32 + slice_index w 2)
    (slice_index v 3) (slice_index w 3) (digit v all 3) (digit w every 3)
    ∙ ap (λ (o : Ordering). ordering_then o (at 3))
    (two ∙ ap (λ (o : Ordering). ordering_then o (at 2)) one)
    ∙ then_assoc (ordering_then (at 0) (at 1)) (at 2) (at 3)
    ∙ then_assoc (at 0) (at 1) (ordering_then (at 2) (at 3))
