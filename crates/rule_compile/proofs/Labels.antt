-- Labels: places of a program by their distance from the end. Prepended code moves none of them.
use Rattle.std.proofs.Common.{◌≡◌, ℕ, zero, suc, ◌+◌, ◌-◌, ◌≤◌, [], ◌∷◌, ◌++◌, drop, length}
use Rattle.std.proofs.Common.{Option, Some, refl, sym, ap, subst, ◌∙◌, arith, zero-add}
use Rattle.std.specs.Prelude.{slice_get}
use Rattle.bpf_insn.specs.declared.insn.Insn.{Insn}
use Rattle.bpf_insn.specs.Program.{Program}

-- ---- the code from a slot on

drop_nil : (n : ℕ) → drop {A = Option Insn} n [] ≡ []
drop_nil zero = refl
drop_nil (suc n) = refl

drop_add : (p : Program) (n k : ℕ) → drop (n + k) p ≡ drop k (drop n p)
drop_add p zero k = rw zero-add refl
drop_add [] (suc n) k = drop_nil (suc n + k) ∙ sym (drop_nil k)
drop_add (x ∷ p) (suc n) k = let e : suc n + k ≡ suc (n + k) = omega arith in
    ap (λ (m : ℕ). drop m (x ∷ p)) e ∙ drop_add p n k

pub at_here : (p : Program) (n : ℕ) (x : Option Insn) (q : Program) → drop n p ≡ x ∷ q
    → slice_get p n ≡ Some x
at_here [] zero x q e = absurd cc
at_here [] (suc n) x q e = absurd cc
at_here (y ∷ p) zero x q e = cc
at_here (y ∷ p) (suc n) x q e = at_here p n x q e

next_suc : (p : Program) (n : ℕ) (x : Option Insn) (q : Program) → drop n p ≡ x ∷ q
    → drop (suc n) p ≡ q
next_suc [] zero x q e = absurd cc
next_suc [] (suc n) x q e = absurd cc
next_suc (y ∷ p) zero x q e = cc
next_suc (y ∷ p) (suc n) x q e = next_suc p n x q e

pub next_here : (p : Program) (n : ℕ) (x : Option Insn) (q : Program) → drop n p ≡ x ∷ q
    → drop (n + 1) p ≡ q
next_here p n x q e = let one : suc n ≡ n + 1 = omega arith in
    subst (λ (m : ℕ). drop m p ≡ q) one (next_suc p n x q e)

pub later_here : (p : Program) (n k : ℕ) (x : Option Insn) (q : Program) → drop n p ≡ x ∷ q
    → drop (n + 1 + k) p ≡ drop k q
later_here p n k x q e = drop_add p (n + 1) k ∙ ap (drop k) (next_here p n x q e)

pub next_wide : (p : Program) (n : ℕ) (x y : Option Insn) (q : Program) → drop n p ≡ x ∷ y ∷ q
    → drop (n + 2) p ≡ q
next_wide p n x y q e = let two : n + 1 + 1 ≡ n + 2 = omega arith in
    subst (λ (m : ℕ). drop m p ≡ q) two (later_here p n 1 x (y ∷ q) e)

-- ---- labels

unfoldable pub from_label : Program → ℕ → Program
from_label q l = drop (length q - l) q

pub at_start : (q : Program) → from_label q (length q) ≡ q
unfolding from_label
at_start q = let e : length q - length q ≡ 0 = omega arith in rw e refl

-- the first is the second with code in front
pub record IsBefore (q' q : Program) : Type 0 where
  pub longer : length q ≤ length q'
  pub same : (l : ℕ) → l ≤ length q → from_label q' l ≡ from_label q l

pub before_itself : (q : Program) → IsBefore q q
before_itself q = record { longer = omega arith; same = λ l h. refl }

pub before_one : (x : Option Insn) (q : Program) → IsBefore (x ∷ q) q
unfolding from_label
before_one x q = record {
  longer = omega arith;
  same = λ l h. let e : suc (length q) - l ≡ suc (length q - l) = omega arith in
      ap (λ (n : ℕ). drop n (x ∷ q)) e;
}

pub before_then : (q'' q' q : Program) → IsBefore q'' q' → IsBefore q' q → IsBefore q'' q
before_then q'' q' q h g = let low = g.longer in let high = h.longer in record {
  longer = omega arith;
  same = λ l le. h.same l (omega arith) ∙ g.same l le;
}

pub before_list : (xs q : Program) → IsBefore (xs ++ q) q
before_list [] q = before_itself q
before_list (x ∷ xs) q = before_then (x ∷ (xs ++ q)) (xs ++ q) q (before_one x (xs ++ q))
    (before_list xs q)
