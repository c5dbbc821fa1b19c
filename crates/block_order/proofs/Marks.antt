-- Marks that are set one by one.
use Rattle.std.proofs.Common.{◌≡◌, ℕ, zero, suc, ◌<◌, Bool, true, false}
use Rattle.std.proofs.Common.{List, [], ◌∷◌, length, Some, refl, sym, ap, subst, arith, inl, inr}
use Rattle.std.specs.Prelude.{◌⊎◌, replicate, slice_index_or, slice_set}
use Rattle.std.proofs.lemmas.Grind.{common_steps}
use Rattle.bpf_insn.specs.declared.insn.Insn.{Insn}
use Rattle.bpf_insn.specs.Program.{Program, at}
use Rattle.flow_check.specs.Edges.{target_of}
use Rattle.flow_check.specs.Sweep.{IsMarked}
use Rattle.block_order.specs.Reach.{ReachedFrom, here, along, LeadsOutOf, IsReachedSo}
use Rattle.block_order.specs.Reach.{AreReachedFrom}
use Rattle.block_order.specs.Refusal.{ClosesCycle}
use Rattle.block_order.proofs.Places.{at_within}

pub marked_cases : (marks : List Bool) (k m : ℕ) → IsMarked (slice_set marks k true) m
    → (m ≡ k) ⊎ IsMarked marks m
marked_cases [] k m h = inr h
marked_cases (x ∷ xs) zero zero h = inl refl
marked_cases (x ∷ xs) zero (suc m) h = inr h
marked_cases (x ∷ xs) (suc k) zero h = inr h
marked_cases (x ∷ xs) (suc k) (suc m) h =
    elim (marked_cases xs k m h) [ inl e ↦ inl (ap suc e) | inr a ↦ inr a ]

pub marked_kept : (marks : List Bool) (k m : ℕ) → IsMarked marks m
    → IsMarked (slice_set marks k true) m
marked_kept [] k m h = h
marked_kept (x ∷ xs) zero zero h = refl
marked_kept (x ∷ xs) zero (suc m) h = h
marked_kept (x ∷ xs) (suc k) zero h = h
marked_kept (x ∷ xs) (suc k) (suc m) h = marked_kept xs k m h

pub marked_set : (marks : List Bool) (k : ℕ) → k < length marks
    → IsMarked (slice_set marks k true) k
marked_set [] k lt = absurd (omega arith)
marked_set (x ∷ xs) zero lt = refl
marked_set (x ∷ xs) (suc k) lt = marked_set xs k (omega arith)

unset : (n m : ℕ) → slice_index_or (replicate n false) m false ≡ false
unset zero m = refl
unset (suc n) zero = refl
unset (suc n) (suc m) = unset n m

-- ---- the reached slots

pub reached_start : (p : Program) (first : ℕ) (marks : List Bool) → first < length p
    → marks ≡ replicate (length p) false → IsReachedSo p first (slice_set marks first true)
reached_start p first marks lt is = record {
  length_is = rw is (grind (arith, common_steps));
  sound = λ m h. elim (marked_cases marks first m h) [
    | inl e ↦ subst (ReachedFrom p first) (sym e) here
    | inr a ↦ absurd (no m (subst (λ ms. IsMarked ms m) is a))
  ];
  start = marked_set marks first (rw is (grind (arith, common_steps)));
}
  where
    no : (m : ℕ) → IsMarked (replicate (length p) false) m → ⊥
    no m h = let un : slice_index_or (replicate (length p) false) m false ≡ false =
        unset (length p) m in absurd cc

pub reached_more : (p : Program) (first : ℕ) (marks : List Bool) (t : ℕ) → IsReachedSo p first marks
    → LeadsOutOf p marks t → IsReachedSo p first (slice_set marks t true)
reached_more p first marks t so (s, i, marked, is, contains, un) = record {
  length_is = grind (arith, common_steps, so.length_is);
  sound = λ m h. elim (marked_cases marks t m h) [
    | inl e ↦ subst (ReachedFrom p first) (sym e) (along (so.sound s marked) is contains)
    | inr a ↦ so.sound m a
  ];
  start = marked_kept marks t first so.start;
}

-- a reached instruction is marked
pub reached_marked : (p : Program) (first : ℕ) (marks : List Bool) → AreReachedFrom p first marks
    → (m : ℕ) → ReachedFrom p first m → (j : Insn) → at p m ≡ Some j → IsMarked marks m
reached_marked p first marks reached m from j is = marked m from (at_within p m j is)
  where
    marked : (u : ℕ) → ReachedFrom p first u → u < length p → IsMarked marks u
    marked u here lt = reached.so.start
    marked u (along {s} {t} {i} before at_s leads) lt =
        reached.closed s i u (marked s before (at_within p s i at_s)) at_s leads
        (rw reached.so.length_is lt)

-- a jump back that isn't reached from its target closes no cycle
pub no_cycle : (p : Program) (marks : List Bool) (s t : ℕ) (i : Insn) → AreReachedFrom p t marks
    → at p s ≡ Some i → target_of s i ≡ Some t → slice_index_or marks s false ≡ false
    → ¬ ClosesCycle p s
no_cycle p marks s t i reached is lands unmarked (j, u, is_j, lands_j, le, from) =
    let same : i ≡ j = cc in
    let lands_i : target_of s i ≡ Some u =
    subst (λ x. target_of s x ≡ Some u) (sym same) lands_j in
    let there : t ≡ u = cc in
    let mark : IsMarked marks s =
    reached_marked p t marks reached s (subst (λ n. ReachedFrom p n s) (sym there) from) i is in
    absurd cc
