-- The upward sweep marks a slot exactly if it is reached.
use Rattle.std.proofs.Common.{◌≡◌, ℕ, zero, suc, ◌+◌, ◌<◌, ◌≤◌, Bool, true, false}
use Rattle.std.proofs.Common.{List, length, get_or, Option, Some, None, refl}
use Rattle.std.proofs.Common.{sym, ap, subst, ◌∙◌, arith, inl, inr, below_more}
use Rattle.std.specs.Prelude.{IsSome, is_some, All, Contains, ◌⊎◌}
use Rattle.std.specs.Prelude.{replicate, slice_index_or, slice_set}
use Rattle.std.proofs.lemmas.Grind.{common_steps}
use Rattle.std.proofs.lemmas.List.Elements.{All-contains}
use Rattle.bpf_insn.specs.declared.insn.Insn.{Insn}
use Rattle.bpf_insn.specs.Program.{Program, at}
use Rattle.flow_check.proofs.Places.{ahead_at, at_within, contains_either}
use Rattle.flow_check.specs.Edges.{target_of, next_target, successors, Reached, start, along}
use Rattle.flow_check.specs.Flow.{LeadsAhead}
use Rattle.flow_check.specs.Sweep.{IsMarked, IsMarkedTo, marked}

-- ---- one slot

pub marked_kept : (marks : List Bool) (o : Option ℕ) (m : ℕ) → IsMarked marks m
    → IsMarked (marked marks o) m
marked_kept marks None m h = h
marked_kept marks (Some t) m h = grind (arith, common_steps)

pub marked_here : (marks : List Bool) (o : Option ℕ) (m : ℕ) → o ≡ Some m → m < length marks
    → IsMarked (marked marks o) m
marked_here marks None m e lt = absurd cc
marked_here marks (Some t) m e lt = let same : t ≡ m = cc in rw same (grind (arith, common_steps))

pub marked_successors : (s : ℕ) (i : Insn) (old mid new : List Bool)
    → All (λ t. t < length old) (successors s i)
    → mid ≡ marked old (target_of s i) → new ≡ marked mid (next_target s i)
    → length mid ≡ length old
    → (m : ℕ) → Contains (successors s i) m → IsMarked new m
marked_successors s i old mid new within first second len m h =
    let lt : m < length old = All-contains (λ t. t < length old) (successors s i) m within h in
    subst (λ marks. IsMarked marks m) (sym second) (elim (contains_either s i m h) [
      | inl e ↦ marked_kept mid (next_target s i) m
          (subst (λ marks. IsMarked marks m) (sym first) (marked_here old (target_of s i) m e lt))
      | inr e ↦ marked_here mid (next_target s i) m e (omega arith)
    ])

-- ---- the sweep

module _ (p : Program) (k : ℕ) (old : List Bool) (h : IsMarkedTo p k old) where
  pub swept_nothing : at p k ≡ None → IsMarkedTo p (k + 1) old
  swept_nothing none = record {
    length_is = h.length_is;
    start = h.start;
    sound = h.sound;
    complete = λ s i t lt is c. below_more (λ s. (i : Insn) (t : ℕ) → at p s ≡ Some i
        → Contains (successors s i) t → IsMarked old t) k
        (λ s lt i t is c. h.complete s i t lt is c) (λ i t is c. absurd cc) s lt i t is c;
    reached = below_more (λ s. IsSome (at p s) → Reached p s) k h.reached
        (λ some. let gone : false ≡ true = ap is_some (sym none) ∙ some in absurd cc);
  }

  pub swept_more : (i : Insn) (new : List Bool) → at p k ≡ Some i → IsMarked old k
      → length new ≡ length old
      → ((m : ℕ) → IsMarked old m → IsMarked new m)
      → ((m : ℕ) → Contains (successors k i) m → IsMarked new m)
      → ((m : ℕ) → IsMarked new m → IsMarked old m ⊎ Contains (successors k i) m)
      → IsMarkedTo p (k + 1) new
  swept_more i new is here len kept marks only = record {
    length_is = len ∙ h.length_is;
    start = kept 0 h.start;
    sound = λ m a. elim (only m a) [ inl b ↦ h.sound m b | inr b ↦ along (h.sound k here) is b ];
    complete = λ s j t lt e c. below_more (λ s. (j : Insn) (t : ℕ) → at p s ≡ Some j
        → Contains (successors s j) t → IsMarked new t) k
        (λ s lt j t e c. kept t (h.complete s j t lt e c)) (λ j t e c. let same : j ≡ i = cc in
        marks t (subst (λ x. Contains (successors k x) t) same c)) s lt j t e c;
    reached = below_more (λ s. IsSome (at p s) → Reached p s) k h.reached (λ some. h.sound k here);
  }

  pub not_reached : LeadsAhead p → slice_index_or old k false ≡ false → Reached p k → ⊥
  not_reached ahead unmarked r = here k refl r
    where
      here : (m : ℕ) → m ≡ k → Reached p m → ⊥
      here m e start =
          let mark : slice_index_or old k false ≡ true =
          ap (λ n. slice_index_or old n false) (sym e) ∙ h.start in
          absurd cc
      here m e (along {s} {t} {i} r is c) =
          let lt : s < m = (ahead_at p s i m ahead is c).0 in
          let below : s < k = omega arith in
          let mark : slice_index_or old k false ≡ true =
          ap (λ n. slice_index_or old n false) (sym e) ∙ h.complete s i m below is c in
          absurd cc

pub all_reached : (p : Program) (k : ℕ) (marks : List Bool)
    → length p ≤ k → IsMarkedTo p k marks → (s : ℕ) → IsSome (at p s) → Reached p s
all_reached p k marks le h s some =
    let lt : s < length p = at_within p s some in h.reached s (omega arith) some

unset : (n m : ℕ) → get_or (replicate n false) m false ≡ false
unset zero m = refl
unset (suc n) zero = refl
unset (suc n) (suc m) = unset n m

unset_after : (n m : ℕ)
    → slice_index_or (slice_set (replicate n false) 0 true) (suc m) false ≡ false
unset_after zero m = refl
unset_after (suc n) m = unset n m

pub swept_start : (p : Program) → 0 < length p
    → IsMarkedTo p 0 (slice_set (replicate (length p) false) 0 true)
swept_start p lt = record {
  length_is = grind (arith, common_steps);
  start = grind (arith, common_steps);
  sound = only;
  complete = λ s i t below. absurd (omega arith);
  reached = λ s below. absurd (omega arith);
}
  where
    only : (m : ℕ) → IsMarked (slice_set (replicate (length p) false) 0 true) m → Reached p m
    only zero h = start
    only (suc m) h =
        let no : slice_index_or (slice_set (replicate (length p) false) 0 true) (suc m) false
        ≡ false = unset_after (length p) m in
        absurd cc
