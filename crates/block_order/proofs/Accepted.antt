-- A program that the flow check accepts is its own order.
use Rattle.std.proofs.Common.{◌≡◌, ℕ, zero, suc, ◌+◌, ◌<◌, ◌≤◌, ℤ, pos, negsuc, ◌≤ℤ◌}
use Rattle.std.proofs.Common.{List, [], ◌∷◌, ◌++◌, length}
use Rattle.std.proofs.Common.{Option, Some, None, refl, sym, ap, subst, ◌∙◌, arith, inl, inr}
use Rattle.std.specs.Prelude.{IsSome, option_to_list}
use Rattle.std.specs.List.{AllByRecursion}
use Rattle.std.proofs.lemmas.Int.{ints}
use Rattle.bpf_insn.specs.declared.insn.Insn.{Insn}
use Rattle.bpf_insn.specs.declared.insn.Insn.TheVariants.{Jump, JumpIf, Exit}
use Rattle.bpf_insn.specs.Program.{Program, ◌>>=◌, at, landing, slots_moved}
use Rattle.flow_check.specs.Edges.{JumpsForward, next_of, successors}
use Rattle.flow_check.specs.Fault.{IsRead}
use Rattle.flow_check.specs.Flow.{IsFlow, IsAhead, IsForward, program_bytes}
use Rattle.block_order.specs.Order.{Places, GoesOnAt, IsKeptAs, IsOrderOf, IsOrdered}
use Rattle.block_order.specs.Order.{LeavesJumps, other, jumped}
use Rattle.block_order.proofs.Places.{at_within}

-- each instruction at its own slot
abbrev own : Program → Places
own p s = at p s >>= λ i. Some s

own_at : (p : Program) (s : ℕ) (o : Option Insn) → at p s ≡ o → IsSome o → own p s ≡ Some s
own_at p s None is some = absurd cc
own_at p s (Some i) is some = ap (λ (o : Option Insn). o >>= λ x. Some s) is

own_is : (p : Program) (s t : ℕ) (o : Option Insn) → at p s ≡ o → (o >>= λ i. Some s) ≡ Some t
    → (i : Insn) × (at p s ≡ Some i) × (s ≡ t)
own_is p s t None is e = absurd cc
own_is p s t (Some i) is e = (i, is, cc)

module _ (p : Program) (s : ℕ) where
  goes_on : (n : ℕ) → IsAhead p s n → GoesOnAt (own p) p n n
  goes_on n ahead = (n, own_at p n (at p n) refl ahead.1, inl refl)

  abbrev AllAhead : List ℕ → Type 0
  AllAhead ts = AllByRecursion (IsAhead p s) ts

  lands : (z : ℤ) (rest : List ℕ) → pos 0 ≤ℤ z → AllAhead (option_to_list (landing s z) ++ rest)
      → (t : ℕ) × (landing s z ≡ Some t) × IsAhead p s t × AllAhead rest
  lands (pos n) rest forward h = (s + 1 + n, refl, h.0, h.1)
  lands (negsuc n) rest forward h = let none : ⊥ = grind (arith, ints) in absurd none

  kept : (i : Insn) → at p s ≡ Some i → JumpsForward i → AllAhead (successors s i)
      → IsKeptAs (own p) p s s i
  kept (Jump d) is forward h =
      let l = lands (slots_moved d) [] forward h in (
        l.0,
        l.1,
        (l.0, own_at p l.0 (at p l.0) refl l.2.1, inr (d, is, l.1)),
      )
  kept (JumpIf bits condition left right k) is forward h =
      let l = lands k ((s + 1) ∷ []) forward h in (
        record {
          moved = JumpIf bits condition left right k;
          moved_is = is;
          same = (k, refl);
          target = l.0;
          landed = l.1;
          place = l.0;
          placed = own_at p l.0 (at p l.0) refl l.2.1;
          lands = l.1;
        },
        goes_on (s + 1) l.3.0,
      )
  kept Exit is forward h = is
  kept i is forward h = (is, goes_on (next_of s i) h.0)

-- ---- where its jumps lead

some_insn : (o : Option Insn) → IsSome o → (i : Insn) × (o ≡ Some i)
some_insn None some = absurd cc
some_insn (Some i) some = (i, refl)

leave : (p : Program) (s : ℕ) (i : Insn) → at p s ≡ Some i → JumpsForward i
    → AllByRecursion (IsAhead p s) (successors s i)
    → ((t : ℕ) → s < t → IsSome (at p t) → LeavesJumps p t) → LeavesJumps p s
leave p s (Jump d) is forward h on =
    let l = lands p s (slots_moved d) [] forward h in jumped is l.1 (on l.0 l.2.0 l.2.1)
leave p s i is forward h on = other is tt

leave_own : (p : Program) → IsForward p → (n s : ℕ) → length p ≤ s + n → IsSome (at p s)
    → LeavesJumps p s
leave_own p f zero s past some =
    let i = some_insn (at p s) some in
    let lt : s < length p = at_within p s i.0 i.1 in
    absurd (omega (arith, lt, past))
leave_own p f (suc n) s past some =
    let i = some_insn (at p s) some in
    leave p s i.0 i.1 (f.forward s i.0 i.1) (f.ahead s i.0 i.1)
    (λ t lt there. leave_own p f n t (omega (arith, past, lt)) there)

own_order : (p : Program) → IsForward p → IsOrderOf (own p) p p
own_order p f = record {
  start = own_at p 0 (at p 0) refl f.start;
  kept = λ s t e. let o = own_is p s t (at p s) refl e in (
    o.0,
    o.1,
    subst (λ (n : ℕ). IsKeptAs (own p) p s n o.0) o.2
        (kept p s o.0 o.1 (f.forward s o.0 o.1) (f.ahead s o.0 o.1)),
  );
  leaves = λ s t e. let o = own_is p s t (at p s) refl e in
      leave_own p f (length p) s (omega arith) (subst IsSome (sym o.1) refl);
}

pub ordered_itself : (bytes copy : List ℕ) (p : Program) → IsFlow p → IsForward p
    → IsRead (program_bytes p) p → program_bytes p ≡ bytes → copy ≡ bytes → IsOrdered bytes copy
ordered_itself bytes copy p flow forward read is same = record {
  old = p;
  read = subst (λ (b : List ℕ). IsRead b p) is read;
  order = record {
    new = p;
    accepted = (flow, is ∙ sym same);
    places = own p;
    order = own_order p forward;
  };
}
