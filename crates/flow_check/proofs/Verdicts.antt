-- Bytes that have one reading have one verdict.
use Rattle.std.proofs.Common.{◌≡◌, ℕ, ◌*◌, ◌<◌, ◌≤◌, List, [], length, ◌==◌}
use Rattle.std.proofs.Common.{if◌then◌else◌, refl, sym, ap, subst, ◌∙◌, arith}
use Rattle.bpf_insn.specs.declared.fields.InsnFault.{InsnFault}
use Rattle.bpf_insn.specs.Program.{Program}
use Rattle.flow_check.specs.declared.flow_fault.FlowRule.{FlowRule}
use Rattle.flow_check.specs.declared.flow_fault.FlowRule.TheVariants.{BackJump, Outside, InsideWide}
use Rattle.flow_check.specs.declared.flow_fault.FlowRule.TheVariants.{FallsOff, Unreached, Empty}
use Rattle.flow_check.specs.declared.flow_fault.FlowRule.TheVariants.{TooLong, Insn as NoInsn}
use Rattle.flow_check.specs.declared.flow_fault.FlowFault.TheVariants.{Rule}
use Rattle.flow_check.specs.Edges.{BreaksEdge, KeepsEdges, KeepsReach}
use Rattle.flow_check.specs.Flow.{IsAcceptedAs}
use Rattle.flow_check.specs.Fault.{rule_number, IsEdgeFault, IsRead, IsUnread, IsFirstEdgeFault}
use Rattle.flow_check.specs.Fault.{IsFirstUnreached, IsFlowFault, HasOneReading, HasOneVerdict}
use Rattle.flow_check.proofs.Layouts.{length_program_bytes}

-- ---- the kinds of a fault

-- a fault by the kind of its cause; each kind excludes the others
data Found (bytes : List ℕ) : ℕ → FlowRule → Type 0 where
  nothing : bytes ≡ [] → Found bytes 0 Empty
  long : 32768 < length bytes → Found bytes 0 TooLong
  unread : (s : ℕ) (e : InsnFault) → IsUnread bytes s e → Found bytes s (NoInsn e)
  edge : (s : ℕ) (rule : FlowRule) → IsFirstEdgeFault bytes s rule → Found bytes s rule
  unreached : (s : ℕ) → IsFirstUnreached bytes s → Found bytes s Unreached

found : (bytes : List ℕ) (s : ℕ) (rule : FlowRule) → IsFlowFault bytes (Rule s rule)
    → Found bytes s rule
found bytes s Empty h = subst (λ (n : ℕ). Found bytes n Empty) (sym h.1) (nothing h.0)
found bytes s TooLong h = subst (λ (n : ℕ). Found bytes n TooLong) (sym h.1) (long h.0)
found bytes s (NoInsn e) h = unread s e h
found bytes s Unreached h = unreached s h
found bytes s rule h = edge s rule h

-- ---- accepted bytes

pub accepted_read : (bytes : List ℕ) (p : Program) → IsAcceptedAs bytes p → IsRead bytes p
accepted_read bytes p a =
    let size : length bytes ≡ 8 * length p =
    sym (ap length a.1) ∙ length_program_bytes p a.0.program in
    record {
      some = omega (arith, size, a.0.some);
      short = omega (arith, size, a.0.short);
      program = a.0.program;
      bytes_are = a.1;
    }

-- ---- two faults of one kind

edge_rule : ℕ → FlowRule
edge_rule n =
    if n == 1 then BackJump else if n == 2 then Outside else if n == 3 then InsideWide else FallsOff

edge_again : (p : Program) (s : ℕ) (rule : FlowRule) → BreaksEdge p s rule
    → edge_rule (rule_number rule) ≡ rule
unfolding edge_rule
edge_again p s BackJump h = refl
edge_again p s Outside h = refl
edge_again p s InsideWide h = refl
edge_again p s FallsOff h = refl
edge_again p s rule h = absurd h

same_rule : (p : Program) (s : ℕ) (rule other : FlowRule)
    → IsEdgeFault p s rule → IsEdgeFault p s other → rule ≡ other
same_rule p s rule other a b =
    let not_below : ¬ (rule_number rule < rule_number other) = λ lt. b.lowest rule lt a.breaks in
    let not_above : ¬ (rule_number other < rule_number rule) = λ lt. a.lowest other lt b.breaks in
    let same : rule_number rule ≡ rule_number other = omega (arith, not_below, not_above) in
    sym (edge_again p s rule a.breaks) ∙ ap edge_rule same ∙ edge_again p s other b.breaks

module _ (bytes : List ℕ) (one : HasOneReading bytes) where
  same_program : (p q : Program) → IsRead bytes p → IsRead bytes q → p ≡ q
  same_program p q a b = one.program p q a.program b.program a.bytes_are b.bytes_are

  edge_in : (q : Program)
      → IsRead bytes q → (s : ℕ) (rule : FlowRule) → (h : IsFirstEdgeFault bytes s rule)
      → ((k : ℕ) → k < s → KeepsEdges q k) × IsEdgeFault q s rule
  edge_in q is s rule h =
      subst (λ (p : Program). ((k : ℕ) → k < s → KeepsEdges p k) × IsEdgeFault p s rule)
      (same_program h.program q h.read is) (h.before, h.fault)

  unreached_in : (q : Program) → IsRead bytes q → (s : ℕ) → (h : IsFirstUnreached bytes s)
      → ((k : ℕ) → KeepsEdges q k) × ((k : ℕ) → k < s → KeepsReach q k) × ¬ KeepsReach q s
  unreached_in q is s h =
      subst (λ (p : Program). ((k : ℕ) → KeepsEdges p k) × ((k : ℕ) → k < s → KeepsReach p k)
      × ¬ KeepsReach p s) (same_program h.program q h.read is) (h.edges, h.before, h.fault)

  same_edge : (s t : ℕ) (rule other : FlowRule)
      → IsFirstEdgeFault bytes s rule → IsFirstEdgeFault bytes t other → (s ≡ t) × (rule ≡ other)
  same_edge s t rule other a b =
      let c = edge_in b.program b.read s rule a in
      let not_below : ¬ (s < t) = λ lt. b.before s lt rule c.1.breaks in
      let not_above : ¬ (t < s) = λ lt. c.0 t lt other b.fault.breaks in
      let same : s ≡ t = omega (arith, not_below, not_above) in (
        same,
        same_rule b.program t rule other
            (subst (λ (n : ℕ). IsEdgeFault b.program n rule) same c.1) b.fault,
      )

  same_unreached : (s t : ℕ) → IsFirstUnreached bytes s → IsFirstUnreached bytes t → s ≡ t
  same_unreached s t a b =
      let c = unreached_in b.program b.read s a in
      let not_below : ¬ (s < t) = λ lt. c.2 (b.before s lt) in
      let not_above : ¬ (t < s) = λ lt. b.fault (c.1 t lt) in
      omega (arith, not_below, not_above)

  -- ---- two faults of two kinds

  read_unread : (p : Program) (s : ℕ) (e : InsnFault) → IsRead bytes p → IsUnread bytes s e → ⊥
  read_unread p s e is u = one.either p s e is.program is.bytes_are u

  edge_unreached : (s t : ℕ) (rule : FlowRule)
      → IsFirstEdgeFault bytes s rule → IsFirstUnreached bytes t → ⊥
  edge_unreached s t rule a b = b.edges s rule (edge_in b.program b.read s rule a).1.breaks

  -- the length of the bytes isn't a fault
  abbrev IsInside : Type 0
  IsInside = (0 < length bytes) × (length bytes ≤ 32768)

  inside_read : (p : Program) → IsRead bytes p → IsInside
  inside_read p is = (is.some, is.short)

  inside_unread : (s : ℕ) (e : InsnFault) → IsUnread bytes s e → IsInside
  inside_unread s e u = (omega (arith, u.more), u.short)

  outside : {A : Type 0} → bytes ≡ [] → IsInside → A
  outside none i = absurd (omega (arith, ap length none, i.0))

  over : {A : Type 0} → 32768 < length bytes → IsInside → A
  over lt i = absurd (omega (arith, lt, i.1))

  one_fault : (s t : ℕ) (rule other : FlowRule) → Found bytes s rule → Found bytes t other
      → (s ≡ t) × (rule ≡ other)
  one_fault s t rule other (nothing a) (nothing b) = (refl, refl)
  one_fault s t rule other (nothing a) (long b) = absurd (omega (arith, ap length a, b))
  one_fault s t rule other (nothing a) (unread y e b) = outside a (inside_unread t e b)
  one_fault s t rule other (nothing a) (edge y r b) = outside a (inside_read b.program b.read)
  one_fault s t rule other (nothing a) (unreached y b) = outside a (inside_read b.program b.read)
  one_fault s t rule other (long a) (nothing b) = absurd (omega (arith, ap length b, a))
  one_fault s t rule other (long a) (long b) = (refl, refl)
  one_fault s t rule other (long a) (unread y e b) = over a (inside_unread t e b)
  one_fault s t rule other (long a) (edge y r b) = over a (inside_read b.program b.read)
  one_fault s t rule other (long a) (unreached y b) = over a (inside_read b.program b.read)
  one_fault s t rule other (unread x e a) (nothing b) = outside b (inside_unread s e a)
  one_fault s t rule other (unread x e a) (long b) = over b (inside_unread s e a)
  one_fault s t rule other (unread x e a) (unread y d b) =
      let same = one.unread s t e d a b in (same.0, ap (λ (x : InsnFault). NoInsn x) same.1)
  one_fault s t rule other (unread x e a) (edge y r b) = absurd (read_unread b.program s e b.read a)
  one_fault s t rule other (unread x e a) (unreached y b) =
      absurd (read_unread b.program s e b.read a)
  one_fault s t rule other (edge x q a) (nothing b) = outside b (inside_read a.program a.read)
  one_fault s t rule other (edge x q a) (long b) = over b (inside_read a.program a.read)
  one_fault s t rule other (edge x q a) (unread y e b) = absurd (read_unread a.program t e a.read b)
  one_fault s t rule other (edge x q a) (edge y r b) = same_edge s t rule other a b
  one_fault s t rule other (edge x q a) (unreached y b) = absurd (edge_unreached s t rule a b)
  one_fault s t rule other (unreached x a) (nothing b) = outside b (inside_read a.program a.read)
  one_fault s t rule other (unreached x a) (long b) = over b (inside_read a.program a.read)
  one_fault s t rule other (unreached x a) (unread y e b) =
      absurd (read_unread a.program t e a.read b)
  one_fault s t rule other (unreached x a) (edge y r b) = absurd (edge_unreached t s other b a)
  one_fault s t rule other (unreached x a) (unreached y b) = (same_unreached s t a b, refl)

  -- ---- accepted or refused

  not_found : (p : Program) (s : ℕ) (rule : FlowRule)
      → IsAcceptedAs bytes p → Found bytes s rule → ⊥
  not_found p s rule a (nothing b) = outside b (inside_read p (accepted_read bytes p a))
  not_found p s rule a (long b) = over b (inside_read p (accepted_read bytes p a))
  not_found p s rule a (unread y e b) = read_unread p s e (accepted_read bytes p a) b
  not_found p s rule a (edge y r b) =
      a.0.edges s rule (edge_in p (accepted_read bytes p a) s rule b).1.breaks
  not_found p s rule a (unreached y b) =
      (unreached_in p (accepted_read bytes p a) s b).2 (a.0.reached s)

  pub one_verdict : HasOneVerdict bytes
  one_verdict = record {
    program = λ p q a b. one.program p q a.0.program b.0.program a.1 b.1;
    fault = λ s t rule other a b.
        one_fault s t rule other (found bytes s rule a) (found bytes t other b);
    either = λ p s rule a b. not_found p s rule a (found bytes s rule b);
  }
