-- A program and its order run in lockstep. Each step of the program except a JA is the same step at
-- the new slot, and a JA on either side changes only slot and count.
use Rattle.std.proofs.Common.{◌≡◌, ◌↔◌, ℕ, ◌+◌, List, Some, refl, ap, sym, subst, ◌∙◌, inl, inr}
use Rattle.std.proofs.lemmas.Option.{same_Some}
use Rattle.attrs.specs.Attributes.{Attributes}
use Rattle.bpf_insn.specs.declared.operand.Bits.TheVariants.{Bits64}
use Rattle.bpf_insn.specs.declared.operand.Distance.{Distance}
use Rattle.bpf_insn.specs.declared.insn.Insn.{Insn}
use Rattle.bpf_insn.specs.declared.insn.Insn.TheVariants.{Alu, Mov, MovSx, Neg, End}
use Rattle.bpf_insn.specs.declared.insn.Insn.TheVariants.{Jump, JumpIf, Call, Exit, Load}
use Rattle.bpf_insn.specs.declared.insn.Insn.TheVariants.{StoreImm, Store, Atomic, Wide}
use Rattle.bpf_insn.specs.Conditions.{holds}
use Rattle.bpf_insn.specs.Arithmetic.{alu_result}
use Rattle.bpf_insn.specs.Words.{word, immediate}
use Rattle.bpf_insn.specs.Program.{Program, at, landing, slots_moved}
use Rattle.cells.specs.Arrays.{AppShape}
use Rattle.cells.specs.declared.event.CellEvent.{CellEvent}
use Rattle.cells.specs.declared.event.CellOp.TheVariants as cell
use Rattle.bpf_semantics.specs.Program.{ShapedProgram, shaped}
use Rattle.bpf_semantics.specs.State.{State, opening}
use Rattle.bpf_semantics.specs.Reads.{register, operand, both, only, loaded}
use Rattle.bpf_semantics.specs.Calls.{helper_result}
use Rattle.bpf_semantics.specs.Counters.{load_cell}
use Rattle.bpf_semantics.specs.Outcome.{Going, moved_to, jump_to, operate, write}
use Rattle.bpf_semantics.specs.Step.{step, act, act_at}
use Rattle.flow_check.specs.Edges.{target_of}
use Rattle.block_order.specs.Order.{Places, IsJump, LeadsOnto, GoesOnAt, IsKeptAs, IsOrderOf}
use Rattle.block_order.specs.Order.{IsNoJump, LeavesJumps, other, jumped}
use Rattle.block_order.specs.Law.{DoAlike}
use Rattle.block_order.proofs.Lockstep.{GoesAlone, Turned, matches_turned, Passes, stays, passed}
use Rattle.block_order.proofs.Lockstep.{Keeps, KeepsUp, SomeEnd, SomeTrap, ends_so, traps_so}
use Rattle.block_order.proofs.Steps.{set, Tracks, Follows, operand_same, result_same}
use Rattle.block_order.proofs.Steps.{write_follows, answer_follows, ask_follows, store_follows}
use Rattle.block_order.proofs.Steps.{atomic_follows, reach_follows, branch_follows, finish_follows}

-- ---- one instruction

-- a JA continues at its target
jump_step : (p : ShapedProgram) (s : State) (d : Distance) (t : ℕ)
    → at p.code s.slot ≡ Some (Jump d) → landing s.slot (slots_moved d) ≡ Some t
    → step p s ≡ Going (moved_to s t)
jump_step p s d t here lands = ap (act_at p.shape s) here ∙ ap (jump_to s) lands

-- any other instruction is the same at its new slot
module _ (places : Places) (q : Program) (shape : AppShape) where
  kept_step : (s : State) (u m : ℕ) (i : Insn) → IsNoJump i → IsKeptAs places q s.slot u i
      → Follows places q (act shape s i) (act_at shape (set s u m) (at q u))
  kept_step s u m (Alu bits op dst src) lacks k = rw (k.0, operand_same s u m bits src)
      (write_follows places q s u m 1 k.1 dst
      (both (alu_result bits op) (register s dst) (operand s bits src)))
  kept_step s u m (Mov bits dst src) lacks k = rw (k.0, operand_same s u m bits src)
      (write_follows places q s u m 1 k.1 dst (only (word bits) (operand s bits src)))
  kept_step s u m (MovSx extension dst src) lacks k =
      rw k.0 (write_follows places q s u m 1 k.1 dst _)
  kept_step s u m (Neg bits dst) lacks k = rw k.0 (write_follows places q s u m 1 k.1 dst _)
  kept_step s u m (End order size dst) lacks k = rw k.0 (write_follows places q s u m 1 k.1 dst _)
  kept_step s u m (Jump distance) lacks k = absurd lacks
  kept_step s u m (JumpIf bits condition left right offset) lacks k =
      rw (k.0.moved_is ∙ ap Some k.0.same.1, operand_same s u m bits right)
      (branch_follows places q s u m offset k.0.same.0 k.0.target k.0.place k.0.landed
      (ap (target_of u) (sym k.0.same.1) ∙ k.0.lands) k.0.placed k.1
      (both (holds bits condition) (register s left) (operand s bits right)))
  kept_step s u m (Call helper) lacks k = rw (k.0, result_same shape s u m helper)
      (answer_follows places q s u m k.1 (helper_result shape s helper))
  kept_step s u m Exit lacks k = rw k (finish_follows places q s u m (s.registers 0))
  kept_step s u m (Load kind dst src offset) lacks k =
      rw k.0 (reach_follows places q (load_cell kind (register s src) offset)
      (λ c. operate s c cell.Load (Some dst)) (λ c. operate (set s u m) c cell.Load (Some dst))
      (write s 1 dst (loaded s kind (register s src) offset))
      (write (set s u m) 1 dst (loaded s kind (register s src) offset))
      (λ c. ask_follows places q s u m k.1 c cell.Load (Some dst))
      (write_follows places q s u m 1 k.1 dst (loaded s kind (register s src) offset)))
  kept_step s u m (StoreImm size dst offset imm) lacks k =
      rw k.0 (store_follows places q s u m k.1 size (register s dst) offset
      (Some (immediate Bits64 imm)))
  kept_step s u m (Store size dst src offset) lacks k =
      rw k.0 (store_follows places q s u m k.1 size (register s dst) offset (register s src))
  kept_step s u m (Atomic op size dst src offset) lacks k =
      rw k.0 (atomic_follows places q s u m k.1 op size dst src offset)
  kept_step s u m (Wide dst value) lacks k = rw k.0 (write_follows places q s u m 2 k.1 dst _)

module _ (places : Places) (p q : Program) (order : IsOrderOf places p q) where
  kept_at : (s u : ℕ) (i : Insn) → at p s ≡ Some i → places s ≡ Some u → IsKeptAs places q s u i
  kept_at s u i here placed =
      let k = order.kept s u placed in
      subst (λ x. IsKeptAs places q s u x) (same_Some k.0 i (sym k.1 ∙ here)) k.2

  -- the new slot leads to the target of the program's JA
  leads_on : (s u t : ℕ) (d : Distance) → at p s ≡ Some (Jump d)
      → landing s (slots_moved d) ≡ Some t → places s ≡ Some u → GoesOnAt places q u t
  leads_on s u t d here lands placed =
      let k = kept_at s u (Jump d) here placed in
      subst (λ (n : ℕ). GoesOnAt places q u n) (same_Some k.0 t (sym k.1 ∙ lands)) k.2

  module _ (shape : AppShape) where
    abbrev Old : ShapedProgram
    Old = shaped p shape

    abbrev New : ShapedProgram
    New = shaped q shape

    abbrev Forth : State → State → Type 0
    Forth = Tracks places q

    abbrev Back : State → State → Type 0
    Back = Turned Forth

    same_step : (s : State) (u m : ℕ) (i : Insn) → at p s.slot ≡ Some i → IsNoJump i
        → places s.slot ≡ Some u → Follows places q (step Old s) (step New (set s u m))
    same_step s u m i here lacks placed =
        rw here (kept_step places q shape s u m i lacks (kept_at s.slot u i here placed))

    -- ---- the order follows the program

    led : (s : State) (v u m : ℕ) → LeadsOnto q v u → (k : ℕ) × Passes New (set s v m) (set s u k)
    led s v u m (inl same) =
        (m, subst (λ (n : ℕ). Passes New (set s n m) (set s u m)) (sym same) stays)
    led s v u m (inr (d, here, lands)) =
        (m + 1, passed (jump_step New (set s v m) d u here lands) stays)

    compared : (s : State) (u k : ℕ) → LeavesJumps p s.slot → places s.slot ≡ Some u
        → Keeps Old New Forth (step Old s) (set s u k)
    compared s u k (other {i} here lacks) placed = inr (same_step s u k i here lacks placed)
    compared s u k (jumped {t} {d} here lands rest) placed =
        inl (subst (λ o. GoesAlone Forth o (set s u k)) (sym (jump_step Old s d t here lands))
        (u, k, refl, leads_on s.slot u t d here lands placed))

    forth : (s s' : State) → Forth s s' → KeepsUp Old New Forth s s'
    forth s s' (v, m, is, (u, placed, leads)) =
        let k = led s v u m leads in
        subst (λ x. KeepsUp Old New Forth s x) (sym is)
        (set s u k.0, k.1, compared s u k.0 (order.leaves s.slot u placed) placed)

    -- ---- and the program follows its order

    -- a JA of the order is a step on its own
    alone : (s : State) (n k v u m : ℕ) → IsJump q v u → places n ≡ Some u
        → Keeps New Old Back (step New (set s v m)) (set s n k)
    alone s n k v u m (d, here, lands) placed =
        inl (subst (λ o. GoesAlone Back o (set s n k))
        (sym (jump_step New (set s v m) d u here lands))
        (u, m + 1, refl, (u, placed, inl refl)))

    -- the program follows its JAs from slot n, to their end or to one that the order has
    leaving : (s : State) {n : ℕ} → LeavesJumps p n → (k u m : ℕ) → places n ≡ Some u
        → KeepsUp New Old Back (set s u m) (set s n k)
    leaving s {n} (other {i} here lacks) k u m placed = (
      set s n k,
      stays,
      inr (matches_turned Forth (step Old (set s n k)) (step New (set s u m))
          (same_step (set s n k) u m i here lacks placed)),
    )
    leaving s {n} (jumped {t} {d} here lands rest) k u m placed =
        let on = leads_on n u t d here lands placed in
        let first = jump_step Old (set s n k) d t here lands in
        elim on.2 [
          | inl same ↦ let w = leaving s rest (k + 1) u m (on.1 ∙ ap Some (sym same)) in
              (w.0, passed first w.1, w.2)
          | inr jump ↦ (set s t (k + 1), passed first stays, alone s t (k + 1) u on.0 m jump on.1)
        ]

    back : (s' s : State) → Back s' s → KeepsUp New Old Back s' s
    back s' s (v, m, is, (u, placed, leads)) =
        subst (λ x. KeepsUp New Old Back x s) (sym is) (elim leads [
          | inl same ↦ subst (λ (n : ℕ). KeepsUp New Old Back (set s n m) s) (sym same)
              (leaving s (order.leaves s.slot u placed) s.count u m placed)
          | inr jump ↦ (s, stays, alone s s.slot s.count v u m jump placed)
        ])

    -- ---- whole runs

    start : (a : Attributes) → Forth (opening a) (opening a)
    start a = (0, 0, refl, (0, order.start, inl refl))

    end_alike : (a : Attributes) (es : List CellEvent) (choice : ℕ)
        → SomeEnd Old (opening a) es choice ↔ SomeEnd New (opening a) es choice
    end_alike a es choice = (
      λ r. ends_so Old New Forth forth r.1 (opening a) (start a),
      λ r. ends_so New Old Back back r.1 (opening a) (start a),
    )

    trap_alike : (a : Attributes) (es : List CellEvent)
        → SomeTrap Old (opening a) es ↔ SomeTrap New (opening a) es
    trap_alike a es = (
      λ r. traps_so Old New Forth forth r.1 (opening a) (start a),
      λ r. traps_so New Old Back back r.1 (opening a) (start a),
    )

  pub do_alike : DoAlike p q
  do_alike = record { end = end_alike; trap = trap_alike }
