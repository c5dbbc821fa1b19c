-- Jumps, and the end of a run: the edge that the run takes isn't dropped, and represents its state.
use Rattle.std.proofs.Common.{◌≡◌, ℕ, ◌+◌, ◌≤◌, ℤ, pos, negsuc, ◌≤ℤ◌, List, [], ◌∷◌, ◌++◌}
use Rattle.std.proofs.Common.{Option, Some, None, Bool, true, false, refl, arith}
use Rattle.std.specs.Prelude.{not}
use Rattle.std.specs.List.{list_any}
use Rattle.std.proofs.lemmas.Int.{ints}
use Rattle.bpf_insn.specs.declared.reg.Reg.{Reg}
use Rattle.bpf_insn.specs.declared.reg.Reg.TheVariants.{R0}
use Rattle.bpf_insn.specs.declared.operand.Bits.{Bits}
use Rattle.bpf_insn.specs.declared.operand.Condition.{Condition}
use Rattle.bpf_insn.specs.declared.operand.Distance.{Distance}
use Rattle.bpf_insn.specs.declared.operand.Operand.{Operand}
use Rattle.bpf_insn.specs.declared.insn.Insn.TheVariants.{Jump, JumpIf, Exit}
use Rattle.bpf_insn.specs.Table.{number_of}
use Rattle.bpf_insn.specs.Conditions.{holds}
use Rattle.bpf_insn.specs.Program.{landing, slots_moved}
use Rattle.cells.specs.Arrays.{AppShape}
use Rattle.bpf_semantics.specs.State.{State}
use Rattle.bpf_semantics.specs.Outcome.{jump_to, branch, finish, moved_to}
use Rattle.bpf_semantics.specs.Reads.{register, operand}
use Rattle.bpf_semantics.specs.Step.{act}
use Rattle.abs_value.specs.declared.value.Abs.{Abs}
use Rattle.abs_value.specs.declared.value.Abs.TheVariants.{Num}
use Rattle.abs_value.specs.declared.state.AbsState.{AbsState}
use Rattle.abs_value.specs.Values.{is_unusable}
use Rattle.abs_value.specs.States.{value_of}
use Rattle.abs_value.specs.Lookups.{refined_state}
use Rattle.abs_value.specs.Covers.{Returns, FitsImm, Includes, Covers, IsRepresented}
use Rattle.abs_value.specs.Laws.{CoversOn}
use Rattle.bpf_checks.specs.Reads.{operand_register}
use Rattle.bpf_checks.specs.Rules.{is_choice}
use Rattle.bpf_checks.specs.Transfer.{Edge, edge_to, edge, edges}
use Rattle.bpf_checks.specs.Sound.{Leads, IsSafe}
use Rattle.bpf_checks.proofs.Given.{Given}
use Rattle.bpf_checks.proofs.Passes.{Passes, false_or, not_false}
use Rattle.bpf_checks.proofs.Outcomes.{answers, leads, stands_later, moved_covers}
use Rattle.bpf_checks.proofs.Computing.{both_there, operand_usable, alone_there}

-- ---- jumps

-- the abstract state also represents the state at a later slot
at_later : (given : Given) (shape : AppShape) (e f : AbsState) (s : State) (slot : ℕ)
    (h : IsRepresented shape e s) → s.slot ≤ slot → Covers (answers h) f s
    → IsRepresented shape f (moved_to s slot)
at_later given shape e f s slot h le covers = stands_later given shape h.by s.slot f
    (moved_to s slot) le h.before (moved_covers (answers h) f s slot covers)

jump_to_safe : (given : Given) (shape : AppShape) (e : AbsState) (s : State) (z : ℤ)
    → pos 0 ≤ℤ z → IsRepresented shape e s
    → IsSafe shape (edge (landing s.slot z) (Some e) ++ []) (jump_to s (landing s.slot z))
jump_to_safe given shape e s (pos n) forward h = leads shape e (moved_to s (s.slot + 1 + n))
    (at_later given shape e e s (s.slot + 1 + n) h (omega arith) h.covers)
jump_to_safe given shape e s (negsuc n) forward h = absurd (grind (arith, ints))

pub jump_safe : (given : Given) (shape : AppShape) (e : AbsState) (s : State) (distance : Distance)
    → pos 0 ≤ℤ slots_moved distance → IsRepresented shape e s
    → IsSafe shape (edges shape s.slot e (Jump distance)) (act shape s (Jump distance))
unfolding edges
jump_safe given shape e s distance forward h =
    jump_to_safe given shape e s (slots_moved distance) forward h

first_leads : (shape : AppShape) (e : AbsState) (es : List Edge) (t : State)
    → IsRepresented shape e t
    → Leads shape (edge_to t.slot e ∷ es) t
first_leads shape e es t h = record { entry = e; along = (0, omega arith, refl); represents = h }

second_leads : (shape : AppShape) (e : AbsState) (d : Edge) (t : State) → IsRepresented shape e t
    → Leads shape (d ∷ edge_to t.slot e ∷ []) t
second_leads shape e d t h = record { entry = e; along = (1, omega arith, refl); represents = h }

branch_safe : (given : Given) (shape : AppShape) (e : AbsState) (s : State) (offset : ℤ)
    (j n : Option AbsState) (w : Option Bool) (t : Bool) (h : IsRepresented shape e s)
    → pos 0 ≤ℤ offset → w ≡ Some t
    → (t ≡ true → CoversOn (answers h) j s) → (t ≡ false → CoversOn (answers h) n s)
    → IsSafe shape (edge (landing s.slot offset) j ++ edge (Some (s.slot + 1)) n)
    (branch s offset w)
branch_safe given shape e s (negsuc m) j n w t h forward is hj hn = absurd (grind (arith, ints))
branch_safe given shape e s (pos m) None n w true h forward is hj hn = absurd (hj refl)
branch_safe given shape e s (pos m) (Some f) n w true h forward is hj hn =
    rw is (first_leads shape f (edge (Some (s.slot + 1)) n) (moved_to s (s.slot + 1 + m))
    (at_later given shape e f s (s.slot + 1 + m) h (omega arith) (hj refl)))
branch_safe given shape e s (pos m) j None w false h forward is hj hn = absurd (hn refl)
branch_safe given shape e s (pos m) None (Some f) w false h forward is hj hn =
    rw is (first_leads shape f [] (moved_to s (s.slot + 1))
    (at_later given shape e f s (s.slot + 1) h (omega arith) (hn refl)))
branch_safe given shape e s (pos m) (Some d) (Some f) w false h forward is hj hn =
    rw is (second_leads shape f (edge_to (s.slot + 1 + m) d) (moved_to s (s.slot + 1))
    (at_later given shape e f s (s.slot + 1) h (omega arith) (hn refl)))

not_taken : (b : Bool) → b ≡ false → not b ≡ true
not_taken true h = absurd cc
not_taken false h = refl

pub jump_if_safe : (given : Given) (shape : AppShape) (e : AbsState) (s : State) (bits : Bits)
    (condition : Condition) (left : Reg) (right : Operand) (offset : ℤ) → pos 0 ≤ℤ offset
    → FitsImm right → IsRepresented shape e s
    → Passes shape e (JumpIf bits condition left right offset)
    → IsSafe shape (edges shape s.slot e (JumpIf bits condition left right offset))
    (act shape s (JumpIf bits condition left right offset))
unfolding edges
jump_if_safe given shape e s bits condition left right offset forward f h ok =
    let u = false_or (is_unusable (value_of e left))
    (list_any (λ r. is_unusable (value_of e r)) (operand_register right))
    (false_or _ false ok.usable).0 in
    let a = given.registers (answers h) e s (number_of left) h.covers u.0 in
    let b = given.operands (answers h) e s bits right f h.covers
    (operand_usable e bits right u.1) in
    branch_safe given shape e s offset (refined_state e bits condition left right true)
    (refined_state e bits condition left right false) _
    (holds bits condition a.number b.number) h forward
    (both_there (holds bits condition) (register s left)
    (operand s bits right) a.number b.number a.is b.is)
    (λ t. given.edges (answers h) e s bits condition left right true a.number b.number f h.covers
    a.is b.is t)
    (λ t. given.edges (answers h) e s bits condition left right false a.number b.number f h.covers
    a.is b.is (not_taken (holds bits condition a.number b.number) t))

-- ---- the end

choice_is : (g : Returns) (shape : AppShape) (a : Abs) (x : ℕ)
    → Includes g a x → is_choice shape a ≡ true → x ≤ shape.releases
choice_is g shape (Num r) x h c = grind (arith, h.between, c)
choice_is g shape a x h c = absurd cc

finish_safe : (shape : AppShape) (w : Option ℕ) (x : ℕ) → w ≡ Some x → x ≤ shape.releases
    → IsSafe shape [] (finish w)
finish_safe shape w x is le = rw is le

pub exit_safe : (given : Given) (shape : AppShape) (e : AbsState) (s : State)
    → IsRepresented shape e s
    → Passes shape e Exit → IsSafe shape (edges shape s.slot e Exit) (act shape s Exit)
unfolding edges
exit_safe given shape e s h ok =
    let x = alone_there given shape e s R0 h ok.usable in
    finish_safe shape (s.registers 0) x.number x.is (choice_is (answers h) shape
    (value_of e R0) x.number x.included (not_false (is_choice shape (value_of e R0)) ok.result))
