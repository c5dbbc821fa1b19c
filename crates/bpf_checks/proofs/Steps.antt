-- If no rule is broken, the step of each instruction is safe.
use Rattle.std.proofs.Common.{None, refl, FitsSigned}
use Rattle.std.specs.Int.{w32}
use Rattle.bpf_insn.specs.declared.operand.Operand.{Operand}
use Rattle.bpf_insn.specs.declared.operand.Operand.TheVariants.{Imm, Register}
use Rattle.bpf_insn.specs.declared.insn.Insn.{Insn}
use Rattle.bpf_insn.specs.declared.insn.Insn.TheVariants.{Alu, Mov, MovSx, Neg, End}
use Rattle.bpf_insn.specs.declared.insn.Insn.TheVariants.{Jump, JumpIf, Call, Exit, Load}
use Rattle.bpf_insn.specs.declared.insn.Insn.TheVariants.{StoreImm, Store, Atomic, Wide}
use Rattle.bpf_insn.specs.Spelling.{IsEncodable, imm_field}
use Rattle.cells.specs.Arrays.{AppShape, IsShape}
use Rattle.bpf_semantics.specs.State.{State, HasWords}
use Rattle.bpf_semantics.specs.Step.{act}
use Rattle.abs_value.specs.declared.state.AbsState.{AbsState}
use Rattle.abs_value.specs.Covers.{IsRepresented}
use Rattle.abs_value.specs.Laws.{CoversFirst, CoversSecond, CoversOpening}
use Rattle.flow_check.specs.Edges.{JumpsForward}
use Rattle.bpf_checks.specs.Transfer.{edges}
use Rattle.bpf_checks.specs.Sound.{IsSafe, EveryStepIsSafe, JoinRepresentsFirst}
use Rattle.bpf_checks.specs.Sound.{JoinRepresentsSecond}
use Rattle.bpf_checks.specs.Sound.{OpeningIsRepresented}
use Rattle.bpf_checks.proofs.Given.{Given}
use Rattle.bpf_checks.proofs.Passes.{Passes, passes}
use Rattle.bpf_checks.proofs.Outcomes.{answers}
use Rattle.abs_value.specs.Covers.{FitsImm}
use Rattle.bpf_checks.proofs.Computing.{alu_safe, mov_safe, movsx_safe, neg_safe, end_safe}
use Rattle.bpf_checks.proofs.Jumping.{jump_safe, jump_if_safe, exit_safe}
use Rattle.bpf_checks.proofs.AtomicSteps.{atomic_safe}
use Rattle.bpf_checks.proofs.WideSteps.{wide_safe}
use Rattle.bpf_checks.proofs.CallSteps.{call_safe}
use Rattle.bpf_checks.proofs.Accesses.{load_safe, store_imm_safe, store_safe}

fits_imm : (src : Operand) → FitsSigned w32 (imm_field src) → FitsImm src
fits_imm (Imm k) f = f
fits_imm (Register r) f = tt

step_safe : (given : Given) (shape : AppShape) (e : AbsState) (s : State) (i : Insn) → IsShape shape
    → IsEncodable i → JumpsForward i → HasWords s → IsRepresented shape e s → Passes shape e i
    → IsSafe shape (edges shape s.slot e i) (act shape s i)
step_safe given shape e s (Alu bits op dst src) fits f forward w h ok =
    alu_safe given shape e s bits op dst src (fits_imm src f.first.imm) w h ok
step_safe given shape e s (Mov bits dst src) fits f forward w h ok =
    mov_safe given shape e s bits dst src (fits_imm src f.first.imm) h ok
step_safe given shape e s (MovSx extension dst src) fits f forward w h ok =
    movsx_safe given shape e s extension dst src h ok
step_safe given shape e s (Neg bits dst) fits f forward w h ok =
    neg_safe given shape e s bits dst w h ok
step_safe given shape e s (End order size dst) fits f forward w h ok =
    end_safe given shape e s order size dst h ok
step_safe given shape e s (Jump distance) fits f forward w h ok =
    jump_safe given shape e s distance forward h
step_safe given shape e s (JumpIf bits condition left right offset) fits f forward w h ok =
    jump_if_safe given shape e s bits condition left right offset forward
    (fits_imm right f.first.imm) h ok
step_safe given shape e s (Call helper) fits f forward w h ok =
    call_safe given shape e s helper h w ok
step_safe given shape e s Exit fits f forward w h ok = exit_safe given shape e s h ok
step_safe given shape e s (Load kind dst src offset) fits f forward w h ok =
    load_safe given shape e s kind dst src offset fits f.first.offset w h ok
step_safe given shape e s (StoreImm size dst offset imm) fits f forward w h ok =
    store_imm_safe given shape e s size dst offset imm fits f.first.offset f.first.imm h ok
step_safe given shape e s (Store size dst src offset) fits f forward w h ok =
    store_safe given shape e s size dst src offset fits f.first.offset w h ok
step_safe given shape e s (Atomic op size dst src offset) fits f forward w h ok =
    atomic_safe given shape e s op size dst src offset h fits ok
step_safe given shape e s (Wide dst value) fits f forward w h ok =
    wide_safe given shape e s dst value f.number h fits ok

pub steps_safe : Given → EveryStepIsSafe
steps_safe given shape e s i fits f forward w h ok =
    step_safe given shape e s i fits f forward w h (passes shape e i ok)

-- ---- joins, and the start of a run

pub first_stands : CoversFirst → JoinRepresentsFirst
first_stands law shape e f s h =
    record { by = h.by; before = h.before; covers = law (answers h) e f s h.covers }

pub second_stands : CoversSecond → JoinRepresentsSecond
second_stands law shape e f s h =
    record { by = h.by; before = h.before; covers = law (answers h) e f s h.covers }

pub opening_stands : CoversOpening → OpeningIsRepresented
opening_stands law shape a = record {
  by = λ call. None;
  before = λ call le. refl;
  covers = law (record { shape = shape; by = λ call. None }) a;
}
