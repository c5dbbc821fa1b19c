-- The accepted program of bytes, and why they have none.
use Rattle.std.specs.Prelude.{◌≡◌, ℕ, List, Bool, true, false}
use Rattle.bpf_insn.specs.Program.{Program}
use Rattle.bpf_semantics.specs.Program.{ShapedProgram}
use Rattle.bpf_verify.specs.Accepted.{IsAccepted, IsRefusal}
use Rattle.bpf_checks.specs.declared.refusal.Refusal.{Refusal}
use Rattle.bpf_checks.specs.declared.refusal.Refusal.TheVariants as refusal
use Rattle.cells.specs.Arrays.{AppShape}
use Rattle.flow_check.specs.Fault.{HasOneVerdict, IsFlowFault}
use Rattle.flow_check.specs.Flow.{IsAcceptedAs}
use Rattle.flow_check.specs.declared.flow_fault.FlowFault.TheVariants as flow
use Rattle.acceptance.specs.declared.program_fault.ProgramFault.{ProgramFault}
use Rattle.acceptance.specs.declared.program_fault.ProgramFault.TheVariants.{Flow, Verify}

-- the bytes pass the flow check as this program, and as no other
pub record AreOnly (bytes : List ℕ) (code : Program) : Type 0 where
  pub bytes_are : IsAcceptedAs bytes code
  pub only : (other : Program) → IsAcceptedAs bytes other → other ≡ code

-- the bytes are this program, which the verifier accepts under its shape
pub record IsProgramOf (bytes : List ℕ) (program : ShapedProgram) : Type 0 where
  pub are : AreOnly bytes program.code
  pub accepted : IsAccepted program.code program.shape

-- the bytes are a program that the verifier refuses under the shape
pub record IsRefusedProgram (bytes : List ℕ) (shape : AppShape) (refusal : Refusal) : Type 0 where
  pub code : Program
  pub are : AreOnly bytes code
  pub refused : IsRefusal code shape refusal

-- why the bytes aren't a program of the shape; a fault of the flow check is their only one
abbrev pub RefusesProgram : List ℕ → AppShape → ProgramFault → Type 0
RefusesProgram bytes shape (Flow fault) = IsFlowFault bytes fault × HasOneVerdict bytes
RefusesProgram bytes shape (Verify refused) = IsRefusedProgram bytes shape refused

abbrev pub is_memory : ProgramFault → Bool
is_memory (Flow flow.Memory) = true
is_memory (Verify refusal.Memory) = true
is_memory fault = false
