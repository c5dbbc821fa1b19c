-- The registers that an instruction reads and writes, and the memory that it accesses (RFC 9669,
-- "Arithmetic and Jump Instructions" and "Load and Store Instructions").
use Rattle.std.specs.Prelude.{ℕ, ℤ, List, [], ◌∷◌, Option, Some, None}
use Rattle.bpf_insn.specs.declared.reg.Reg.{Reg}
use Rattle.bpf_insn.specs.declared.reg.Reg.TheVariants.{R0, R1, R2, R3}
use Rattle.bpf_insn.specs.declared.operand.AtomicOp.{AtomicOp}
use Rattle.bpf_insn.specs.declared.operand.AtomicOp.TheVariants.{CompareExchange}
use Rattle.bpf_insn.specs.declared.operand.AtomicSize.{AtomicSize}
use Rattle.bpf_insn.specs.declared.operand.LoadKind.{LoadKind}
use Rattle.bpf_insn.specs.declared.operand.LoadKind.TheVariants.{SignedByte, SignedHalf, SignedWord}
use Rattle.bpf_insn.specs.declared.operand.Operand.{Operand}
use Rattle.bpf_insn.specs.declared.operand.Operand.TheVariants.{Imm, Register}
use Rattle.bpf_insn.specs.declared.operand.Size.{Size}
use Rattle.bpf_insn.specs.declared.insn.Insn.{Insn}
use Rattle.bpf_insn.specs.declared.insn.Insn.TheVariants.{Alu, Mov, MovSx, Neg, End, Jump, JumpIf}
use Rattle.bpf_insn.specs.declared.insn.Insn.TheVariants.{Call, Exit, Load, StoreImm, Store}
use Rattle.bpf_insn.specs.declared.insn.Insn.TheVariants.{Atomic, Wide}
use Rattle.bpf_semantics.specs.declared.helpers.Prototype.{Prototype}
use Rattle.bpf_semantics.specs.declared.helpers.Prototype.TheVariants.{OfMap, OfText, OfNumber}
use Rattle.bpf_semantics.specs.Helpers.{called_prototype}
use Rattle.bpf_semantics.specs.Reads.{byte_count, load_count}
use Rattle.bpf_semantics.specs.Counters.{atomic_count, fetched}
use Rattle.bpf_checks.specs.declared.access.Use.{Use}
use Rattle.bpf_checks.specs.declared.access.Use.TheVariants.{Loads, Extends, Stores, Exchanges}
use Rattle.bpf_checks.specs.declared.access.Access.{Access}

-- ---- registers

-- the argument registers of a helper
abbrev pub arguments : Option Prototype → List Reg
arguments None = []
arguments (Some OfMap) = R1 ∷ R2 ∷ []
arguments (Some OfText) = R1 ∷ R2 ∷ R3 ∷ []
arguments (Some (OfNumber most)) = R1 ∷ []

abbrev pub operand_register : Operand → List Reg
operand_register (Imm k) = []
operand_register (Register r) = r ∷ []

-- compare-and-exchange compares with R0
abbrev pub compared_register : AtomicOp → List Reg
compared_register CompareExchange = R0 ∷ []
compared_register op = []

-- the registers that an instruction reads
abbrev pub reads : Insn → List Reg
reads (Alu bits op dst src) = dst ∷ operand_register src
reads (Mov bits dst src) = operand_register src
reads (MovSx extension dst src) = src ∷ []
reads (Neg bits dst) = dst ∷ []
reads (End order size dst) = dst ∷ []
reads (Jump distance) = []
reads (JumpIf bits condition left right offset) = left ∷ operand_register right
reads (Call helper) = arguments (called_prototype helper)
reads Exit = R0 ∷ []
reads (Load kind dst src offset) = src ∷ []
reads (StoreImm size dst offset imm) = dst ∷ []
reads (Store size dst src offset) = dst ∷ src ∷ []
reads (Atomic op size dst src offset) = dst ∷ src ∷ compared_register op
reads (Wide dst value) = []

-- the register that it writes: for an atomic operation, the one that gets the old value
abbrev pub writes : Insn → Option Reg
writes (Alu bits op dst src) = Some dst
writes (Mov bits dst src) = Some dst
writes (MovSx extension dst src) = Some dst
writes (Neg bits dst) = Some dst
writes (End order size dst) = Some dst
writes (Call helper) = Some R0
writes (Load kind dst src offset) = Some dst
writes (Atomic op size dst src offset) = fetched op src
writes (Wide dst value) = Some dst
writes i = None

-- ---- memory

abbrev pub load_use : LoadKind → Use
load_use SignedByte = Extends
load_use SignedHalf = Extends
load_use SignedWord = Extends
load_use kind = Loads

abbrev pub access_by : Use → Reg → ℤ → ℕ → Access
access_by how base offset count =
    record { how = how; base = base; offset = offset; count = count }

abbrev pub load_access : LoadKind → Reg → ℤ → Access
load_access kind src offset = access_by (load_use kind) src offset (load_count kind)

abbrev pub store_access : Size → Reg → ℤ → Access
store_access size dst offset = access_by Stores dst offset (byte_count size)

abbrev pub atomic_access : AtomicSize → Reg → ℤ → Access
atomic_access size dst offset = access_by Exchanges dst offset (atomic_count size)

-- the memory that an instruction accesses through an address
abbrev pub access : Insn → Option Access
access (Load kind dst src offset) = Some (load_access kind src offset)
access (StoreImm size dst offset imm) = Some (store_access size dst offset)
access (Store size dst src offset) = Some (store_access size dst offset)
access (Atomic op size dst src offset) = Some (atomic_access size dst offset)
access i = None
