-- The instructions of compiled rules. R6 is the address of the context and R7 the choice so far,
-- both across calls; R0 to R4 are used within one test.
use Rattle.std.specs.Prelude.{ℕ, ◌*◌, ℤ, pos, negsuc, Bool, true, false}
use Rattle.std.specs.Int.{w32, cast_signed}
use Rattle.bpf_insn.specs.declared.reg.Reg.{Reg}
use Rattle.bpf_insn.specs.declared.reg.Reg.TheVariants.{R0, R1, R2, R3, R4, R6, R7, R10}
use Rattle.bpf_insn.specs.declared.operand.AluOp.TheVariants.{And, Add, Mod}
use Rattle.bpf_insn.specs.declared.operand.AtomicOp.TheVariants as atomic
use Rattle.bpf_insn.specs.declared.operand.AtomicSize.{AtomicSize}
use Rattle.bpf_insn.specs.declared.operand.AtomicSize.TheVariants.{Double}
use Rattle.bpf_insn.specs.declared.operand.Bits.TheVariants.{Bits32, Bits64}
use Rattle.bpf_insn.specs.declared.operand.Condition.{Condition}
use Rattle.bpf_insn.specs.declared.operand.Condition.TheVariants.{Eq, Ne, Lt, Le, Gt, Ge}
use Rattle.bpf_insn.specs.declared.operand.LoadKind.{LoadKind}
use Rattle.bpf_insn.specs.declared.operand.Operand.TheVariants.{Imm, Register}
use Rattle.bpf_insn.specs.declared.operand.Size.TheVariants as size
use Rattle.bpf_insn.specs.declared.operand.WideValue.TheVariants.{Number, Cell}
use Rattle.bpf_insn.specs.declared.insn.Insn.{Insn}
use Rattle.bpf_insn.specs.declared.insn.Insn.TheVariants.{Alu, Mov, Atomic, Wide, Load, StoreImm}
use Rattle.bpf_insn.specs.declared.insn.Insn.TheVariants.{JumpIf, Call}

-- ---- the frame of a rule

-- mov r6, r1
abbrev pub keep_context : Insn
keep_context = Mov Bits64 R6 (Register R1)

-- mov r7, k
abbrev pub set_choice : ℕ → Insn
set_choice k = Mov Bits64 R7 (Imm (pos k))

-- mov r0, r7
abbrev pub give_choice : Insn
give_choice = Mov Bits64 R0 (Register R7)

-- ---- comparisons

-- the imm with the bits of a 32-bit number
abbrev pub imm_of : ℕ → ℤ
imm_of n = cast_signed w32 n

-- ldx r2, [r6+offset]
abbrev pub load_field : LoadKind → ℕ → Insn
load_field kind offset = Load kind R2 R6 (pos offset)

-- a 32-bit jump over `slots` slots, if the register compares by the condition with the number
abbrev pub jump_if : Condition → Reg → ℕ → ℕ → Insn
jump_if condition left n slots = JumpIf Bits32 condition left (Imm (imm_of n)) (pos slots)

-- and r2, mask
abbrev pub mask_field : ℕ → Insn
mask_field mask = Alu Bits64 And R2 (Imm (pos mask))

-- mod32 r, n
abbrev pub take_remainder : Reg → ℕ → Insn
take_remainder r n = Alu Bits32 Mod r (Imm (imm_of n))

-- ---- calls

-- mov r1, n and similar
abbrev pub set_argument : Reg → ℕ → Insn
set_argument r n = Mov Bits64 r (Imm (pos n))

-- lddw r1, salt
abbrev pub load_salt : ℕ → Insn
load_salt salt = Wide R1 (Number salt)

-- call n
abbrev pub call : ℕ → Insn
call n = Call (pos n)

-- ---- texts, in the 64 bytes below the top of the stack

-- stw [r10-1-left], word
abbrev pub store_word : ℕ → ℕ → Insn
store_word left word = StoreImm size.Word R10 (negsuc left) (imm_of word)

-- mov r2, r10
abbrev pub copy_top : Insn
copy_top = Mov Bits64 R2 (Register R10)

-- add r2, -64
abbrev pub point_at_text : Insn
point_at_text = Alu Bits64 Add R2 (Imm (negsuc 63))

-- ---- counters

-- ldcell r3, array, 8*index
abbrev pub load_cell : ℕ → ℕ → Insn
load_cell array index = Wide R3 (Cell (pos array) (pos (8 * index)))

-- aadd [r3+0], r2
abbrev pub add_to_cell : AtomicSize → Insn
add_to_cell size = Atomic atomic.Add size R3 R2 (pos 0)

-- fadddw [r3+0], r2
abbrev pub take_from_cell : Insn
take_from_cell = Atomic atomic.FetchAdd Double R3 R2 (pos 0)

-- lddw r4, quota
abbrev pub load_quota : ℕ → Insn
load_quota quota = Wide R4 (Number quota)

abbrev pub below : Bool → Condition
below true = Lt
below false = Ge

-- jlt r2, r4 or jge r2, r4, over `slots` slots
abbrev pub jump_on_quota : Bool → ℕ → Insn
jump_on_quota sense slots = JumpIf Bits64 (below sense) R2 (Register R4) (pos slots)

-- ---- conditions and their opposites

abbrev pub opposite : Condition → Condition
opposite Eq = Ne
opposite Ne = Eq
opposite Lt = Ge
opposite Ge = Lt
opposite Le = Gt
opposite Gt = Le
opposite c = c

-- the condition, or its opposite
abbrev pub turned : Bool → Condition → Condition
turned true condition = condition
turned false condition = opposite condition
