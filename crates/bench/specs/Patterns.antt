-- The programs of the benchmark: two instructions that open a program, blocks of four, and two that
-- close it.
use Rattle.std.specs.Prelude.{ℕ, zero, suc, ◌+◌, ◌-◌, ◌*◌, ◌%◌, ℤ, pos, ◌-ℤ◌, List, [], ◌∷◌, ◌++◌}
use Rattle.std.specs.Prelude.{nat_lt, if◌then◌else◌}
use Rattle.attrs.specs.Context.{bucket_offset}
use Rattle.bpf_insn.specs.declared.reg.Reg.{Reg}
use Rattle.bpf_insn.specs.declared.reg.Reg.TheVariants.{R0, R1, R2, R3, R4, R5, R10}
use Rattle.bpf_insn.specs.declared.operand.Bits.{Bits}
use Rattle.bpf_insn.specs.declared.operand.Bits.TheVariants.{Bits64, Bits32}
use Rattle.bpf_insn.specs.declared.operand.AluOp.TheVariants.{Add, And}
use Rattle.bpf_insn.specs.declared.operand.Condition.TheVariants.{Ge}
use Rattle.bpf_insn.specs.declared.operand.Distance.TheVariants.{Short}
use Rattle.bpf_insn.specs.declared.operand.LoadKind.{LoadKind}
use Rattle.bpf_insn.specs.declared.operand.LoadKind.TheVariants.{Byte, Half, Double}
use Rattle.bpf_insn.specs.declared.operand.Operand.TheVariants.{Imm, Register}
use Rattle.bpf_insn.specs.declared.operand.Size.{Size}
use Rattle.bpf_insn.specs.declared.operand.Size.TheVariants as size
use Rattle.bpf_insn.specs.declared.insn.Insn.{Insn}
use Rattle.bpf_insn.specs.declared.insn.Insn.TheVariants.{Alu, Mov, Jump, JumpIf, Exit, Load, Store}
use Rattle.bench.specs.declared.pattern.Pattern.{Pattern}
use Rattle.bench.specs.declared.pattern.Pattern.TheVariants.{Straight, Straight32, OneTarget}
use Rattle.bench.specs.declared.pattern.Pattern.TheVariants.{Diamonds, FullStack, Loads, Stores}

-- ---- the instructions that are used

abbrev pub mov : Reg → ℕ → Insn
mov dst imm = Mov Bits64 dst (Imm (pos imm))

abbrev pub and : Bits → Reg → ℕ → Insn
and bits dst imm = Alu bits And dst (Imm (pos imm))

abbrev pub add : Bits → Reg → Reg → Insn
add bits dst src = Alu bits Add dst (Register src)

-- a load of the context, to whose first byte R1 points
abbrev pub load : LoadKind → Reg → ℕ → Insn
load kind dst place = Load kind dst R1 (pos place)

-- the offset of a slot of the stack from the top; the highest is slot 0
abbrev pub slot_offset : ℕ → ℤ
slot_offset slot = pos 0 -ℤ pos (8 * slot + 8)

abbrev pub store : Size → ℕ → Reg → Insn
store size slot src = Store size R10 src (slot_offset slot)

abbrev pub load_slot : Reg → ℕ → Insn
load_slot dst slot = Load Double dst R10 (slot_offset slot)

-- over `slots` slots, from this bucket on
abbrev pub jump_from : ℕ → ℕ → Insn
jump_from imm slots = JumpIf Bits64 Ge R2 (Imm (pos imm)) (pos slots)

abbrev pub skip : Insn
skip = Jump (Short (pos 1))

-- ---- the blocks

-- R2 is the bucket, and R0 is 0
abbrev pub opening : List Insn
opening = load Half R2 bucket_offset ∷ mov R0 0 ∷ []

-- the choice is the low six bits of R0
abbrev pub closing : List Insn
closing = and Bits64 R0 63 ∷ Exit ∷ []

abbrev pub straight_block : Bits → List Insn
straight_block bits =
    add bits R0 R2 ∷ and bits R2 0x7fff ∷ add bits R2 R0 ∷ and bits R0 0xffff ∷ []

-- block k of count: no bucket is as high as these numbers, and each jump leads to the first of the
-- closing instructions
abbrev pub one_target_block : ℕ → ℕ → List Insn
one_target_block count k =
    jump_from (0xffff - 4 * k) (4 * (count - k) - 1)
    ∷ jump_from (0xffff - 4 * k - 1) (4 * (count - k) - 2)
    ∷ jump_from (0xffff - 4 * k - 2) (4 * (count - k) - 3)
    ∷ jump_from (0xffff - 4 * k - 3) (4 * (count - k) - 4)
    ∷ []

-- a branch, a side of two instructions, and a side of one
abbrev pub diamond : ℕ → List Insn
diamond k =
    jump_from (1000 * (k % 10 + 1)) 2 ∷ add Bits64 R0 R2 ∷ skip ∷ and Bits64 R0 0x7fff ∷ []

-- stores the bucket to four slots of the stack
abbrev pub filling : ℕ → List Insn
filling k =
    store size.Double (4 * k) R2
    ∷ store size.Double (4 * k + 1) R2
    ∷ store size.Double (4 * k + 2) R2
    ∷ store size.Double (4 * k + 3) R2
    ∷ []

-- the first 16 blocks fill the stack
abbrev pub full_stack_block : ℕ → List Insn
full_stack_block k = if nat_lt k 16 then filling k else diamond k

abbrev pub load_block : ℕ → List Insn
load_block k =
    load Byte R3 (k % 32)
    ∷ load Half R4 (k % 16 * 2)
    ∷ load Double R5 (k % 5 * 8)
    ∷ add Bits64 R0 R5
    ∷ []

-- a store to a whole slot, a load of that slot, and a store to its low half
abbrev pub store_block : ℕ → List Insn
store_block k =
    store size.Double (k % 64) R2
    ∷ load_slot R3 (k % 64)
    ∷ store size.Word (k % 64) R0
    ∷ add Bits64 R0 R3
    ∷ []

abbrev pub block : Pattern → ℕ → ℕ → List Insn
block Straight count k = straight_block Bits64
block Straight32 count k = straight_block Bits32
block OneTarget count k = one_target_block count k
block Diamonds count k = diamond k
block FullStack count k = full_stack_block k
block Loads count k = load_block k
block Stores count k = store_block k

-- ---- the programs

-- the first n of count blocks
abbrev pub blocks : Pattern → ℕ → ℕ → List Insn
blocks pattern count zero = []
blocks pattern count (suc n) = blocks pattern count n ++ block pattern count n

-- the program of count blocks
abbrev pub program : Pattern → ℕ → List Insn
program pattern count = opening ++ blocks pattern count count ++ closing
