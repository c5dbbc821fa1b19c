-- Instructions that are neither jumps nor EXIT, and when two instructions are the same.
use Rattle.std.proofs.Common.{◌≡◌, ℕ, ℤ, Result, Ok, Err, ap}
use Rattle.bpf_insn.specs.declared.operand.Bits.{Bits}
use Rattle.bpf_insn.specs.declared.operand.Condition.{Condition}
use Rattle.bpf_insn.specs.declared.operand.Operand.{Operand}
use Rattle.bpf_insn.specs.declared.reg.Reg.{Reg}
use Rattle.bpf_insn.specs.declared.fields.InsnFault.{InsnFault}
use Rattle.bpf_insn.specs.declared.insn.Width.{Width}
use Rattle.bpf_insn.specs.declared.insn.Insn.{Insn}
use Rattle.bpf_insn.specs.declared.insn.Insn.TheVariants.{Jump, JumpIf, Exit}
use Rattle.bpf_insn.specs.Program.{Program}
use Rattle.bpf_insn.specs.Spelling.{width_of}
use Rattle.block_order.specs.Order.{Places, IsKeptAs, IsSameJump, IsStraight, IsStraightKept}

pub kept_straight : (places : Places) (q : Program) (s t : ℕ) (i : Insn) → IsStraight i
    → IsStraightKept places q s t i → IsKeptAs places q s t i
kept_straight places q s t (Jump d) straight kept = absurd straight
kept_straight places q s t (JumpIf bits condition left right k) straight kept = absurd straight
kept_straight places q s t Exit straight kept = absurd straight
kept_straight places q s t i straight kept = kept

pub same_jump : (i j : Insn) (bits : Bits) (condition : Condition) (left : Reg) (right : Operand)
    (k m : ℤ) → i ≡ JumpIf bits condition left right k → j ≡ JumpIf bits condition left right m
    → IsSameJump i j
same_jump i j bits condition left right k m is same = rw is (m, same)

-- ---- the decoder's result

abbrev Answer : Type 0
Answer = Result (Insn × Width) InsnFault

abbrev answered : Insn → Answer
answered i = Ok (i, width_of i)

insn_or : Answer → Insn → Insn
insn_or (Ok d) i = d.0
insn_or (Err e) i = i

pub same_insn : (i j : Insn) → answered i ≡ answered j → i ≡ j
unfolding insn_or
same_insn i j e = ap (λ (x : Answer). insn_or x i) e
