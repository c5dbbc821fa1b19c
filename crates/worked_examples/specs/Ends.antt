-- An operation on a number and each end of a class: 0, 1, the highest signed number, the lowest and
-- -1.
use Rattle.std.specs.Prelude.{ℕ, ℤ, pos, negsuc, List, [], ◌∷◌, map}
use Rattle.bpf_insn.specs.declared.operand.AluOp.{AluOp}
use Rattle.bpf_insn.specs.declared.operand.Bits.{Bits}
use Rattle.bpf_insn.specs.declared.operand.Bits.TheVariants.{Bits64, Bits32}
use Rattle.bpf_insn.specs.Arithmetic.{alu_result}
use Rattle.bpf_insn.specs.Words.{immediate}

abbrev pub ends : Bits → List ℕ
ends Bits64 = 0 ∷ 1 ∷ 0x7FFFFFFFFFFFFFFF ∷ 0x8000000000000000 ∷ 0xFFFFFFFFFFFFFFFF ∷ []
ends Bits32 = 0 ∷ 1 ∷ 0x7FFFFFFF ∷ 0x80000000 ∷ 0xFFFFFFFF ∷ []

-- the ends of an imm
abbrev pub imm_ends : List ℤ
imm_ends = pos 0 ∷ pos 1 ∷ pos 2147483647 ∷ negsuc 2147483647 ∷ negsuc 0 ∷ []

-- with each end in a register
abbrev pub by_each : Bits → AluOp → ℕ → List ℕ
by_each bits op x = map (λ y. alu_result bits op x y) (ends bits)

-- with each end as an imm
abbrev pub by_imms : Bits → AluOp → ℕ → List ℕ
by_imms bits op x = map (λ k. alu_result bits op x (immediate bits k)) imm_ends
