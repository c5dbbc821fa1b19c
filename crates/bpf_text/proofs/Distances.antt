-- Distances that fit their fields, and the signs of numbers that are read.
use Rattle.std.proofs.Common.{◌≡◌, ℕ, ◌<◌, ◌^◌, ℤ, pos, negsuc, FitsSigned, w16, w32}
use Rattle.std.proofs.Common.{Option, Some, None, true, false, refl, arith}
use Rattle.bpf_insn.specs.declared.insn.Insn.{Insn}
use Rattle.bpf_insn.specs.declared.insn.Insn.TheVariants as insn
use Rattle.bpf_insn.specs.declared.operand.Distance.TheVariants.{Short, Long}
use Rattle.bpf_insn.specs.declared.operand.Operand.TheVariants as operand
use Rattle.bpf_insn.specs.declared.operand.WideValue.TheVariants as wide
use Rattle.bpf_insn.specs.Program.{◌>>=◌}
use Rattle.bpf_insn.specs.Spelling.{IsEncodable}
use Rattle.bpf_text.specs.declared.argument.Argument.{Argument}
use Rattle.bpf_text.specs.declared.argument.Argument.TheVariants as argument
use Rattle.bpf_text.specs.declared.token.Sign.{Sign}
use Rattle.bpf_text.specs.declared.token.Sign.TheVariants.{Absent, Plus}
use Rattle.bpf_text.specs.Arguments.{arguments_of}
use Rattle.bpf_text.specs.Assembly.{in_field}
use Rattle.bpf_text.specs.Operands.{has_plus, has_sign}
use Rattle.bpf_text.specs.Ranges.{imm_from, wide_from, signed_from}
use Rattle.bpf_text.proofs.Successes.{none_some}

-- ---- signs

pub imm_plain : (s : Sign) (m : Option ℕ) (k : ℤ) → (m >>= imm_from s) ≡ Some k
    → has_plus s ≡ false
imm_plain Plus None k h = absurd (none_some h)
imm_plain Plus (Some n) k h = absurd (none_some h)
imm_plain s m k h = refl

pub wide_plain : (s : Sign) (m : Option ℕ) (k : ℕ) → (m >>= wide_from s) ≡ Some k
    → has_plus s ≡ false
wide_plain Plus None k h = absurd (none_some h)
wide_plain Plus (Some n) k h = absurd (none_some h)
wide_plain s m k h = refl

pub signed : (bits : ℕ) (s : Sign) (m : Option ℕ) (k : ℤ) → (m >>= signed_from bits s) ≡ Some k
    → has_sign s ≡ true
signed bits Absent None k h = absurd (none_some h)
signed bits Absent (Some n) k h = absurd (none_some h)
signed bits s m k h = refl

-- ---- distances

pub fits_15 : (k : ℤ) → FitsSigned w16 k → in_field 15 k ≡ true
fits_15 (pos n) h = let e : n < 2 ^ 15 = h.sfits in grind arith
fits_15 (negsuc n) h = let e : n < 2 ^ 15 = h.sfits in grind arith

pub fits_31 : (k : ℤ) → FitsSigned w32 k → in_field 31 k ≡ true
fits_31 (pos n) h = let e : n < 2 ^ 31 = h.sfits in grind arith
fits_31 (negsuc n) h = let e : n < 2 ^ 31 = h.sfits in grind arith

abbrev pub DistanceFits : Option Argument → Type 0
DistanceFits (Some (argument.Distance (Short k))) = FitsSigned w16 k
DistanceFits (Some (argument.Distance (Long k))) = FitsSigned w32 k
DistanceFits a = Unit {0}

pub distances_fit : (i : Insn) → IsEncodable i → DistanceFits ((arguments_of i).first)
    × DistanceFits ((arguments_of i).second) × DistanceFits ((arguments_of i).third)
distances_fit (insn.Alu bits op dst (operand.Imm k)) p = (tt, tt, tt)
distances_fit (insn.Mov bits dst (operand.Imm k)) p = (tt, tt, tt)
distances_fit (insn.Jump (Short k)) p = (p.first.offset, tt, tt)
distances_fit (insn.Jump (Long k)) p = (p.first.imm, tt, tt)
distances_fit (insn.JumpIf bits condition left (operand.Imm r) k) p = (tt, tt, p.first.offset)
distances_fit (insn.JumpIf bits condition left (operand.Register r) k) p = (tt, tt, p.first.offset)
distances_fit (insn.Wide dst (wide.Number n)) p = (tt, tt, tt)
distances_fit i p = (tt, tt, tt)
