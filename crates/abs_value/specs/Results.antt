-- Arithmetic with abstract numbers (RFC 9669, "Arithmetic Instructions" and "Byte Swap
-- Instructions"). For single numbers it is the machine's own result.
use Rattle.std.specs.Prelude.{◌-◌, ◌^◌, ◌&&◌, nat_lt, if◌then◌else◌}
use mir.Val.{bits}
use Rattle.bpf_insn.specs.declared.operand.AluOp.{AluOp}
use Rattle.bpf_insn.specs.declared.operand.AluOp.TheVariants.{Or, And, Xor, Lsh, Rsh, Arsh}
use Rattle.bpf_insn.specs.declared.operand.Bits.{Bits}
use Rattle.bpf_insn.specs.declared.operand.ByteOrder.{ByteOrder}
use Rattle.bpf_insn.specs.declared.operand.EndSize.{EndSize}
use Rattle.bpf_insn.specs.declared.operand.Extension.{Extension}
use Rattle.bpf_insn.specs.Table.{extension_class}
use Rattle.bpf_insn.specs.Arithmetic.{alu_result, extended, end_width, reordered}
use Rattle.abs_value.specs.declared.known_bits.KnownBits.{KnownBits}
use Rattle.abs_value.specs.declared.number.Number.{Number}
use Rattle.abs_value.specs.Intervals.{cut_interval}
use Rattle.abs_value.specs.Bounds.{sign_bit, count_of, bounds}
use Rattle.abs_value.specs.Known.{any_of, and_bits, or_bits, xor_bits, left_bits, right_bits}
use Rattle.abs_value.specs.Known.{cut_bits}
use Rattle.abs_value.specs.Numbers.{single, is_single, are_single, least, most, up_to, full, cut}
use Rattle.abs_value.specs.Numbers.{tidied}

-- the known bits of a result, for operands of the class
abbrev pub known_bits : Bits → AluOp → Number → Number → KnownBits
known_bits w Or a b = or_bits a.bits b.bits
known_bits w And a b = and_bits a.bits b.bits
known_bits w Xor a b = xor_bits a.bits b.bits
known_bits w Lsh a b =
    if is_single b then cut_bits w (left_bits a.bits (count_of w b.range)) else any_of w
known_bits w Rsh a b =
    if is_single b then right_bits a.bits (count_of w b.range) else any_of w
-- a number below the sign bit is shifted as RSH does
known_bits w Arsh a b =
    if is_single b && nat_lt (most a) (sign_bit w)
    then right_bits a.bits (count_of w b.range) else any_of w
known_bits w op a b = any_of w

-- the formulas, for operands of the class
abbrev pub result : Bits → AluOp → Number → Number → Number
result w op a b = tidied (bounds w op a.range b.range) (known_bits w op a b)

-- for two single numbers what the machine computes, otherwise the formulas on the truncated
-- operands
abbrev pub alu_number : Bits → AluOp → Number → Number → Number
alu_number w op a b =
    if are_single a b then single (alu_result w op (least a) (least b))
    else result w op (cut w a) (cut w b)

-- MOV
abbrev pub copied_number : Bits → Number → Number
copied_number w a = tidied (cut_interval w a.range) (cut_bits w a.bits)

-- MOVSX
abbrev pub extended_number : Extension → Number → Number
extended_number e a =
    if is_single a then single (extended e (least a)) else full (extension_class e)

-- END: any number of its size
abbrev pub reordered_number : ByteOrder → EndSize → Number → Number
reordered_number order size a =
    if is_single a then single (reordered order size (least a))
    else up_to (2 ^ bits (end_width size) - 1)
