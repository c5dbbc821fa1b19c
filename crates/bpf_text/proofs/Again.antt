-- The arguments in a listing's line are read back as they were written.
use Rattle.std.proofs.Common.{◌≡◌, ℕ, suc, ◌<◌, ◌^◌, ℤ, pos, negsuc, FitsSigned, w16, w32, Option}
use Rattle.std.proofs.Common.{Some, None, true, nat_lt, nat_le, if◌then◌else◌, refl, ap, arith}
use Rattle.std.proofs.lemmas.Int.{to_z_pos}
use Rattle.std.specs.Int.{cast_signed}
use Rattle.bpf_insn.specs.declared.operand.Operand as operands
use Rattle.bpf_insn.specs.declared.operand.Operand.TheVariants as operand
use Rattle.bpf_insn.specs.declared.operand.Distance.TheVariants.{Short, Long}
use Rattle.bpf_insn.specs.declared.operand.WideValue.TheVariants as wide
use Rattle.bpf_insn.specs.declared.insn.Insn.{Insn}
use Rattle.bpf_insn.specs.declared.insn.Insn.TheVariants as insn
use Rattle.bpf_insn.specs.Spelling.{IsEncodable, imm_field}
use Rattle.bpf_text.specs.declared.argument.Argument as arguments
use Rattle.bpf_text.specs.declared.argument.Argument.TheVariants as argument
use Rattle.bpf_text.specs.declared.signature.OperandKind.{OperandKind}
use Rattle.bpf_text.specs.declared.signature.OperandKind.TheVariants as kind
use Rattle.bpf_text.specs.declared.three.UpToThree.{UpToThree}
use Rattle.bpf_text.specs.Arguments.{mnemonic_of, arguments_of, operand_argument}
use Rattle.bpf_text.specs.Ranges.{imm_of, short_of, long_of}
use Rattle.bpf_text.specs.Signatures.{kinds_of}
use Rattle.bpf_text.proofs.Arguments.{IsShort, HasShort, imm_figure, signed_figure}

-- ---- numbers in their fields

absent_imm : (n : ℕ) → n < 2 ^ 31
    → (if nat_lt n (2 ^ 32) then Some (cast_signed w32 n) else None) ≡ Some (pos n)
absent_imm n h =
    let test : nat_lt n (2 ^ 32) ≡ true = grind arith in
    simp test (ap Some (to_z_pos w32 n h))

minus_number : (k n : ℕ) → n < 2 ^ k
    → (if nat_le (suc n) (2 ^ k) then Some (negsuc n) else None) ≡ Some (negsuc n)
minus_number k n h =
    let test : nat_le (suc n) (2 ^ k) ≡ true = grind arith in
    simp test refl

plus_number : (k n : ℕ) → n < 2 ^ k
    → (if nat_lt n (2 ^ k) then Some (pos n) else None) ≡ Some (pos n)
plus_number k n h =
    let test : nat_lt n (2 ^ k) ≡ true = grind arith in
    simp test refl

pub imm_again : (k : ℤ) → FitsSigned w32 k → imm_of (imm_figure k) ≡ Some k
imm_again (pos n) h = absent_imm n h.sfits
imm_again (negsuc n) h = minus_number 31 n h.sfits

pub short_again : (k : ℤ) → FitsSigned w16 k → short_of (signed_figure k) ≡ Some k
short_again (pos n) h = plus_number 15 n h.sfits
short_again (negsuc n) h = minus_number 15 n h.sfits

pub long_again : (k : ℤ) → FitsSigned w32 k → long_of (signed_figure k) ≡ Some k
long_again (pos n) h = plus_number 31 n h.sfits
long_again (negsuc n) h = minus_number 31 n h.sfits

-- ---- arguments of the kinds that their instruction requires

-- an argument of this kind, whose numbers fit their fields
abbrev pub Fits : OperandKind → arguments.Argument → Type 0
Fits kind.Register (argument.Register r) = Unit {0}
Fits kind.Source (argument.Register r) = Unit {0}
Fits kind.Source (argument.Imm k) = FitsSigned w32 k
Fits kind.Imm (argument.Imm k) = FitsSigned w32 k
Fits kind.Number (argument.Number n) = n < 2 ^ 64
Fits kind.Memory (argument.Memory r k) = FitsSigned w16 k
Fits kind.ShortWay (argument.Distance (Short k)) = FitsSigned w16 k
Fits kind.LongWay (argument.Distance (Long k)) = FitsSigned w32 k
Fits k a = ⊥

abbrev pub FitsIf : Option OperandKind → Option arguments.Argument → Type 0
FitsIf None None = Unit {0}
FitsIf (Some k) (Some a) = Fits k a
FitsIf k a = ⊥

pub record AllFit (k : UpToThree OperandKind) (a : UpToThree arguments.Argument) : Type 0 where
  pub first : FitsIf k.first a.first
  pub second : FitsIf k.second a.second
  pub third : FitsIf k.third a.third

operand_fits : (o : operands.Operand) → FitsSigned w32 (imm_field o)
    → Fits kind.Source (operand_argument o)
operand_fits (operand.Imm k) h = h
operand_fits (operand.Register r) h = tt

pub all_fit : (i : Insn) → IsEncodable i → AllFit (kinds_of (mnemonic_of i)) (arguments_of i)
all_fit (insn.Alu bits op dst s) p =
    record { first = tt; second = operand_fits s p.first.imm; third = tt }
all_fit (insn.Mov bits dst s) p =
    record { first = tt; second = operand_fits s p.first.imm; third = tt }
all_fit (insn.Jump (Short k)) p = record { first = p.first.offset; second = tt; third = tt }
all_fit (insn.Jump (Long k)) p = record { first = p.first.imm; second = tt; third = tt }
all_fit (insn.JumpIf bits condition left right k) p =
    record { first = tt; second = operand_fits right p.first.imm; third = p.first.offset }
all_fit (insn.Call helper) p = record { first = p.first.imm; second = tt; third = tt }
all_fit (insn.Load kind dst s k) p = record { first = tt; second = p.first.offset; third = tt }
all_fit (insn.StoreImm size dst k value) p =
    record { first = p.first.offset; second = p.first.imm; third = tt }
all_fit (insn.Store size dst s k) p = record { first = p.first.offset; second = tt; third = tt }
all_fit (insn.Atomic op size dst s k) p = record { first = p.first.offset; second = tt; third = tt }
all_fit (insn.Wide dst (wide.Number n)) p = record { first = tt; second = p.number; third = tt }
all_fit (insn.Wide dst (wide.Map i)) p = record { first = tt; second = p.first.imm; third = tt }
all_fit (insn.Wide dst (wide.Cell i k)) p =
    record { first = tt; second = p.first.imm; third = p.second.imm }
all_fit i p = record { first = tt; second = tt; third = tt }

-- ---- the numbers are short

short_31 : (k : ℤ) → FitsSigned w32 k → IsShort k
short_31 (pos n) h = let e : n < 2 ^ 31 = h.sfits in omega (arith, e)
short_31 (negsuc n) h = let e : n < 2 ^ 31 = h.sfits in omega (arith, e)

short_15 : (k : ℤ) → FitsSigned w16 k → IsShort k
short_15 (pos n) h = let e : n < 2 ^ 15 = h.sfits in omega (arith, e)
short_15 (negsuc n) h = let e : n < 2 ^ 15 = h.sfits in omega (arith, e)

is_short : (k : OperandKind) (a : arguments.Argument) → Fits k a → HasShort a
is_short kind.Register (argument.Register r) h = tt
is_short kind.Source (argument.Register r) h = tt
is_short kind.Source (argument.Imm k) h = short_31 k h
is_short kind.Imm (argument.Imm k) h = short_31 k h
is_short kind.Number (argument.Number n) h = h
is_short kind.Memory (argument.Memory r k) h = short_15 k h
is_short kind.ShortWay (argument.Distance (Short k)) h = short_15 k h
is_short kind.LongWay (argument.Distance (Long k)) h = short_31 k h
is_short k a h = absurd h

abbrev pub HasShortOption : Option arguments.Argument → Type 0
HasShortOption None = Unit {0}
HasShortOption (Some a) = HasShort a

pub is_short_if : (k : Option OperandKind) (a : Option arguments.Argument) → FitsIf k a
    → HasShortOption a
is_short_if None None h = tt
is_short_if (Some k) (Some a) h = is_short k a h
is_short_if k a h = absurd h
