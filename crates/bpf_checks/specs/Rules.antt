-- The rules: each is a test of an instruction, the abstract state before it, and the shape.
use Rattle.std.specs.Prelude.{◌+◌, ◌∷◌, Option, Some, None, is_none, Bool, true, false}
use Rattle.std.specs.Prelude.{◌&&◌, ◌||◌, not, nat_le, ◌==◌, if◌then◌else◌}
use Rattle.std.specs.List.{list_any}
use Rattle.bpf_insn.specs.declared.operand.AluOp.{AluOp}
use Rattle.bpf_insn.specs.declared.operand.AluOp.TheVariants.{Add, Sub}
use Rattle.bpf_insn.specs.declared.operand.AtomicOp.TheVariants.{FetchAdd}
use Rattle.bpf_insn.specs.declared.operand.Bits.{Bits}
use Rattle.bpf_insn.specs.declared.operand.Bits.TheVariants.{Bits64}
use Rattle.bpf_insn.specs.declared.reg.Reg.{Reg}
use Rattle.bpf_insn.specs.declared.reg.Reg.TheVariants.{R0, R1, R2, R3}
use Rattle.bpf_insn.specs.declared.insn.Insn.{Insn}
use Rattle.bpf_insn.specs.declared.insn.Insn.TheVariants.{Alu, Mov, MovSx, Neg, End, JumpIf}
use Rattle.bpf_insn.specs.declared.insn.Insn.TheVariants.{Call, Exit, Load, Store}
use Rattle.bpf_insn.specs.declared.insn.Insn.TheVariants.{Atomic, Wide}
use Rattle.bpf_insn.specs.Table.{number_of}
use Rattle.bpf_semantics.specs.declared.helpers.Prototype.{Prototype}
use Rattle.bpf_semantics.specs.declared.helpers.Prototype.TheVariants.{OfMap, OfText, OfNumber}
use Rattle.bpf_semantics.specs.Helpers.{called_prototype}
use Rattle.bpf_semantics.specs.Memory.{stack_size}
use Rattle.bpf_semantics.specs.Reads.{byte_count, load_count}
use Rattle.cells.specs.Arrays.{AppShape}
use Rattle.abs_value.specs.declared.value.Abs.{Abs}
use Rattle.abs_value.specs.declared.value.Abs.TheVariants.{Num, Ctx, Stk, Map, MayCell, Cell}
use Rattle.abs_value.specs.declared.state.AbsState.{AbsState}
use Rattle.abs_value.specs.Numbers.{is_single, least, is_only, is_at_most}
use Rattle.abs_value.specs.Values.{is_unusable, is_pointer, is_number, pointer_result}
use Rattle.abs_value.specs.States.{value_of, operand_value}
use Rattle.abs_value.specs.Lookups.{compares_with_zero}
use Rattle.bpf_checks.specs.declared.refusal.VerifierRule.{VerifierRule}
use Rattle.bpf_checks.specs.declared.refusal.VerifierRule.TheVariants as rule
use Rattle.bpf_checks.specs.Reads.{reads, writes, compared_register}
use Rattle.bpf_checks.specs.Arrays.{wide_abs}
use Rattle.bpf_checks.specs.Memory.{accesses, is_outside, changes_context, is_no_address}
use Rattle.bpf_checks.specs.Memory.{exchanges_stack, reaches_quota, stack_place, is_slot}
use Rattle.bpf_checks.specs.Memory.{meets_unset, text_unset}

-- ---- V1: a register or byte that is read may be unset

abbrev pub compares_unset : AbsState → Option Prototype → Bool
compares_unset e (Some OfText) = text_unset e (value_of e R2) (value_of e R3)
compares_unset e helper = false

-- a byte of the stack that is loaded, or that is in a compared text
abbrev pub reads_unset : AbsState → Insn → Bool
reads_unset e (Load kind dst src offset) = meets_unset e (value_of e src) offset (load_count kind)
reads_unset e (Call helper) = compares_unset e (called_prototype helper)
reads_unset e i = false

abbrev pub reads_unusable : AbsState → Insn → Bool
reads_unusable e i = list_any (λ r. is_unusable (value_of e r)) (reads i) || reads_unset e i

-- ---- V2: R10 is written

abbrev pub is_frame : Option Reg → Bool
is_frame None = false
is_frame (Some r) = number_of r == 10

abbrev pub writes_frame : Insn → Bool
writes_frame i = is_frame (writes i)

-- ---- V3, V4: arithmetic with a pointer

abbrev pub reads_pointer : AbsState → Insn → Bool
reads_pointer e i = list_any (λ r. is_pointer (value_of e r)) (reads i)

abbrev pub is_arithmetic : Insn → Bool
is_arithmetic (Alu bits op dst src) = true
is_arithmetic (Mov bits dst src) = true
is_arithmetic (MovSx extension dst src) = true
is_arithmetic (Neg bits dst) = true
is_arithmetic (End order size dst) = true
is_arithmetic i = false

-- an address in the context or the stack
abbrev pub has_place : Abs → Bool
has_place (Ctx from) = true
has_place (Stk place) = true
has_place v = false

-- a 64-bit ADD or SUB of a number to such an address
abbrev pub moves_address : Bits → AluOp → Abs → Abs → Bool
moves_address Bits64 Add a b = has_place a && is_number b
moves_address Bits64 Sub a b = has_place a && is_number b
moves_address bits op a b = false

-- the allowed arithmetic with a pointer
abbrev pub keeps_address : AbsState → Insn → Bool
keeps_address e (Alu bits op dst src) =
    moves_address bits op (value_of e dst) (operand_value e bits src)
keeps_address e (Mov Bits64 dst src) = true
keeps_address e i = false

abbrev pub computes_pointer : AbsState → Insn → Bool
computes_pointer e i = is_arithmetic i && reads_pointer e i && not (keeps_address e i)

-- the address may leave its region
abbrev pub moves_outside : AbsState → Insn → Bool
moves_outside e (Alu bits op dst src) =
    moves_address bits op (value_of e dst) (operand_value e bits src)
    && is_none (pointer_result bits op (value_of e dst) (operand_value e bits src))
moves_outside e i = false

-- ---- V5: a pointer is compared

-- the result of a lookup, or the address of a cell
abbrev pub may_be_null : Abs → Bool
may_be_null (MayCell call) = true
may_be_null (Cell origin) = true
may_be_null v = false

abbrev pub compares_pointer : AbsState → Insn → Bool
compares_pointer e (JumpIf bits condition left right offset) =
    reads_pointer e (JumpIf bits condition left right offset)
    && not (compares_with_zero bits condition right && may_be_null (value_of e left))
compares_pointer e i = false

abbrev pub is_lookup : Abs → Bool
is_lookup (MayCell call) = true
is_lookup v = false

-- a jump that compares a lookup's result with 0
abbrev pub is_lookup_check : AbsState → Insn → Bool
is_lookup_check e (JumpIf bits condition left right offset) =
    compares_with_zero bits condition right && is_lookup (value_of e left)
is_lookup_check e i = false

-- ---- V6, V8, V9, V12: an access that its address doesn't allow

abbrev pub accesses_outside : AppShape → AbsState → Insn → Bool
accesses_outside shape e i = accesses (is_outside shape) e i

abbrev pub writes_context : AbsState → Insn → Bool
writes_context e i = accesses changes_context e i

abbrev pub has_no_address : AbsState → Insn → Bool
has_no_address e i = accesses is_no_address e i

abbrev pub exchanges_in_stack : AbsState → Insn → Bool
exchanges_in_stack e i = accesses exchanges_stack e i

-- ---- V7: a pointer is stored

-- except to a whole slot of the stack
abbrev pub stores_pointer : AbsState → Insn → Bool
stores_pointer e (Store size dst src offset) =
    is_pointer (value_of e src)
    && not (is_slot (stack_place (value_of e dst) offset (byte_count size)) (byte_count size))
stores_pointer e (Atomic op size dst src offset) =
    list_any (λ r. is_pointer (value_of e r)) (src ∷ compared_register op)
stores_pointer e i = false

-- ---- V10: a helper that doesn't exist, or arguments that it doesn't accept

abbrev pub is_map : Abs → Bool
is_map (Map index) = true
is_map v = false

-- a text in the stack: its address, and a single length of at most 64
abbrev pub is_stack_text : Abs → Abs → Bool
is_stack_text (Stk place) (Num n) =
    is_single n && nat_le (least n) 64 && nat_le (place + least n) stack_size
is_stack_text address length = false

abbrev pub takes : AbsState → Option Prototype → Bool
takes e None = false
takes e (Some OfMap) = is_map (value_of e R1) && is_number (value_of e R2)
takes e (Some OfText) = is_number (value_of e R1) && is_stack_text (value_of e R2) (value_of e R3)
takes e (Some (OfNumber most)) = is_number (value_of e R1)

abbrev pub misuses_helper : AbsState → Insn → Bool
misuses_helper e (Call helper) = not (takes e (called_prototype helper))
misuses_helper e i = false

-- ---- V11: an array or a cell that the shape doesn't have

abbrev pub names_no_array : AppShape → Insn → Bool
names_no_array shape (Wide dst value) = is_none (wide_abs shape value)
names_no_array shape i = false

-- ---- V13: the run may end with a number above the releases, or R0 isn't a number

abbrev pub is_choice : AppShape → Abs → Bool
is_choice shape (Num n) = is_at_most n shape.releases
is_choice shape v = false

abbrev pub wrong_result : AppShape → AbsState → Insn → Bool
wrong_result shape e Exit = not (is_choice shape (value_of e R0))
wrong_result shape e i = false

-- ---- V14: a cell with a quota is accessed, except by a load or a fetch-add of 1

abbrev pub is_one : Abs → Bool
is_one (Num n) = is_only n 1
is_one v = false

abbrev pub leaves_quota : AbsState → Insn → Bool
leaves_quota e (Load kind dst src offset) = true
leaves_quota e (Atomic FetchAdd size dst src offset) = is_one (value_of e src)
leaves_quota e i = false

abbrev pub breaks_quota : AppShape → AbsState → Insn → Bool
breaks_quota shape e i = accesses (reaches_quota shape) e i && not (leaves_quota e i)

-- ---- the first rule that an instruction breaks

-- the rule of V1 to V14 with the lowest number, each tested by its own definition
unfoldable pub first_rule : AppShape → AbsState → Insn → Option VerifierRule
first_rule shape e i =
    if reads_unusable e i then Some rule.Unusable
    else if writes_frame i then Some rule.WritesFrame
    else if computes_pointer e i then Some rule.PointerArithmetic
    else if moves_outside e i then Some rule.OffsetRange
    else if compares_pointer e i then Some rule.PointerCompare
    else if accesses_outside shape e i then Some rule.Access
    else if stores_pointer e i then Some rule.StoresPointer
    else if writes_context e i then Some rule.WritesContext
    else if has_no_address e i then Some rule.NotAddress
    else if misuses_helper e i then Some rule.Helper
    else if names_no_array shape i then Some rule.MapIndex
    else if exchanges_in_stack e i then Some rule.Kind
    else if wrong_result shape e i then Some rule.Result
    else if breaks_quota shape e i then Some rule.QuotaCell
    else None
