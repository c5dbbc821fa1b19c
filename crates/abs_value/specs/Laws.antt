-- Laws about the definitions: abstract operations cover the machine's operations.
use Rattle.std.specs.Prelude.{◌≡◌, ℕ, ◌+◌, ◌^◌, ◌<◌, ◌≤◌, ℤ, pos, Option, Some, None, Bool, true}
use Rattle.std.specs.Prelude.{false, not, ◌==◌, IsSome}
use Rattle.attrs.specs.Attributes.{Attributes}
use Rattle.bpf_insn.specs.declared.operand.AluOp.{AluOp}
use Rattle.bpf_insn.specs.declared.operand.Bits.{Bits}
use Rattle.bpf_insn.specs.declared.operand.ByteOrder.{ByteOrder}
use Rattle.bpf_insn.specs.declared.operand.Condition.{Condition}
use Rattle.bpf_insn.specs.declared.operand.EndSize.{EndSize}
use Rattle.bpf_insn.specs.declared.operand.Extension.{Extension}
use Rattle.bpf_insn.specs.declared.operand.LoadKind.{LoadKind}
use Rattle.bpf_insn.specs.declared.operand.Operand.{Operand}
use Rattle.bpf_insn.specs.declared.operand.Size.{Size}
use Rattle.bpf_insn.specs.declared.reg.Reg.{Reg}
use Rattle.bpf_insn.specs.Arithmetic.{alu_result, negated, extended, reordered}
use Rattle.bpf_insn.specs.Words.{word}
use Rattle.bpf_insn.specs.Conditions.{holds}
use Rattle.bpf_insn.specs.Table.{number_of}
use Rattle.bpf_semantics.specs.Memory.{stack_start, stack_size, set_bytes}
use Rattle.bpf_semantics.specs.State.{State, HasWords, opening, read_at, written_at, with_register}
use Rattle.bpf_semantics.specs.State.{with_result}
use Rattle.bpf_semantics.specs.Calls.{helper_result}
use Rattle.bpf_semantics.specs.Reads.{register, operand, byte_count, load_count, filled}
use Rattle.abs_value.specs.declared.interval.Interval.{Interval}
use Rattle.abs_value.specs.declared.known_bits.KnownBits.{KnownBits}
use Rattle.abs_value.specs.declared.number.Number.{Number}
use Rattle.abs_value.specs.declared.value.Abs.{Abs}
use Rattle.abs_value.specs.declared.state.AbsState.{AbsState}
use Rattle.abs_value.specs.Numbers.{single, up_to, is_empty}
use Rattle.abs_value.specs.Narrowing.{is_taken}
use Rattle.abs_value.specs.Values.{is_unusable, alu_value, copied_value, negated_value}
use Rattle.abs_value.specs.Values.{extended_value, reordered_value, loaded_value, refined}
use Rattle.abs_value.specs.Stack.{has_unset, loaded_from}
use Rattle.abs_value.specs.States.{opening_state, value_at, join_states, operand_value, with_value}
use Rattle.abs_value.specs.States.{with_operand, with_stored}
use Rattle.abs_value.specs.Lookups.{state_with_answer, refined_state, called}
use Rattle.abs_value.specs.Covers.{Returns, AreBefore, answering, IsWord, FitsImm, IsBetween}
use Rattle.abs_value.specs.Covers.{Fits, Holds, Includes, Covers}

-- ---- numbers

-- tidy keeps the numbers that an interval and bits represent, and adds none
pub record IsTidy (tidy : Interval → KnownBits → Number) : Type 0 where
  pub keeps : (a : Interval) (p : KnownBits) (x : ℕ) → IsWord x → IsBetween a x → Fits p x
      → Holds (tidy a p) x
  pub adds_none : (a : Interval) (p : KnownBits) (x : ℕ) → Holds (tidy a p) x
      → IsBetween a x × Fits p x

-- a number that is found empty represents no number
abbrev pub EmptyHasNone : Type 0
EmptyHasNone = (a : Number) (x : ℕ) → Holds a x → is_empty a ≡ false

abbrev pub IncludesSingle : Type 0
IncludesSingle = (n : ℕ) → IsWord n → Holds (single n) n

abbrev pub IncludesUpTo : Type 0
IncludesUpTo = (hi x : ℕ) → IsWord x → x ≤ hi → Holds (up_to hi) x

-- ---- values

-- an operation on values includes the result of the machine's operation
abbrev pub IncludesResults : Type 0
IncludesResults =
    (g : Returns) (bits : Bits) (op : AluOp) (a b : Abs) (x y : ℕ)
    → IsWord x → IsWord y → Includes g a x → Includes g b y
    → Includes g (alu_value bits op a b) (alu_result bits op x y)

abbrev pub IncludesCopies : Type 0
IncludesCopies =
    (g : Returns) (bits : Bits) (a : Abs) (x : ℕ)
    → Includes g a x → Includes g (copied_value bits a) (word bits x)

abbrev pub IncludesNegations : Type 0
IncludesNegations =
    (g : Returns) (bits : Bits) (a : Abs) (x : ℕ) → IsWord x → Includes g a x
    → Includes g (negated_value bits a) (negated bits x)

abbrev pub IncludesExtensions : Type 0
IncludesExtensions =
    (g : Returns) (e : Extension) (a : Abs) (x : ℕ)
    → Includes g a x → Includes g (extended_value e a) (extended e x)

abbrev pub IncludesReorderings : Type 0
IncludesReorderings =
    (g : Returns) (order : ByteOrder) (size : EndSize) (a : Abs) (x : ℕ) → Includes g a x
    → Includes g (reordered_value order size a) (reordered order size x)

-- a number of as many bytes as the load reads
abbrev pub IncludesLoaded : Type 0
IncludesLoaded =
    (g : Returns) (kind : LoadKind) (n : ℕ) → n < 256 ^ load_count kind
    → Includes g (loaded_value kind) (filled kind n)

-- the edge isn't dropped, and the narrowed values on it include the numbers x and y
pub record IsLeft (g : Returns) (o : Option (Abs × Abs)) (x y : ℕ) : Type 0 where
  pub pair : Abs × Abs
  pub is : o ≡ Some pair
  pub first : Includes g pair.0 x
  pub second : Includes g pair.1 y

-- the edge that a run takes isn't dropped
abbrev pub KeepsTaken : Type 0
KeepsTaken =
    (g : Returns) (bits : Bits) (condition : Condition) (jumps : Bool) (a b : Abs) (x y : ℕ)
    → Includes g a x → Includes g b y → is_taken jumps (holds bits condition x y) ≡ true
    → IsLeft g (refined bits condition jumps a b) x y

-- ---- registers

-- the register is set, to a number that the value includes
pub record IsThere (g : Returns) (a : Abs) (v : Option ℕ) : Type 0 where
  pub number : ℕ
  pub is : v ≡ Some number
  pub included : Includes g a number

abbrev pub RegistersAreThere : Type 0
RegistersAreThere =
    (g : Returns) (e : AbsState) (s : State) (r : ℕ)
    → Covers g e s → is_unusable (value_at e r) ≡ false
    → IsThere g (value_at e r) (s.registers r)

abbrev pub OperandsAreThere : Type 0
OperandsAreThere =
    (g : Returns) (e : AbsState) (s : State) (bits : Bits) (src : Operand)
    → FitsImm src → Covers g e s → is_unusable (operand_value e bits src) ≡ false
    → IsThere g (operand_value e bits src) (operand s bits src)

-- a write to a register
abbrev pub CoversWrites : Type 0
CoversWrites =
    (g : Returns) (e : AbsState) (s : State) (r : Reg) (v : Abs) (x : ℕ)
    → Covers g e s → Includes g v x
    → Covers g (with_value e r v) (with_register s (number_of r) x)

-- a narrowed value of an operand that isn't written
abbrev pub CoversLearnt : Type 0
CoversLearnt =
    (g : Returns) (e : AbsState) (s : State) (bits : Bits) (src : Operand) (v : Abs) (x : ℕ)
    → Covers g e s
    → operand s bits src ≡ Some x → Includes g v x → Covers g (with_operand e src v) s

-- ---- results of calls

-- the arrays are the same, and no result has changed
pub record IsMore (before after : Returns) : Type 0 where
  pub shape : after.shape ≡ before.shape
  pub answers : (call x : ℕ) → before.by call ≡ Some x → after.by call ≡ Some x

abbrev pub CoversLater : Type 0
CoversLater =
    (g after : Returns) (e : AbsState) (s : State)
    → IsMore g after → Covers g e s → Covers after e s

-- results of calls before a slot are before each later slot; so are these with the result of the
-- call at the slot
abbrev pub StaysBefore : Type 0
StaysBefore =
    (g : Returns) (slot next : ℕ) → slot ≤ next → AreBefore slot g → AreBefore next g

abbrev pub AnswersBefore : Type 0
AnswersBefore =
    (g : Returns) (slot next x : ℕ)
    → slot < next → AreBefore slot g → AreBefore next (answering g slot x)

-- if the call has returned x, each copy of its result is a cell's address if x isn't 0, else 0
abbrev pub CoversAnswered : Type 0
CoversAnswered =
    (g : Returns) (e : AbsState) (s : State) (call x : ℕ)
    → g.by call ≡ Some x → Covers g e s → Covers g (state_with_answer e call (not (x == 0))) s

-- the edge isn't dropped, and the abstract state on it covers the state
abbrev pub CoversOn : Returns → Option AbsState → State → Type 0
CoversOn g None s = ⊥
CoversOn g (Some e) s = Covers g e s

-- the edge that a run takes isn't dropped, and the abstract state on it covers the state
abbrev pub CoversEdges : Type 0
CoversEdges =
    (g : Returns) (e : AbsState) (s : State)
    (bits : Bits) (condition : Condition) (left : Reg) (right : Operand) (jumps : Bool) (x y : ℕ)
    → FitsImm right → Covers g e s → register s left ≡ Some x → operand s bits right ≡ Some y
    → is_taken jumps (holds bits condition x y) ≡ true
    → CoversOn g (refined_state e bits condition left right jumps) s

-- the abstract state after a call covers the state after it, given its result
abbrev pub CoversCalls : Type 0
CoversCalls =
    (g : Returns) (e : AbsState) (s : State) (helper : ℤ) (x : ℕ)
    → HasWords s → AreBefore s.slot g → Covers g e s → helper_result g.shape s helper ≡ Some x
    → Covers (answering g s.slot x) (called e helper s.slot) (with_result s x)

-- ---- joins, and the start

abbrev pub CoversFirst : Type 0
CoversFirst =
    (g : Returns) (e f : AbsState) (s : State)
    → Covers g e s → Covers g (join_states e f) s

abbrev pub CoversSecond : Type 0
CoversSecond =
    (g : Returns) (e f : AbsState) (s : State)
    → Covers g f s → Covers g (join_states e f) s

-- joins are commutative
abbrev pub JoinsCommute : Type 0
JoinsCommute = (e f : AbsState) → join_states e f ≡ join_states f e

abbrev pub CoversOpening : Type 0
CoversOpening = (g : Returns) (a : Attributes) → Covers g opening_state (opening a)

-- ---- the stack

-- a store is possible, and the abstract state after it covers the state after it
abbrev pub CoversAfter : Returns → AbsState → Option State → Type 0
CoversAfter g e None = ⊥
CoversAfter g e (Some t) = Covers g e t

-- stores within the stack
abbrev pub CoversStores : Type 0
CoversStores =
    (g : Returns) (e : AbsState) (s : State) (place : ℕ) (size : Size) (v : Abs) (x : ℕ)
    → place + byte_count size ≤ stack_size → Covers g e s → IsWord x → Includes g v x
    → CoversAfter g (with_stored e place (byte_count size) v)
    (written_at s (stack_start + place) (byte_count size) x)

-- a load reads a number that the value includes
pub record Finds (g : Returns) (a : Abs) (kind : LoadKind) (o : Option ℕ) : Type 0 where
  pub number : ℕ
  pub is : o ≡ Some number
  pub included : Includes g a (filled kind number)

abbrev pub CoversLoads : Type 0
CoversLoads =
    (g : Returns) (e : AbsState) (s : State) (place : ℕ) (kind : LoadKind)
    → place + load_count kind ≤ stack_size
    → HasWords s → Covers g e s → has_unset e.stack (pos place) (load_count kind) ≡ false
    → Finds g (loaded_from e.stack place kind) kind
    (read_at s (stack_start + place) (load_count kind))

-- n bytes of the stack that are all set can be read
abbrev pub BytesAreThere : Type 0
BytesAreThere =
    (g : Returns) (e : AbsState) (s : State) (place n : ℕ)
    → place + n ≤ stack_size → HasWords s → Covers g e s → has_unset e.stack (pos place) n ≡ false
    → IsSome (set_bytes s.stack place n)
