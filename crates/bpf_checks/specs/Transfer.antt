-- Transfer functions: the abstract state on each edge from an instruction.
use Rattle.std.specs.Prelude.{◌≡◌, ℕ, ◌*◌, ◌-◌, ◌^◌, List, [], ◌∷◌, ◌++◌, Option, Some, None}
use Rattle.std.specs.Prelude.{true, false}
use Rattle.bpf_insn.specs.declared.operand.AtomicSize.{AtomicSize}
use Rattle.bpf_insn.specs.declared.operand.Bits.TheVariants.{Bits64}
use Rattle.bpf_insn.specs.declared.operand.LoadKind.{LoadKind}
use Rattle.bpf_insn.specs.declared.reg.Reg.{Reg}
use Rattle.bpf_insn.specs.declared.insn.Insn.{Insn}
use Rattle.bpf_insn.specs.declared.insn.Insn.TheVariants.{Alu, Mov, MovSx, Neg, End, JumpIf}
use Rattle.bpf_insn.specs.declared.insn.Insn.TheVariants.{Call, Load, StoreImm, Store, Atomic, Wide}
use Rattle.bpf_insn.specs.Words.{immediate}
use Rattle.bpf_semantics.specs.Reads.{byte_count, load_count}
use Rattle.bpf_semantics.specs.Counters.{atomic_count, fetched}
use Rattle.cells.specs.Arrays.{AppShape}
use Rattle.flow_check.specs.Edges.{target_of, next_target}
use Rattle.abs_value.specs.declared.value.Abs.{Abs}
use Rattle.abs_value.specs.declared.value.Abs.TheVariants.{Num}
use Rattle.abs_value.specs.declared.state.AbsState.{AbsState}
use Rattle.abs_value.specs.Numbers.{single, up_to}
use Rattle.abs_value.specs.Values.{or_unusable, alu_value, copied_value, negated_value}
use Rattle.abs_value.specs.Values.{extended_value, reordered_value, loaded_value}
use Rattle.abs_value.specs.Stack.{loaded_from}
use Rattle.abs_value.specs.States.{value_of, operand_value, with_value, with_stored}
use Rattle.abs_value.specs.Lookups.{with_both, refined_state, called}
use Rattle.bpf_checks.specs.declared.compared.Compared.{Compared}
use Rattle.bpf_checks.specs.declared.compared.Compared.TheVariants.{Nothing, Values}
use Rattle.bpf_checks.specs.Arrays.{wide_abs}
use Rattle.bpf_checks.specs.Memory.{stack_place}

-- ---- memory

-- the value of a load: from the stack what is known of the slot, otherwise any number of its width
abbrev pub loaded_at : AbsState → Option ℕ → LoadKind → Abs
loaded_at e None kind = loaded_value kind
loaded_at e (Some place) kind = loaded_from e.stack place kind

-- only a store to the stack changes the abstract state
abbrev pub stored_at : AbsState → Option ℕ → ℕ → Abs → AbsState
stored_at e None n v = e
stored_at e (Some place) n v = with_stored e place n v

-- any number of the cell's width
abbrev pub fetched_value : AtomicSize → Abs
fetched_value size = Num (up_to (2 ^ (8 * atomic_count size) - 1))

abbrev pub with_fetched : AbsState → Option Reg → Abs → AbsState
with_fetched e None v = e
with_fetched e (Some r) v = with_value e r v

-- ---- edges

-- after an instruction at slot s whose only successor is the next one
abbrev pub after : AppShape → ℕ → AbsState → Insn → AbsState
after shape s e (Alu bits op dst src) =
    with_value e dst (alu_value bits op (value_of e dst) (operand_value e bits src))
after shape s e (Mov bits dst src) =
    with_value e dst (copied_value bits (operand_value e bits src))
after shape s e (MovSx extension dst src) =
    with_value e dst (extended_value extension (value_of e src))
after shape s e (Neg bits dst) = with_value e dst (negated_value bits (value_of e dst))
after shape s e (End order size dst) =
    with_value e dst (reordered_value order size (value_of e dst))
after shape s e (Call helper) = called e helper s
after shape s e (Load kind dst src offset) =
    with_value e dst (loaded_at e (stack_place (value_of e src) offset (load_count kind)) kind)
after shape s e (StoreImm size dst offset imm) =
    stored_at e (stack_place (value_of e dst) offset (byte_count size)) (byte_count size)
    (Num (single (immediate Bits64 imm)))
after shape s e (Store size dst src offset) =
    stored_at e (stack_place (value_of e dst) offset (byte_count size)) (byte_count size)
    (value_of e src)
after shape s e (Atomic op size dst src offset) =
    with_fetched e (fetched op src) (fetched_value size)
after shape s e (Wide dst value) = with_value e dst (or_unusable (wide_abs shape value))
after shape s e i = e

-- on the edge that jumps; none if no run takes it
abbrev pub jumping : AbsState → Insn → Option AbsState
jumping e (JumpIf bits condition left right offset) =
    refined_state e bits condition left right true
jumping e i = Some e

-- on the fall-through edge
abbrev pub going_on : AppShape → ℕ → AbsState → Insn → Option AbsState
going_on shape s e (JumpIf bits condition left right offset) =
    refined_state e bits condition left right false
going_on shape s e i = Some (after shape s e i)

-- the state on the edge that jumps, with the two compared values restored
abbrev pub restored : Compared → AbsState → AbsState
restored Nothing f = f
restored (Values left right first second) f = with_both f left right (first, second)

-- restoring undoes the edge that jumps
abbrev pub Restores : AbsState → Insn → Compared → Type 0
Restores e i compared = (f : AbsState) → jumping e i ≡ Some f → restored compared f ≡ e

-- an edge to a slot, with the abstract state on it
pub record Edge : Type 0 where
  pub target : ℕ
  pub entry : AbsState

abbrev pub edge_to : ℕ → AbsState → Edge
edge_to target e = record { target = target; entry = e }

abbrev pub edge : Option ℕ → Option AbsState → List Edge
edge (Some target) (Some e) = edge_to target e ∷ []
edge target e = []

abbrev pub jump_edge : ℕ → AbsState → Insn → List Edge
jump_edge s e i = edge (target_of s i) (jumping e i)

abbrev pub next_edge : AppShape → ℕ → AbsState → Insn → List Edge
next_edge shape s e i = edge (next_target s i) (going_on shape s e i)

-- the edges that aren't dropped, first the one that jumps
unfoldable pub edges : AppShape → ℕ → AbsState → Insn → List Edge
edges shape s e i = jump_edge s e i ++ next_edge shape s e i
