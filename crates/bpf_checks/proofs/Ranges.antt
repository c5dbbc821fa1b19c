-- If all ends in a state are in order, they are in order after an instruction.
use Rattle.std.proofs.Common.{ℕ, pos, negsuc, Option, Some, None, true, false, arith}
use Rattle.std.specs.Prelude.{IfSome, option_map, slice_get}
use Rattle.bpf_insn.specs.declared.operand.LoadKind.{LoadKind}
use Rattle.bpf_insn.specs.declared.operand.WideValue.{WideValue}
use Rattle.bpf_insn.specs.declared.operand.WideValue.TheVariants as wide
use Rattle.bpf_insn.specs.declared.reg.Reg.{Reg}
use Rattle.bpf_insn.specs.declared.insn.Insn.{Insn}
use Rattle.bpf_insn.specs.declared.insn.Insn.TheVariants.{Alu, Mov, MovSx, Neg, End, JumpIf, Call}
use Rattle.bpf_insn.specs.declared.insn.Insn.TheVariants.{Load, StoreImm, Store, Atomic, Wide}
use Rattle.bpf_insn.specs.declared.operand.Bits.TheVariants.{Bits64}
use Rattle.bpf_insn.specs.Table.{number_of}
use Rattle.bpf_insn.specs.Words.{immediate}
use Rattle.bpf_insn.specs.Program.{◌>>=◌}
use Rattle.bpf_semantics.specs.Reads.{load_count, byte_count}
use Rattle.bpf_semantics.specs.Counters.{fetched}
use Rattle.cells.specs.declared.array.CellArray.{CellArray}
use Rattle.cells.specs.Arrays.{AppShape}
use Rattle.abs_value.specs.declared.value.Abs.{Abs}
use Rattle.abs_value.specs.declared.value.Abs.TheVariants.{Num, Map}
use Rattle.abs_value.specs.declared.state.AbsState.{AbsState}
use Rattle.abs_value.specs.Numbers.{single}
use Rattle.abs_value.specs.Values.{or_unusable, alu_value, copied_value}
use Rattle.abs_value.specs.Values.{negated_value, extended_value, reordered_value}
use Rattle.abs_value.specs.States.{value_of, operand_value}
use Rattle.abs_value.specs.Order.{HasOrderedEnds, IsStateInOrder, ResultsInOrder, CopiesInOrder}
use Rattle.abs_value.specs.Order.{NegationsInOrder, ExtensionsInOrder, ReorderingsInOrder}
use Rattle.abs_value.specs.Order.{LoadedInOrder, OperandsInOrder, WritesInOrder}
use Rattle.abs_value.specs.Order.{StoresInOrder, LoadsInOrder, RefinedInOrder, CalledInOrder}
use Rattle.bpf_checks.specs.Arrays.{cell_after, fixed_cell, wide_abs}
use Rattle.bpf_checks.specs.Memory.{stack_place}
use Rattle.bpf_checks.specs.Transfer.{loaded_at, stored_at, fetched_value}
use Rattle.bpf_checks.specs.Transfer.{with_fetched, after, jumping, going_on}

-- the laws of abs_value that these proofs use
pub record Ranges : Type 0 where
  pub alu : ResultsInOrder
  pub copied : CopiesInOrder
  pub negated : NegationsInOrder
  pub extended : ExtensionsInOrder
  pub reordered : ReorderingsInOrder
  pub loaded : LoadedInOrder
  pub operands : OperandsInOrder
  pub writes : WritesInOrder
  pub stores : StoresInOrder
  pub loads : LoadsInOrder
  pub edges : RefinedInOrder
  pub calls : CalledInOrder

loaded_in_order : (r : Ranges) (e : AbsState) (place : Option ℕ) (kind : LoadKind)
    → IsStateInOrder e → HasOrderedEnds (loaded_at e place kind)
loaded_in_order r e None kind h = r.loaded kind
loaded_in_order r e (Some place) kind h = r.loads e place kind h

stored_in_order : (r : Ranges) (e : AbsState) (place : Option ℕ) (n : ℕ) (v : Abs)
    → IsStateInOrder e → HasOrderedEnds v → IsStateInOrder (stored_at e place n v)
stored_in_order r e None n v h k = h
stored_in_order r e (Some place) n v h k = r.stores e place n v h k

fetched_in_order : (r : Ranges) (e : AbsState) (dst : Option Reg) (v : Abs)
    → IsStateInOrder e → HasOrderedEnds v → IsStateInOrder (with_fetched e dst v)
fetched_in_order r e None v h k = h
fetched_in_order r e (Some dst) v h k = r.writes e dst v h k

-- no address of a map or a cell is a range
map_in_order : (i : ℕ) (o : Option CellArray)
    → HasOrderedEnds (or_unusable (o >>= λ a. Some (Map i)))
map_in_order i None = tt
map_in_order i (Some a) = tt

cell_in_order : (o : Option ℕ) → HasOrderedEnds (or_unusable (option_map fixed_cell o))
cell_in_order None = tt
cell_in_order (Some c) = tt

cells_in_order : (n : ℕ) (o : Option CellArray)
    → HasOrderedEnds (or_unusable (o >>= λ a. option_map fixed_cell (cell_after a n)))
cells_in_order n None = tt
cells_in_order n (Some a) = cell_in_order (cell_after a n)

wide_in_order : (shape : AppShape) (value : WideValue)
    → HasOrderedEnds (or_unusable (wide_abs shape value))
wide_in_order shape (wide.Number n) = omega arith
wide_in_order shape (wide.Map (pos i)) = map_in_order i (slice_get shape.arrays i)
wide_in_order shape (wide.Map (negsuc i)) = tt
wide_in_order shape (wide.Cell (pos i) (pos n)) = cells_in_order n (slice_get shape.arrays i)
wide_in_order shape (wide.Cell (pos i) (negsuc n)) = tt
wide_in_order shape (wide.Cell (negsuc i) offset) = tt

after_in_order : (r : Ranges) (shape : AppShape) (slot : ℕ) (e : AbsState) (i : Insn)
    → IsStateInOrder e → IsStateInOrder (after shape slot e i)
after_in_order r shape slot e (Alu bits op dst src) h =
    r.writes e dst (alu_value bits op (value_of e dst) (operand_value e bits src)) h
    (r.alu bits op (value_of e dst) (operand_value e bits src) (h.registers (number_of dst))
    (r.operands e bits src h))
after_in_order r shape slot e (Mov bits dst src) h =
    r.writes e dst (copied_value bits (operand_value e bits src)) h
    (r.copied bits (operand_value e bits src) (r.operands e bits src h))
after_in_order r shape slot e (MovSx extension dst src) h =
    r.writes e dst (extended_value extension (value_of e src)) h
    (r.extended extension (value_of e src) (h.registers (number_of src)))
after_in_order r shape slot e (Neg bits dst) h =
    r.writes e dst (negated_value bits (value_of e dst)) h
    (r.negated bits (value_of e dst) (h.registers (number_of dst)))
after_in_order r shape slot e (End order size dst) h =
    r.writes e dst (reordered_value order size (value_of e dst)) h
    (r.reordered order size (value_of e dst) (h.registers (number_of dst)))
after_in_order r shape slot e (Call helper) h = r.calls e helper slot h
after_in_order r shape slot e (Load kind dst src offset) h =
    r.writes e dst (loaded_at e (stack_place (value_of e src) offset (load_count kind)) kind) h
    (loaded_in_order r e (stack_place (value_of e src) offset (load_count kind)) kind h)
after_in_order r shape slot e (StoreImm size dst offset imm) h =
    stored_in_order r e (stack_place (value_of e dst) offset (byte_count size)) (byte_count size)
    (Num (single (immediate Bits64 imm))) h (omega arith)
after_in_order r shape slot e (Store size dst src offset) h =
    stored_in_order r e (stack_place (value_of e dst) offset (byte_count size)) (byte_count size)
    (value_of e src) h (h.registers (number_of src))
after_in_order r shape slot e (Atomic op size dst src offset) h =
    fetched_in_order r e (fetched op src) (fetched_value size) h (omega arith)
after_in_order r shape slot e (Wide dst value) h =
    r.writes e dst (or_unusable (wide_abs shape value)) h (wide_in_order shape value)
after_in_order r shape slot e i h = h

pub jumping_in_order : (r : Ranges) (e : AbsState) (i : Insn) → IsStateInOrder e
    → IfSome (jumping e i) IsStateInOrder
jumping_in_order r e (JumpIf bits condition left right offset) h =
    r.edges e bits condition left right true h
jumping_in_order r e i h = h

pub going_on_in_order : (r : Ranges) (shape : AppShape) (slot : ℕ) (e : AbsState) (i : Insn)
    → IsStateInOrder e → IfSome (going_on shape slot e i) IsStateInOrder
going_on_in_order r shape slot e (JumpIf bits condition left right offset) h =
    r.edges e bits condition left right false h
going_on_in_order r shape slot e i h = after_in_order r shape slot e i h
