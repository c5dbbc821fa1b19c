-- The ends of each value in a register or a stack slot are in order.
use Rattle.std.proofs.Common.{ℕ, zero, suc, ◌+◌, ◌/◌, ◌%◌, ℤ, List}
use Rattle.std.proofs.Common.{Option, Some, None, Bool, true, false, arith, inl, inr}
use Rattle.std.specs.Prelude.{IfSome, slice_set, option_map, nat_le, ◌==◌, ◌&&◌, if◌then◌else◌}
use Rattle.std.proofs.lemmas.Bool.{cases_lt}
use Rattle.std.proofs.lemmas.List.{get_or-drop}
use Rattle.bpf_insn.specs.declared.reg.Reg.{Reg}
use Rattle.bpf_insn.specs.declared.operand.Bits.{Bits}
use Rattle.bpf_insn.specs.declared.operand.Condition.{Condition}
use Rattle.bpf_insn.specs.declared.operand.LoadKind.{LoadKind}
use Rattle.bpf_insn.specs.declared.operand.LoadKind.TheVariants.{Double}
use Rattle.bpf_insn.specs.declared.operand.Operand.{Operand}
use Rattle.bpf_insn.specs.declared.operand.Operand.TheVariants.{Imm, Register}
use Rattle.bpf_insn.specs.Table.{number_of}
use Rattle.abs_value.specs.declared.value.Abs.{Abs}
use Rattle.abs_value.specs.declared.value.Abs.TheVariants.{Unusable, Num, Ctx}
use Rattle.abs_value.specs.declared.value.Abs.TheVariants.{Stk, Map, MayCell, Cell}
use Rattle.abs_value.specs.declared.slot.AbsSlot.{AbsSlot}
use Rattle.abs_value.specs.declared.slot.AbsSlot.TheVariants.{Kept, Bytes}
use Rattle.abs_value.specs.declared.state.AbsState.{AbsState}
use Rattle.abs_value.specs.Values.{is_pointer, loaded_value, join_values, refined}
use Rattle.abs_value.specs.Stack.{slot_at, is_whole_slot, with_set, first_bits}
use Rattle.abs_value.specs.Stack.{next_bits, with_written, stored, kept_or}
use Rattle.abs_value.specs.Stack.{loaded_from, kept_slot, join_slots, join_stacks}
use Rattle.abs_value.specs.States.{register_at, value_at, value_of, operand_value}
use Rattle.abs_value.specs.States.{with_value, with_operand, with_stored, opening_registers}
use Rattle.abs_value.specs.States.{opening_state, join_registers, join_states}
use Rattle.abs_value.specs.Lookups.{slot_with_answer, state_with_answer}
use Rattle.abs_value.specs.Lookups.{after_null_check, with_both, after_comparison}
use Rattle.abs_value.specs.Lookups.{compares_with_zero, is_found, is_register}
use Rattle.abs_value.specs.Lookups.{refined_state, call_value, called_registers, called}
use Rattle.abs_value.specs.Order.{HasOrderedEnds, AreInOrder, IsSlotInOrder, IsStateInOrder}
use Rattle.abs_value.proofs.Lists.{here, past, other, set_at}
use Rattle.abs_value.proofs.Slots.{slot_at-join, slot_at-join_past}
use Rattle.abs_value.proofs.Writes.{register_at-join, register_at-join_past, unset}
use Rattle.abs_value.proofs.Known.{register_at-answer, slot_at-answer}
use Rattle.abs_value.proofs.Order.{loaded_in_order, join_in_order, refined_in_order}
use Rattle.abs_value.proofs.Order.{with_answer_in_order, call_in_order}

abbrev AreInRegisters : List Abs → Type 0
AreInRegisters values = (r : ℕ) → HasOrderedEnds (register_at values r)

abbrev AreInSlots : List AbsSlot → Type 0
AreInSlots slots = (i : ℕ) → IsSlotInOrder (slot_at slots i)

-- ---- registers

write_at : (values : List Abs) (r : ℕ) (v : Abs) → AreInRegisters values → HasOrderedEnds v
    → AreInRegisters (slice_set values r v)
write_at values r v h k q = elim (set_at Abs values r v Unusable q) [
  | here same e ↦ rw e k
  | past e ↦ rw e tt
  | other apart e ↦ rw e (h q)
]

pub written_in_order : (e : AbsState) (r : Reg) (v : Abs) → IsStateInOrder e → HasOrderedEnds v
    → IsStateInOrder (with_value e r v)
written_in_order e r v h k =
    record { registers = write_at e.registers (number_of r) v h.registers k; stack = h.stack }

operand_written : (e : AbsState) (src : Operand) (v : Abs) → IsStateInOrder e → HasOrderedEnds v
    → IsStateInOrder (with_operand e src v)
operand_written e (Imm k) v h i = h
operand_written e (Register r) v h i = written_in_order e r v h i

pub operand_in_order : (e : AbsState) (bits : Bits) (src : Operand) → IsStateInOrder e
    → HasOrderedEnds (operand_value e bits src)
operand_in_order e bits (Imm k) h = omega arith
operand_in_order e bits (Register r) h = h.registers (number_of r)

-- ---- the stack

set_slot : (slots : List AbsSlot) (i : ℕ) (slot : AbsSlot) → AreInSlots slots → IsSlotInOrder slot
    → AreInSlots (slice_set slots i slot)
set_slot slots i slot h k j = elim (set_at AbsSlot slots i slot (Bytes 0) j) [
  | here same e ↦ rw e k
  | past e ↦ rw e tt
  | other apart e ↦ rw e (h j)
]

one_of : (b : Bool) (xs ys : List AbsSlot) → AreInSlots xs → AreInSlots ys
    → AreInSlots (if b then xs else ys)
one_of true xs ys h k = h
one_of false xs ys h k = k

written_slots : (slots : List AbsSlot) (place n : ℕ) → AreInSlots slots
    → AreInSlots (with_written slots place n)
written_slots slots place n h =
    let first = with_set slots (place / 8) (first_bits place n) in
    let one : AreInSlots first = set_slot slots (place / 8) _ h tt in
    one_of (nat_le (place % 8 + n) 8) first (with_set first (place / 8 + 1) (next_bits place n)) one
    (set_slot first (place / 8 + 1) _ one tt)

stored_slots : (slots : List AbsSlot) (place n : ℕ) (v : Abs) → AreInSlots slots → HasOrderedEnds v
    → AreInSlots (stored slots place n v)
stored_slots slots place n v h k = one_of (is_whole_slot place n)
    (slice_set slots (place / 8) (Kept v)) (with_written slots place n)
    (set_slot slots (place / 8) (Kept v) h k) (written_slots slots place n h)

pub stored_in_order : (e : AbsState) (place n : ℕ) (v : Abs) → IsStateInOrder e → HasOrderedEnds v
    → IsStateInOrder (with_stored e place n v)
stored_in_order e place n v h k =
    record { registers = h.registers; stack = stored_slots e.stack place n v h.stack k }

kept_in_order : (slot : AbsSlot) (v : Abs) → IsSlotInOrder slot → HasOrderedEnds v
    → HasOrderedEnds (kept_or slot v)
kept_in_order (Kept w) v h k = h
kept_in_order (Bytes mask) v h k = k

pub load_in_order : (e : AbsState) (place : ℕ) (kind : LoadKind) → IsStateInOrder e
    → HasOrderedEnds (loaded_from e.stack place kind)
load_in_order e place Double h = by_test (place % 8 == 0)
  where
    by_test : (b : Bool) → HasOrderedEnds (if b then kept_or (slot_at e.stack (place / 8))
        (loaded_value Double) else loaded_value Double)
    by_test true = kept_in_order (slot_at e.stack (place / 8)) (loaded_value Double)
        (h.stack (place / 8)) (loaded_in_order Double)
    by_test false = loaded_in_order Double
load_in_order e place kind h = loaded_in_order kind

-- ---- joins, and the start of a run

kept_slot_in_order : (v : Abs) → HasOrderedEnds v → IsSlotInOrder (kept_slot v)
kept_slot_in_order Unusable h = tt
kept_slot_in_order (Num a) h = h
kept_slot_in_order (Ctx a) h = h
kept_slot_in_order (Stk a) h = h
kept_slot_in_order (Map a) h = h
kept_slot_in_order (MayCell a) h = h
kept_slot_in_order (Cell a) h = h

slots_join : (a b : AbsSlot) → IsSlotInOrder a → IsSlotInOrder b
    → IsSlotInOrder (join_slots a b)
slots_join (Kept v) (Kept w) h k = kept_slot_in_order (join_values v w) (join_in_order v w h k)
slots_join (Kept v) (Bytes n) h k = tt
slots_join (Bytes m) (Kept w) h k = tt
slots_join (Bytes m) (Bytes n) h k = tt

registers_join : (a b : List Abs) → AreInRegisters a → AreInRegisters b
    → AreInRegisters (join_registers a b)
registers_join a b h k r = elim (cases_lt r 11) [
  | inl lt ↦ rw (register_at-join a b r lt)
      (join_in_order (register_at a r) (register_at b r) (h r) (k r))
  | inr le ↦ rw (register_at-join_past a b r le) tt
]

stacks_join : (a b : List AbsSlot) → AreInSlots a → AreInSlots b → AreInSlots (join_stacks a b)
stacks_join a b h k i = elim (cases_lt i 64) [
  | inl lt ↦ rw (slot_at-join a b i lt) (slots_join (slot_at a i) (slot_at b i) (h i) (k i))
  | inr le ↦ rw (slot_at-join_past a b i le) tt
]

pub joined_in_order : (e f : AbsState) → IsStateInOrder e → IsStateInOrder f
    → IsStateInOrder (join_states e f)
joined_in_order e f h k = record {
  registers = registers_join e.registers f.registers h.registers k.registers;
  stack = stacks_join e.stack f.stack h.stack k.stack;
}

opening_at : AreInRegisters opening_registers
opening_at zero = tt
opening_at (suc zero) = omega arith
opening_at (suc (suc zero)) = tt
opening_at (suc (suc (suc zero))) = tt
opening_at (suc (suc (suc (suc zero)))) = tt
opening_at (suc (suc (suc (suc (suc zero))))) = tt
opening_at (suc (suc (suc (suc (suc (suc zero)))))) = tt
opening_at (suc (suc (suc (suc (suc (suc (suc zero))))))) = tt
opening_at (suc (suc (suc (suc (suc (suc (suc (suc zero)))))))) = tt
opening_at (suc (suc (suc (suc (suc (suc (suc (suc (suc zero))))))))) = tt
opening_at (suc (suc (suc (suc (suc (suc (suc (suc (suc (suc zero)))))))))) = tt
opening_at (suc (suc (suc (suc (suc (suc (suc (suc (suc (suc (suc r))))))))))) = tt

pub opening_in_order : IsStateInOrder opening_state
opening_in_order = record { registers = opening_at; stack = λ i. rw (unset 64 i) tt }

-- ---- edges

slot_answered : (call : ℕ) (found : Bool) (slot : AbsSlot) → IsSlotInOrder slot
    → IsSlotInOrder (slot_with_answer call found slot)
slot_answered call found (Kept v) h = with_answer_in_order call found v h
slot_answered call found (Bytes mask) h = h

answered_in_order : (e : AbsState) (call : ℕ) (found : Bool) → IsStateInOrder e
    → IsStateInOrder (state_with_answer e call found)
answered_in_order e call found h = record {
  registers = λ r. rw (register_at-answer e.registers call found r)
      (with_answer_in_order call found (register_at e.registers r) (h.registers r));
  stack = λ i. rw (slot_at-answer e.stack call found i)
      (slot_answered call found (slot_at e.stack i) (h.stack i));
}

chosen_if : (b : Bool) (o q : Option AbsState) → IfSome o IsStateInOrder
    → IfSome q IsStateInOrder → IfSome (if b then o else q) IsStateInOrder
chosen_if true o q h k = h
chosen_if false o q h k = k

null_in_order : (e : AbsState) (v : Abs) (found : Bool) → IsStateInOrder e
    → IfSome (after_null_check e v found) IsStateInOrder
null_in_order e (MayCell lookup) found h = answered_in_order e lookup.slot found h
null_in_order e (Cell origin) found h = chosen_if found (Some e) None h tt
null_in_order e Unusable found h = h
null_in_order e (Num a) found h = h
null_in_order e (Ctx a) found h = h
null_in_order e (Stk a) found h = h
null_in_order e (Map a) found h = h

both_in_order : (e : AbsState) (left : Reg) (right : Operand) (o : Option (Abs × Abs))
    → IsStateInOrder e → AreInOrder o
    → IfSome (option_map (with_both e left right) o) IsStateInOrder
both_in_order e left right None h k = tt
both_in_order e left right (Some p) h k =
    operand_written (with_value e left p.0) right p.1 (written_in_order e left p.0 h k.0) k.1

pub edge_in_order : (e : AbsState) (bits : Bits) (condition : Condition) (left : Reg)
    (right : Operand) (jumps : Bool) → IsStateInOrder e
    → IfSome (refined_state e bits condition left right jumps) IsStateInOrder
edge_in_order e bits condition left right jumps h =
    let values =
    refined_in_order bits condition jumps (value_of e left) (operand_value e bits right)
    (h.registers (number_of left)) (operand_in_order e bits right h) in
    chosen_if (is_register right left) (Some e) _ h
    (chosen_if (compares_with_zero bits condition right && is_pointer (value_of e left))
    (after_null_check e (value_of e left) (is_found condition jumps))
    (after_comparison e bits condition left right jumps)
    (null_in_order e (value_of e left) (is_found condition jumps) h)
    (both_in_order e left right
    (refined bits condition jumps (value_of e left) (operand_value e bits right)) h values))

-- ---- calls

called_at : (values : List Abs) (v : Abs) → AreInRegisters values → HasOrderedEnds v
    → AreInRegisters (called_registers values v)
called_at values v h k zero = k
called_at values v h k (suc zero) = tt
called_at values v h k (suc (suc zero)) = tt
called_at values v h k (suc (suc (suc zero))) = tt
called_at values v h k (suc (suc (suc (suc zero)))) = tt
called_at values v h k (suc (suc (suc (suc (suc zero))))) = tt
called_at values v h k (suc (suc (suc (suc (suc (suc r)))))) =
    rw (get_or-drop 6 values r Unusable) (h (6 + r))

pub called_in_order : (e : AbsState) (helper : ℤ) (slot : ℕ) → IsStateInOrder e
    → IsStateInOrder (called e helper slot)
called_in_order e helper slot h = record {
  registers = called_at e.registers (call_value helper slot (value_at e 1)) h.registers
      (call_in_order helper slot (value_at e 1));
  stack = h.stack;
}
