-- The abstract state before an instruction: a value for each register, and the slots of the stack.
use Rattle.std.specs.Prelude.{ℕ, List, [], ◌∷◌, map, replicate, slice_index_or, slice_set}
use Rattle.std.specs.List.{range_with_len}
use Rattle.bpf_insn.specs.declared.reg.Reg.{Reg}
use Rattle.bpf_insn.specs.declared.operand.Bits.{Bits}
use Rattle.bpf_insn.specs.declared.operand.Operand.{Operand}
use Rattle.bpf_insn.specs.declared.operand.Operand.TheVariants.{Imm, Register}
use Rattle.bpf_insn.specs.Table.{number_of}
use Rattle.bpf_insn.specs.Words.{immediate}
use Rattle.bpf_semantics.specs.Memory.{stack_size}
use Rattle.abs_value.specs.declared.value.Abs.{Abs}
use Rattle.abs_value.specs.declared.value.Abs.TheVariants.{Unusable, Num, Ctx, Stk}
use Rattle.abs_value.specs.declared.slot.AbsSlot.TheVariants.{Bytes}
use Rattle.abs_value.specs.declared.state.AbsState.{AbsState}
use Rattle.abs_value.specs.Numbers.{single}
use Rattle.abs_value.specs.Values.{places, join_values}
use Rattle.abs_value.specs.Stack.{stored, join_stacks}

-- by the register's number
abbrev pub register_at : List Abs → ℕ → Abs
register_at registers r = slice_index_or registers r Unusable

abbrev pub value_at : AbsState → ℕ → Abs
value_at e r = register_at e.registers r

abbrev pub value_of : AbsState → Reg → Abs
value_of e r = value_at e (number_of r)

abbrev pub operand_value : AbsState → Bits → Operand → Abs
operand_value e bits (Imm k) = Num (single (immediate bits k))
operand_value e bits (Register r) = value_of e r

abbrev pub with_value : AbsState → Reg → Abs → AbsState
with_value e r v = record e { registers = slice_set e.registers (number_of r) v }

-- an imm is unchanged
abbrev pub with_operand : AbsState → Operand → Abs → AbsState
with_operand e (Imm k) v = e
with_operand e (Register r) v = with_value e r v

abbrev pub with_stored : AbsState → ℕ → ℕ → Abs → AbsState
with_stored e place n v = record e { stack = stored e.stack place n v }

-- register by register, and slot by slot
unfoldable pub join_registers : List Abs → List Abs → List Abs
join_registers a b =
    map (λ r. join_values (register_at a r) (register_at b r)) (range_with_len 0 11)

-- the join, of each register and each slot
abbrev pub join_states : AbsState → AbsState → AbsState
join_states e f = record {
  registers = join_registers e.registers f.registers;
  stack = join_stacks e.stack f.stack;
}

-- at the start of a run R1 is the address of the context, and R10 the end of the stack
abbrev pub opening_registers : List Abs
opening_registers =
    Unusable ∷ Ctx (places 0 0) ∷ Unusable ∷ Unusable ∷ Unusable ∷ Unusable
    ∷ Unusable ∷ Unusable ∷ Unusable ∷ Unusable ∷ Stk stack_size ∷ []

-- the abstract state at the start of a run: no byte of the stack is set
abbrev pub opening_state : AbsState
opening_state = record { registers = opening_registers; stack = replicate 64 (Bytes 0) }
