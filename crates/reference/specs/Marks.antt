-- The state of the interpreter: registers and bytes, with a mark if unset.
use Rattle.std.specs.Prelude.{ℕ, List, Option, None, slice_index_or}
use Rattle.std.specs.Arc.{arc_value}
use Rattle.bpf_semantics.specs.State.{State, with_bytes}
use Rattle.reference.specs.declared.state.Interpreter.{Interpreter}

-- the mark at an index; past the end nothing is set
abbrev pub mark_at : List (Option ℕ) → ℕ → Option ℕ
mark_at marks k = slice_index_or marks k None

-- the interpreter's state in the semantics; an unset register or byte is None
unfoldable pub state_of : Interpreter → State
state_of m = record {
  slot = m.slot;
  registers = mark_at m.registers;
  stack = mark_at m.stack;
  attributes = arc_value m.attrs;
  count = m.count;
}

-- the state with the low bytes of a number on its stack
abbrev pub with_stack : State → ℕ → ℕ → ℕ → State
with_stack s place count value = record s { stack = with_bytes s.stack place count value }
