-- If values name only calls before a slot, so does each computed value.
use Rattle.std.proofs.Common.{ℕ, ℤ, pos, negsuc, ◌<◌, ◌≤◌}
use Rattle.std.proofs.Common.{Option, Some, None, Bool, true, false, arith}
use Rattle.std.specs.Prelude.{IfSome, option_map, slice_get, ◌==◌, if◌then◌else◌}
use Rattle.bpf_insn.specs.Program.{◌>>=◌}
use Rattle.bpf_insn.specs.declared.operand.AluOp.{AluOp}
use Rattle.bpf_insn.specs.declared.operand.AluOp.TheVariants.{Sub}
use Rattle.bpf_insn.specs.declared.operand.Bits.{Bits}
use Rattle.bpf_insn.specs.declared.operand.Bits.TheVariants.{Bits64, Bits32}
use Rattle.bpf_insn.specs.declared.operand.ByteOrder.{ByteOrder}
use Rattle.bpf_insn.specs.declared.operand.Condition.{Condition}
use Rattle.bpf_insn.specs.declared.operand.EndSize.{EndSize}
use Rattle.bpf_insn.specs.declared.operand.Extension.{Extension}
use Rattle.bpf_insn.specs.declared.operand.LoadKind.{LoadKind}
use Rattle.bpf_insn.specs.declared.operand.LoadKind.TheVariants as load
use Rattle.bpf_insn.specs.declared.operand.WideValue.{WideValue}
use Rattle.bpf_insn.specs.declared.operand.WideValue.TheVariants as wide
use Rattle.cells.specs.Arrays.{AppShape}
use Rattle.cells.specs.declared.array.CellArray.{CellArray}
use Rattle.bpf_semantics.specs.declared.helpers.Prototype.{Prototype}
use Rattle.bpf_semantics.specs.declared.helpers.Prototype.TheVariants.{OfMap, OfText, OfNumber}
use Rattle.bpf_semantics.specs.Helpers.{called_prototype}
use Rattle.abs_value.specs.declared.origin.Lookup.{Lookup}
use Rattle.abs_value.specs.declared.origin.Origin.TheVariants.{Found}
use Rattle.abs_value.specs.declared.places.Places.{Places}
use Rattle.abs_value.specs.declared.value.Abs.{Abs}
use Rattle.abs_value.specs.declared.value.Abs.TheVariants.{Unusable, Num, Ctx}
use Rattle.abs_value.specs.declared.value.Abs.TheVariants.{Stk, Map, MayCell, Cell}
use Rattle.abs_value.specs.Numbers.{single}
use Rattle.abs_value.specs.Narrowing.{NumberPair, narrowed}
use Rattle.abs_value.specs.Values.{moved_in_context, moved_in_stack, or_unusable}
use Rattle.abs_value.specs.Values.{alu_value, copied_value, negated_value, extended_value}
use Rattle.abs_value.specs.Values.{reordered_value, loaded_value, refined, numbers}
use Rattle.abs_value.specs.Values.{same_lookup, is_found_by, same_origin, join_values}
use Rattle.abs_value.specs.Lookups.{answer_of, with_answer, lookup_value, value_given, call_value}
use Rattle.bpf_checks.specs.Arrays.{cell_after, fixed_cell, wide_abs}
use Rattle.worked_examples.specs.LooksBack.{LooksBack, OfNoLookup}

pub later : (s t : ℕ) (v : Abs) → s ≤ t → LooksBack s v → LooksBack t v
later s t (MayCell call) le h = omega (arith, le, h)
later s t (Cell (Found call)) le h = omega (arith, le, h)
later s t v le h = tt

one_of : (s : ℕ) (b : Bool) (v w : Abs) → LooksBack s v → LooksBack s w
    → LooksBack s (if b then v else w)
one_of s true v w h k = h
one_of s false v w h k = k

-- ---- the results of instructions

in_context : (s : ℕ) (o : Option Places) → LooksBack s (or_unusable (option_map Ctx o))
in_context s None = tt
in_context s (Some from) = tt

in_stack : (s : ℕ) (o : Option ℕ) → LooksBack s (or_unusable (option_map Stk o))
in_stack s None = tt
in_stack s (Some place) = tt

pub results : (w : Bits) (op : AluOp) (a b : Abs) → OfNoLookup (alu_value w op a b)
results w op (Num a) (Num b) s = tt
results Bits64 op (Ctx from) (Num by) s = in_context s (moved_in_context op from by)
results Bits64 op (Stk place) (Num by) s = in_stack s (moved_in_stack op place by)
results Bits64 op a b s = tt
results Bits32 op a b s = tt

pub negated : (w : Bits) (a : Abs) → OfNoLookup (negated_value w a)
negated w a = results w Sub (Num (single 0)) a

pub extended : (e : Extension) (a : Abs) → OfNoLookup (extended_value e a)
extended e (Num a) s = tt
extended e a s = tt

pub reordered : (o : ByteOrder) (size : EndSize) (a : Abs) → OfNoLookup (reordered_value o size a)
reordered o size (Num a) s = tt
reordered o size a s = tt

pub loaded : (kind : LoadKind) → OfNoLookup (loaded_value kind)
loaded load.SignedByte s = tt
loaded load.SignedHalf s = tt
loaded load.SignedWord s = tt
loaded kind s = tt

pub copied : (s : ℕ) (w : Bits) (a : Abs) → LooksBack s a → LooksBack s (copied_value w a)
copied s w (Num a) h = tt
copied s Bits64 a h = h
copied s Bits32 a h = tt

-- ---- wide loads

a_map : (s i : ℕ) (o : Option CellArray) → LooksBack s (or_unusable (o >>= λ a. Some (Map i)))
a_map s i None = tt
a_map s i (Some a) = tt

a_cell : (s : ℕ) (o : Option ℕ) → LooksBack s (or_unusable (option_map fixed_cell o))
a_cell s None = tt
a_cell s (Some cell) = tt

cell_of : (s n : ℕ) (o : Option CellArray)
    → LooksBack s (or_unusable (o >>= λ a. option_map fixed_cell (cell_after a n)))
cell_of s n None = tt
cell_of s n (Some a) = a_cell s (cell_after a n)

pub wide_loads : (shape : AppShape) (value : WideValue)
    → OfNoLookup (or_unusable (wide_abs shape value))
wide_loads shape (wide.Number n) s = tt
wide_loads shape (wide.Map (pos i)) s = a_map s i (slice_get shape.arrays i)
wide_loads shape (wide.Map (negsuc i)) s = tt
wide_loads shape (wide.Cell (pos i) (pos n)) s = cell_of s n (slice_get shape.arrays i)
wide_loads shape (wide.Cell (pos i) (negsuc n)) s = tt
wide_loads shape (wide.Cell (negsuc i) n) s = tt

-- ---- joins

pub joined_back : (s : ℕ) (a b : Abs) → LooksBack s a → LooksBack s b
    → LooksBack s (join_values a b)
joined_back s (Num a) (Num b) h k = tt
joined_back s (Ctx a) (Ctx b) h k = tt
joined_back s (Stk a) (Stk b) h k = one_of s (a == b) (Stk a) Unusable tt tt
joined_back s (Map a) (Map b) h k = one_of s (a == b) (Map a) Unusable tt tt
joined_back s (MayCell a) (MayCell b) h k =
    one_of s (same_lookup a b) (MayCell a) Unusable h tt
joined_back s (MayCell a) (Cell b) h k = one_of s (is_found_by b a) (MayCell a) Unusable h tt
joined_back s (Cell a) (MayCell b) h k = one_of s (is_found_by a b) (MayCell b) Unusable k tt
joined_back s (Cell a) (Cell b) h k = one_of s (same_origin a b) (Cell a) Unusable h tt
joined_back s a b h k = tt

-- ---- comparisons

-- the two narrowed values on an edge
abbrev pub BothLookBack : ℕ → Option (Abs × Abs) → Type 0
BothLookBack s o = IfSome o (λ p. LooksBack s p.0 × LooksBack s p.1)

numbers_look : (s : ℕ) (o : Option NumberPair) → BothLookBack s (option_map numbers o)
numbers_look s None = tt
numbers_look s (Some p) = (tt, tt)

pub refined_back : (s : ℕ) (w : Bits) (c : Condition) (jumps : Bool) (a b : Abs) → LooksBack s a
    → LooksBack s b → BothLookBack s (refined w c jumps a b)
refined_back s w c jumps (Num a) (Num b) h k = numbers_look s (narrowed w c jumps a b)
refined_back s w c jumps a b h k = (h, k)

-- ---- lookups and calls

answer_back : (s : ℕ) (call : Lookup) (found : Bool) → call.slot < s
    → LooksBack s (answer_of call found)
answer_back s call true h = h
answer_back s call false h = tt

pub learnt_back : (s call : ℕ) (found : Bool) (v : Abs) → LooksBack s v
    → LooksBack s (with_answer call found v)
learnt_back s call found (MayCell a) h = one_of s (a.slot == call) (answer_of a found) (MayCell a)
    (answer_back s a found h) h
learnt_back s call found (Cell (Found a)) h =
    one_of s (a.slot == call) (answer_of a found) (Cell (Found a)) (answer_back s a found h) h
learnt_back s call found v h = h

lookup_back : (s call : ℕ) (v : Abs) → call < s → LooksBack s (lookup_value call v)
lookup_back s call (Map index) lt = lt
lookup_back s call v lt = tt

given_back : (s call : ℕ) (prototype : Option Prototype) (v : Abs) → call < s
    → LooksBack s (value_given prototype call v)
given_back s call None v lt = tt
given_back s call (Some OfMap) v lt = lookup_back s call v lt
given_back s call (Some OfText) v lt = tt
given_back s call (Some (OfNumber most)) v lt = tt

pub call_back : (s call : ℕ) (helper : ℤ) (v : Abs) → call < s
    → LooksBack s (call_value helper call v)
call_back s call helper v lt = given_back s call (called_prototype helper) v lt
