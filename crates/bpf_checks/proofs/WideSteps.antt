-- Wide loads: if no rule is broken, the array and the cell that they name exist.
use Rattle.std.proofs.Common.{◌≡◌, ℕ, ◌+◌, ◌/◌, ◌%◌, ◌<◌, ◌≤◌, pos, negsuc}
use Rattle.std.proofs.Common.{Option, Some, None, false, refl, arith, inl, inr}
use Rattle.std.specs.Prelude.{IsSome, is_none, option_map, slice_get, nat_lt, ◌==◌, ◌&&◌}
use Rattle.std.proofs.lemmas.Bool.{cases_Bool}
use Rattle.bpf_insn.specs.declared.reg.Reg.{Reg}
use Rattle.bpf_insn.specs.declared.operand.WideValue.{WideValue}
use Rattle.bpf_insn.specs.declared.operand.WideValue.TheVariants as wide
use Rattle.bpf_insn.specs.declared.insn.Insn.TheVariants.{Wide}
use Rattle.bpf_insn.specs.Program.{◌>>=◌}
use Rattle.cells.specs.declared.array.CellArray.{CellArray}
use Rattle.cells.specs.declared.array.CellWidth.{CellWidth}
use Rattle.cells.specs.declared.array.CellWidth.TheVariants.{Bits32, Bits64}
use Rattle.cells.specs.Arrays.{AppShape, IsShape, IsArray, first_cell}
use Rattle.bpf_semantics.specs.Memory.{address_of, cell_address, map_start}
use Rattle.bpf_semantics.specs.State.{State}
use Rattle.bpf_semantics.specs.Calls.{wide_value}
use Rattle.bpf_semantics.specs.Step.{act}
use Rattle.abs_value.specs.declared.value.Abs.{Abs}
use Rattle.abs_value.specs.declared.value.Abs.TheVariants.{Map}
use Rattle.abs_value.specs.declared.state.AbsState.{AbsState}
use Rattle.abs_value.specs.Values.{or_unusable}
use Rattle.abs_value.specs.Covers.{Returns, Includes, IsRepresented}
use Rattle.bpf_checks.specs.Arrays.{cell_after, fixed_cell, wide_abs}
use Rattle.bpf_checks.specs.Sound.{IsSafe}
use Rattle.bpf_insn.specs.Spelling.{IsWideNumber}
use Rattle.bpf_checks.specs.Transfer.{edges}
use Rattle.bpf_checks.proofs.Given.{Given}
use Rattle.bpf_checks.proofs.Passes.{Passes, true_and}
use Rattle.bpf_checks.proofs.Outcomes.{answers, write_safe}
use Rattle.bpf_checks.proofs.CellAddresses.{array_is}

-- the loaded number, which the value represents
record Loads (g : Returns) (v : Option Abs) (o : Option ℕ) : Type 0 where
  number : ℕ
  is : o ≡ Some number
  included : Includes g (or_unusable v) number

some_is : (o : Option CellArray) (a : CellArray) → o ≡ Some a → IsSome o
some_is o a e = rw e refl

map_loads : (g : Returns) (i : ℕ) (o : Option CellArray)
    → slice_get g.shape.arrays i ≡ o → is_none (o >>= λ a. Some (Map i)) ≡ false
    → Loads g (o >>= λ a. Some (Map i)) (o >>= λ a. Some (map_start + i))
map_loads g i None e known = absurd cc
map_loads g i (Some a) e known = record {
  number = map_start + i;
  is = refl;
  included = (refl, some_is (slice_get g.shape.arrays i) a e);
}

first_at_most : (w : CellWidth) → first_cell w ≤ 4096
first_at_most Bits64 = omega arith
first_at_most Bits32 = omega arith

address_is : (base n : ℕ) → base + n / 8 < 8192 → n % 8 ≡ 0
    → address_of (cell_address base) (pos n) ≡ cell_address (base + n / 8)
address_is base n lt whole = omega (arith, lt, whole)

behind : (g : Returns) (i n : ℕ) (a : CellArray) → IsArray a → slice_get g.shape.arrays i ≡ Some a
    → is_none (option_map fixed_cell (cell_after a n)) ≡ false
    → Loads g (option_map fixed_cell (cell_after a n))
    (Some (address_of (cell_address a.base) (pos n)))
behind g i n a array e known = elim (cases_Bool ((n % 8 == 0) && nat_lt (n / 8) a.length)) [
  | inl is ↦
      let parts = true_and (n % 8 == 0) (nat_lt (n / 8) a.length) is in
      let whole : n % 8 ≡ 0 = grind (arith, parts.0) in
      let lt : n / 8 < a.length = grind (arith, parts.1) in
      let first = first_at_most a.width in
      let below : a.base + n / 8 < 8192 = omega (arith, lt, first, array.to) in
      rw is (record {
        number = address_of (cell_address a.base) (pos n);
        is = refl;
        included = (
          address_is a.base n below whole,
          (i, record { array = a; there = e; has = (omega arith, omega (arith, lt)) }),
        );
      })
  | inr isnt ↦ let none : is_none {T = Abs} None ≡ false = rw isnt at known in absurd cc
]

cell_loads : (g : Returns) (i n : ℕ) (o : Option CellArray)
    → IsShape g.shape → slice_get g.shape.arrays i ≡ o
    → is_none (o >>= λ a. option_map fixed_cell (cell_after a n)) ≡ false
    → Loads g (o >>= λ a. option_map fixed_cell (cell_after a n))
    (o >>= λ a. Some (address_of (cell_address a.base) (pos n)))
cell_loads g i n None shaped e known = absurd cc
cell_loads g i n (Some a) shaped e known = behind g i n a (array_is g.shape i a shaped e) e known

wide_loads : (given : Given) (g : Returns) (value : WideValue) → IsWideNumber value
    → IsShape g.shape → is_none (wide_abs g.shape value) ≡ false
    → Loads g (wide_abs g.shape value) (wide_value g.shape value)
wide_loads given g (wide.Number n) w shaped known = record {
  number = n;
  is = refl;
  included = given.single n w;
}
wide_loads given g (wide.Map (pos i)) w shaped known =
    map_loads g i (slice_get g.shape.arrays i) refl known
wide_loads given g (wide.Map (negsuc i)) w shaped known = absurd cc
wide_loads given g (wide.Cell (pos i) (pos n)) w shaped known =
    cell_loads g i n (slice_get g.shape.arrays i) shaped refl known
wide_loads given g (wide.Cell (pos i) (negsuc n)) w shaped known = absurd cc
wide_loads given g (wide.Cell (negsuc i) offset) w shaped known = absurd cc

pub wide_safe : (given : Given) (shape : AppShape) (e : AbsState) (s : State) (dst : Reg)
    (value : WideValue) → IsWideNumber value → IsRepresented shape e s → IsShape shape
    → Passes shape e (Wide dst value)
    → IsSafe shape (edges shape s.slot e (Wide dst value)) (act shape s (Wide dst value))
unfolding edges
wide_safe given shape e s dst value w h shaped ok =
    let loads = wide_loads given (answers h) value w shaped ok.array in
    write_safe given shape e s 2 dst (or_unusable (wide_abs shape value))
    (wide_value shape value) loads.number h ok.frame loads.is loads.included
