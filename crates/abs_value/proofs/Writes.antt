-- Writing a register and joining two states keep what an abstract state represents.
use Rattle.std.proofs.Common.{◌≡◌, ℕ, ◌<◌, ◌≤◌, List, Option, Some, None, false, zero, suc, refl}
use Rattle.std.proofs.Common.{arith, inl, inr, map, replicate, true, ℤ, pos, negsuc, FitsSigned}
use Rattle.std.specs.Prelude.{slice_set, ◌==◌}
use Rattle.std.specs.Int.{w32}
use Rattle.std.specs.List.{range_with_len}
use Rattle.std.proofs.lemmas.Int.{ints}
use Rattle.std.proofs.lemmas.Bool.{cases_lt}
use Rattle.std.proofs.lemmas.List.{get_or_past}
use Rattle.std.proofs.lemmas.List.FromFn.{get_or-map-range_with_len, length-map-range_with_len}
use Rattle.bpf_insn.specs.declared.reg.Reg.{Reg}
use Rattle.bpf_insn.specs.declared.operand.Bits.{Bits}
use Rattle.bpf_insn.specs.declared.operand.Bits.TheVariants.{Bits64, Bits32}
use Rattle.bpf_insn.specs.declared.operand.Operand.{Operand}
use Rattle.bpf_insn.specs.declared.operand.Operand.TheVariants.{Imm, Register}
use Rattle.bpf_insn.specs.Table.{number_of}
use Rattle.bpf_insn.specs.Words.{immediate}
use Rattle.bpf_semantics.specs.State.{State, with_register}
use Rattle.bpf_semantics.specs.Reads.{operand}
use Rattle.bpf_semantics.specs.State as start
use Rattle.attrs.specs.Attributes.{Attributes}
use Rattle.abs_value.specs.declared.value.Abs.{Abs}
use Rattle.abs_value.specs.declared.value.Abs.TheVariants.{Unusable, Num, Ctx}
use Rattle.abs_value.specs.declared.value.Abs.TheVariants.{Stk, Map, MayCell, Cell}
use Rattle.abs_value.specs.declared.state.AbsState.{AbsState}
use Rattle.abs_value.specs.Values.{is_unusable, join_values}
use Rattle.abs_value.specs.States.{register_at, value_at, value_of, operand_value}
use Rattle.abs_value.specs.States.{with_value, with_operand, join_registers}
use Rattle.abs_value.specs.States.{join_states, opening_registers, opening_state}
use Rattle.abs_value.specs.declared.slot.AbsSlot.{AbsSlot}
use Rattle.abs_value.specs.declared.slot.AbsSlot.TheVariants.{Bytes}
use Rattle.abs_value.specs.Stack.{slot_at}
use Rattle.abs_value.proofs.Slots.{none_set, stack_left, stack_right}
use Rattle.abs_value.specs.Covers.{Returns, IsWord, FitsImm, bytes_of, Includes}
use Rattle.abs_value.specs.Covers.{CoversValue, CoversRegisters, Covers}
use Rattle.abs_value.specs.Laws.{IsThere}
use Rattle.abs_value.proofs.ResultsHold.{single_holds}
use Rattle.abs_value.proofs.Computes.{covers_some, join_left, join_right}
use Rattle.abs_value.proofs.Lists.{here, past, other, set_at}

-- ---- reading

pub value_is_there : (g : Returns) (a : Abs) (v : Option ℕ)
    → CoversValue g a v → is_unusable a ≡ false → IsThere g a v
value_is_there g Unusable v h u = absurd cc
value_is_there g (Num a) (Some x) h u = record { number = x; is = refl; included = h }
value_is_there g (Ctx a) (Some x) h u = record { number = x; is = refl; included = h }
value_is_there g (Stk a) (Some x) h u = record { number = x; is = refl; included = h }
value_is_there g (Map a) (Some x) h u = record { number = x; is = refl; included = h }
value_is_there g (MayCell a) (Some x) h u = record { number = x; is = refl; included = h }
value_is_there g (Cell a) (Some x) h u = record { number = x; is = refl; included = h }
value_is_there g (Num a) None h u = absurd h
value_is_there g (Ctx a) None h u = absurd h
value_is_there g (Stk a) None h u = absurd h
value_is_there g (Map a) None h u = absurd h
value_is_there g (MayCell a) None h u = absurd h
value_is_there g (Cell a) None h u = absurd h

pub register_is_there : (g : Returns) (e : AbsState) (s : State) (r : ℕ)
    → Covers g e s → is_unusable (value_at e r) ≡ false → IsThere g (value_at e r) (s.registers r)
register_is_there g e s r h u = value_is_there g (value_at e r) (s.registers r) (h.registers r) u

pub imm_word : (bits : Bits) (k : ℤ) → FitsSigned w32 k → IsWord (immediate bits k)
imm_word Bits64 (pos n) f = grind (arith, ints)
imm_word Bits64 (negsuc n) f = grind (arith, ints)
imm_word Bits32 (pos n) f = grind (arith, ints)
imm_word Bits32 (negsuc n) f = grind (arith, ints)

pub operand_is_there : (g : Returns) (e : AbsState) (s : State) (bits : Bits) (src : Operand)
    → FitsImm src → Covers g e s → is_unusable (operand_value e bits src) ≡ false
    → IsThere g (operand_value e bits src) (operand s bits src)
operand_is_there g e s bits (Imm k) f h u = record {
  number = immediate bits k;
  is = refl;
  included = single_holds (immediate bits k) (imm_word bits k f);
}
operand_is_there g e s bits (Register r) f h u =
    value_is_there g (value_of e r) (s.registers (number_of r)) (h.registers (number_of r)) u

-- ---- writing

write_at : (g : Returns) (values : List Abs) (s : State) (r : ℕ) (v : Abs) (x : ℕ)
    → CoversRegisters g values s.registers → Includes g v x
    → CoversRegisters g (slice_set values r v) ((with_register s r x).registers)
write_at g values s r v x h hv q = elim (set_at Abs values r v Unusable q) [
  | here same e ↦
      let test : (q == r) ≡ true = grind (arith, same) in rw (e, test) (covers_some g v x hv)
  | past e ↦ rw e tt
  | other apart e ↦ let test : (q == r) ≡ false = grind (arith, apart) in rw (e, test) (h q)
]

learnt_at : (g : Returns) (values : List Abs) (s : State) (r : ℕ) (v : Abs) (x : ℕ)
    → CoversRegisters g values s.registers → s.registers r ≡ Some x → Includes g v x
    → CoversRegisters g (slice_set values r v) s.registers
learnt_at g values s r v x h is hv q = elim (set_at Abs values r v Unusable q) [
  | here same e ↦ rw (e, same, is) (covers_some g v x hv)
  | past e ↦ rw e tt
  | other apart e ↦ rw e (h q)
]

pub covers_write : (g : Returns) (e : AbsState) (s : State) (r : Reg) (v : Abs) (x : ℕ)
    → Covers g e s → Includes g v x → Covers g (with_value e r v) (with_register s (number_of r) x)
covers_write g e s r v x h hv = record {
  registers = write_at g e.registers s (number_of r) v x h.registers hv;
  stack = h.stack;
}

pub covers_learnt : (g : Returns) (e : AbsState) (s : State) (bits : Bits) (src : Operand) (v : Abs)
    (x : ℕ) → Covers g e s → operand s bits src ≡ Some x → Includes g v x
    → Covers g (with_operand e src v) s
covers_learnt g e s bits (Imm k) v x h is hv = h
covers_learnt g e s bits (Register r) v x h is hv = record {
  registers = learnt_at g e.registers s (number_of r) v x h.registers is hv;
  stack = h.stack;
}

-- ---- joins

pub register_at-join : (a b : List Abs) (r : ℕ) → r < 11
    → register_at (join_registers a b) r ≡ join_values (register_at a r) (register_at b r)
unfolding join_registers
register_at-join a b r lt =
    get_or-map-range_with_len (λ (q : ℕ). join_values (register_at a q) (register_at b q)) 0 11 r r
    Unusable lt (omega arith)

pub register_at-join_past : (a b : List Abs) (r : ℕ) → 11 ≤ r
    → register_at (join_registers a b) r ≡ Unusable
unfolding join_registers
register_at-join_past a b r le =
    let f : ℕ → Abs = λ (q : ℕ). join_values (register_at a q) (register_at b q) in
    get_or_past (map f (range_with_len 0 11)) r Unusable
    (omega (arith, length-map-range_with_len f 0 11))

pub registers_left : (g : Returns) (a b : List Abs) (registers : ℕ → Option ℕ)
    → CoversRegisters g a registers → CoversRegisters g (join_registers a b) registers
registers_left g a b registers h r = elim (cases_lt r 11) [
  | inl lt ↦ rw (register_at-join a b r lt)
      (join_left g (register_at a r) (register_at b r) (registers r) (h r))
  | inr le ↦ rw (register_at-join_past a b r le) tt
]

pub registers_right : (g : Returns) (a b : List Abs) (registers : ℕ → Option ℕ)
    → CoversRegisters g b registers → CoversRegisters g (join_registers a b) registers
registers_right g a b registers h r = elim (cases_lt r 11) [
  | inl lt ↦ rw (register_at-join a b r lt)
      (join_right g (register_at a r) (register_at b r) (registers r) (h r))
  | inr le ↦ rw (register_at-join_past a b r le) tt
]

pub covers_join_left : (g : Returns) (e f : AbsState) (s : State) → Covers g e s
    → Covers g (join_states e f) s
covers_join_left g e f s h = record {
  registers = registers_left g e.registers f.registers s.registers h.registers;
  stack = stack_left g e.stack f.stack s.stack h.stack;
}

pub covers_join_right : (g : Returns) (e f : AbsState) (s : State) → Covers g f s
    → Covers g (join_states e f) s
covers_join_right g e f s h = record {
  registers = registers_right g e.registers f.registers s.registers h.registers;
  stack = stack_right g e.stack f.stack s.stack h.stack;
}

-- ---- the start of a run

opening_registers_cover : (g : Returns) (r : ℕ)
    → CoversValue g (register_at opening_registers r) (start.opening_registers r)
opening_registers_cover g zero = tt
opening_registers_cover g (suc zero) = (omega arith, omega arith)
opening_registers_cover g (suc (suc zero)) = tt
opening_registers_cover g (suc (suc (suc zero))) = tt
opening_registers_cover g (suc (suc (suc (suc zero)))) = tt
opening_registers_cover g (suc (suc (suc (suc (suc zero))))) = tt
opening_registers_cover g (suc (suc (suc (suc (suc (suc zero)))))) = tt
opening_registers_cover g (suc (suc (suc (suc (suc (suc (suc zero))))))) = tt
opening_registers_cover g (suc (suc (suc (suc (suc (suc (suc (suc zero)))))))) = tt
opening_registers_cover g (suc (suc (suc (suc (suc (suc (suc (suc (suc zero))))))))) = tt
opening_registers_cover g (suc (suc (suc (suc (suc (suc (suc (suc (suc (suc zero)))))))))) = refl
opening_registers_cover g (suc (suc (suc (suc (suc (suc (suc (suc (suc (suc (suc r))))))))))) = tt

pub unset : (n i : ℕ) → slot_at (replicate {A = AbsSlot} n (Bytes 0)) i ≡ Bytes 0
unset zero i = refl
unset (suc n) zero = refl
unset (suc n) (suc i) = unset n i

pub covers_opening : (g : Returns) (a : Attributes) → Covers g opening_state (start.opening a)
covers_opening g a = record {
  registers = opening_registers_cover g;
  stack = λ i. rw (unset 64 i) (none_set (bytes_of (start.opening a).stack i));
}
