-- The abstract state on an edge of a comparison covers the states that take it.
use Rattle.std.proofs.Common.{◌≡◌, ◌≢◌, ℕ, zero, suc, pos, Option, Some}
use Rattle.std.proofs.Common.{Bool, true, false, refl, subst, arith, inl, inr}
use Rattle.std.specs.Prelude.{not, ◌==◌, ◌&&◌, option_map}
use Rattle.std.proofs.lemmas.Bool.{cases_Bool}
use Rattle.std.proofs.lemmas.Option.{same_Some}
use Rattle.bpf_insn.specs.declared.reg.Reg.{Reg}
use Rattle.bpf_insn.specs.declared.operand.Bits.{Bits}
use Rattle.bpf_insn.specs.declared.operand.Bits.TheVariants.{Bits64}
use Rattle.bpf_insn.specs.declared.operand.Condition.{Condition}
use Rattle.bpf_insn.specs.declared.operand.Condition.TheVariants as jump
use Rattle.bpf_insn.specs.declared.operand.Operand.{Operand}
use Rattle.bpf_insn.specs.declared.operand.Operand.TheVariants.{Imm, Register}
use Rattle.bpf_insn.specs.Table.{number_of}
use Rattle.bpf_insn.specs.Words.{immediate}
use Rattle.bpf_insn.specs.Conditions.{holds}
use Rattle.bpf_semantics.specs.State.{State}
use Rattle.bpf_semantics.specs.Reads.{register, operand}
use Rattle.abs_value.specs.declared.origin.Origin.{Origin}
use Rattle.abs_value.specs.declared.origin.Origin.TheVariants.{Found, Fixed}
use Rattle.abs_value.specs.declared.value.Abs.{Abs}
use Rattle.abs_value.specs.declared.value.Abs.TheVariants.{Unusable, Num, Ctx}
use Rattle.abs_value.specs.declared.value.Abs.TheVariants.{Stk, Map, MayCell, Cell}
use Rattle.abs_value.specs.declared.state.AbsState.{AbsState}
use Rattle.abs_value.specs.Narrowing.{is_taken}
use Rattle.abs_value.specs.Values.{is_pointer, refined}
use Rattle.abs_value.specs.States.{value_of, operand_value}
use Rattle.abs_value.specs.Lookups.{compares_with_zero, is_found, after_null_check}
use Rattle.abs_value.specs.Lookups.{with_both, is_register, refined_state}
use Rattle.abs_value.specs.Covers.{Returns, IsCell, FitsImm, Holds, Includes, CoversValue, Covers}
use Rattle.abs_value.specs.Laws.{IsLeft, CoversOn}
use Rattle.abs_value.proofs.Computes.{refined_includes}
use Rattle.abs_value.specs.Numbers.{single}
use Rattle.abs_value.proofs.ResultsHold.{single_holds}
use Rattle.abs_value.proofs.Writes.{covers_learnt, imm_word}
use Rattle.abs_value.proofs.Known.{covers_answered, included}

-- ---- edges

cell_is_set : (g : Returns) (origin : Origin) (x : ℕ) → IsCell g origin x → x ≢ 0
cell_is_set g (Found lookup) x h = h.1
cell_is_set g (Fixed n) x h = omega (arith, h.0)

null_covers : (g : Returns) (e : AbsState) (s : State) (v : Abs) (x : ℕ) (found : Bool)
    → found ≡ not (x == 0) → Covers g e s → Includes g v x
    → CoversOn g (after_null_check e v found) s
null_covers g e s (MayCell lookup) x found is h k =
    rw is (covers_answered g e s lookup.slot x k.0 h)
null_covers g e s (Cell origin) x found is h k =
    let some = cell_is_set g origin x k in
    let test : (x == 0) ≡ false = grind (arith, some) in rw (is, test) h
null_covers g e s Unusable x found is h k = h
null_covers g e s (Num a) x found is h k = h
null_covers g e s (Ctx a) x found is h k = h
null_covers g e s (Stk a) x found is h k = h
null_covers g e s (Map a) x found is h k = h

imm_is_zero : (n y : ℕ) → (n == 0) ≡ true → Some (immediate Bits64 (pos n)) ≡ Some y → y ≡ 0
imm_is_zero zero y none is = grind (arith, is)
imm_is_zero (suc n) y none is = absurd (grind (arith, none))

-- on the edge that a run takes, `is_found` is whether the left operand isn't 0
found_is : (s : State) (bits : Bits) (condition : Condition) (right : Operand) (jumps : Bool)
    (x y : ℕ) → compares_with_zero bits condition right ≡ true → operand s bits right ≡ Some y
    → is_taken jumps (holds bits condition x y) ≡ true
    → is_found condition jumps ≡ not (x == 0)
found_is s Bits64 jump.Eq (Imm (pos n)) true x y none is taken =
    let e = imm_is_zero n y none is in grind (arith, taken, e)
found_is s Bits64 jump.Eq (Imm (pos n)) false x y none is taken =
    let e = imm_is_zero n y none is in grind (arith, taken, e)
found_is s Bits64 jump.Ne (Imm (pos n)) true x y none is taken =
    let e = imm_is_zero n y none is in grind (arith, taken, e)
found_is s Bits64 jump.Ne (Imm (pos n)) false x y none is taken =
    let e = imm_is_zero n y none is in grind (arith, taken, e)
found_is s bits condition right jumps x y none is taken = absurd cc

comparison_covers : (g : Returns) (e : AbsState) (s : State) (bits : Bits) (left : Reg)
    (right : Operand) (o : Option (Abs × Abs)) (x y : ℕ)
    → Covers g e s → register s left ≡ Some x → operand s bits right ≡ Some y → IsLeft g o x y
    → CoversOn g (option_map (with_both e left right) o) s
comparison_covers g e s bits left right o x y h lx ry kept =
    let first = covers_learnt g e s bits (Register left) kept.pair.0 x h lx kept.first in
    rw kept.is (covers_learnt g _ s bits right kept.pair.1 y first ry kept.second)

operand_included : (g : Returns) (e : AbsState) (s : State) (bits : Bits) (right : Operand) (y : ℕ)
    → FitsImm right → Covers g e s → operand s bits right ≡ Some y
    → Includes g (operand_value e bits right) y
operand_included g e s bits (Imm k) y f h is =
    subst (Holds (single (immediate bits k))) (same_Some (immediate bits k) y is)
    (single_holds (immediate bits k) (imm_word bits k f))
operand_included g e s bits (Register r) y f h is = included g (value_of e r) y
    (subst (CoversValue g (value_of e r)) is (h.registers (number_of r)))

both_first : (a b : Bool) → a && b ≡ true → a ≡ true
both_first true b h = refl
both_first false b h = h

pub covers_edge : (g : Returns) (e : AbsState) (s : State) (bits : Bits) (condition : Condition)
    (left : Reg) (right : Operand) (jumps : Bool) (x y : ℕ)
    → FitsImm right → Covers g e s → register s left ≡ Some x → operand s bits right ≡ Some y
    → is_taken jumps (holds bits condition x y) ≡ true
    → CoversOn g (refined_state e bits condition left right jumps) s
covers_edge g e s bits condition left right jumps x y f h lx ry taken =
    let first = operand_included g e s bits (Register left) x tt h lx in
    let second = operand_included g e s bits right y f h ry in
    elim (cases_Bool (is_register right left)) [
      | inl same ↦ rw same h
      | inr apart ↦ elim (cases_Bool
          (compares_with_zero bits condition right && is_pointer (value_of e left))) [
            | inl null ↦
                rw (apart, null) (null_covers g e s (value_of e left) x (is_found condition jumps)
                (found_is s bits condition right jumps x y (both_first (compares_with_zero bits
                condition right) (is_pointer (value_of e left)) null) ry taken) h first)
            | inr other ↦ rw (apart, other) (comparison_covers g e s bits left right (refined bits
                condition jumps (value_of e left) (operand_value e bits right)) x y h lx ry
                (refined_includes g bits condition jumps (value_of e left)
                (operand_value e bits right) x y first second taken))
          ]
    ]
