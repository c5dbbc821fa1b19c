-- The results of abstract operations include the machine's results.
use Rattle.std.proofs.Common.{◌≡◌, ℕ, ◌-◌, ◌%◌, ◌^◌, ◌≤◌, Option, Some, None}
use Rattle.std.proofs.Common.{Bool, true, refl, arith, inl, inr, false, sym, subst}
use Rattle.std.specs.Prelude.{option_map, if◌then◌else◌, ◌==◌}
use Rattle.std.specs.Int.{swap_bytes}
use mir.Val.{bits}
use Rattle.std.proofs.lemmas.Bool.{cases_Bool}
use Rattle.std.proofs.lemmas.Int.{ints}
use Rattle.bpf_insn.specs.declared.operand.AluOp.{AluOp}
use Rattle.bpf_insn.specs.declared.operand.AluOp.TheVariants as alu
use Rattle.bpf_insn.specs.declared.operand.Bits.{Bits}
use Rattle.bpf_insn.specs.declared.operand.Bits.TheVariants.{Bits64, Bits32}
use Rattle.bpf_insn.specs.declared.operand.ByteOrder.{ByteOrder}
use Rattle.bpf_insn.specs.declared.operand.ByteOrder.TheVariants as order
use Rattle.bpf_insn.specs.declared.operand.Condition.{Condition}
use Rattle.bpf_insn.specs.declared.operand.EndSize.{EndSize}
use Rattle.bpf_insn.specs.declared.operand.EndSize.TheVariants as end
use Rattle.bpf_insn.specs.declared.operand.Extension.{Extension}
use Rattle.bpf_insn.specs.declared.operand.Extension.TheVariants as extend
use Rattle.bpf_insn.specs.Table.{extension_class}
use Rattle.bpf_insn.specs.Words.{word}
use Rattle.bpf_insn.specs.Arithmetic.{FitsWidth, alu_result, negated}
use Rattle.bpf_insn.specs.Arithmetic.{extended, end_width, reordered}
use Rattle.bpf_insn.specs.Conditions.{holds}
use Rattle.abs_value.specs.declared.number.Number.{Number}
use Rattle.abs_value.specs.declared.places.Places.{Places}
use Rattle.abs_value.specs.declared.origin.Lookup.{Lookup}
use Rattle.abs_value.specs.declared.origin.Origin.{Origin}
use Rattle.abs_value.specs.declared.origin.Origin.TheVariants.{Found, Fixed}
use Rattle.abs_value.specs.declared.value.Abs.{Abs}
use Rattle.abs_value.specs.declared.value.Abs.TheVariants.{Unusable, Num, Ctx}
use Rattle.abs_value.specs.declared.value.Abs.TheVariants.{Stk, Map, MayCell, Cell}
use Rattle.abs_value.specs.Intervals.{greatest}
use Rattle.abs_value.specs.Numbers.{single, is_single, full, up_to}
use Rattle.abs_value.specs.Narrowing.{NumberPair, is_taken, narrowed}
use Rattle.abs_value.specs.Values.{moved_in_context, moved_in_stack, or_unusable}
use Rattle.abs_value.specs.Values.{alu_value, copied_value, negated_value}
use Rattle.abs_value.specs.Values.{extended_value, reordered_value, numbers, refined}
use Rattle.abs_value.specs.Values.{same_lookup, is_found_by, same_origin, join_values}
use Rattle.abs_value.specs.Laws.{IsLeft}
use Rattle.abs_value.specs.Covers.{Returns, Answered, IsCell, Holds, Includes, CoversValue, IsWord}
use Rattle.abs_value.proofs.ResultsHold.{single_holds, up_to_holds}
use Rattle.abs_value.proofs.ResultsHold.{full_number_holds, copied_number_holds}
use Rattle.abs_value.proofs.ResultsHold.{alu_number_holds, join_first, join_second}
use Rattle.abs_value.proofs.Moves.{context_moves, stack_moves}
use Rattle.abs_value.proofs.Edges.{Keeps, narrowed_keeps}

-- ---- operations on two values

context_includes : (g : Returns) (op : AluOp) (from : Places) (by : Number) (x y : ℕ)
    (o : Option Places) → moved_in_context op from by ≡ o → Includes g (Ctx from) x → IsWord y
    → Holds by y
    → Includes g (or_unusable (option_map Ctx o)) (alu_result Bits64 op x y)
context_includes g op from by x y None e hx wy hy = tt
context_includes g op from by x y (Some r) e hx wy hy = context_moves op from r by x y e hx wy hy

stack_includes : (g : Returns) (op : AluOp) (place : ℕ) (by : Number) (x y : ℕ) (o : Option ℕ)
    → moved_in_stack op place by ≡ o → Includes g (Stk place) x → IsWord y → Holds by y
    → Includes g (or_unusable (option_map Stk o)) (alu_result Bits64 op x y)
stack_includes g op place by x y None e hx wy hy = tt
stack_includes g op place by x y (Some n) e hx wy hy = stack_moves op place n by x y e hx wy hy

pub alu_includes : FitsWidth → (g : Returns) (w : Bits) (op : AluOp) (a b : Abs) (x y : ℕ)
    → IsWord x → IsWord y → Includes g a x → Includes g b y
    → Includes g (alu_value w op a b) (alu_result w op x y)
alu_includes fit g w op (Num a) (Num b) x y wx wy hx hy = alu_number_holds fit w op a b x y hx hy
alu_includes fit g Bits64 op (Ctx from) (Num by) x y wx wy hx hy =
    context_includes g op from by x y (moved_in_context op from by) refl hx wy hy
alu_includes fit g Bits64 op (Stk place) (Num by) x y wx wy hx hy =
    stack_includes g op place by x y (moved_in_stack op place by) refl hx wy hy
alu_includes fit g Bits64 op a b x y wx wy hx hy = tt
alu_includes fit g Bits32 op a b x y wx wy hx hy = tt

-- ---- operations on one value

pub copied_includes : (g : Returns) (w : Bits) (a : Abs) (x : ℕ) → Includes g a x
    → Includes g (copied_value w a) (word w x)
copied_includes g w (Num a) x h = copied_number_holds w a x h
copied_includes g Bits64 a x h = h
copied_includes g Bits32 a x h = tt

pub negated_includes : FitsWidth → (g : Returns) (w : Bits) (a : Abs) (x : ℕ) → IsWord x
    → Includes g a x
    → Includes g (negated_value w a) (negated w x)
negated_includes fit g w a x wx h =
    alu_includes fit g w alu.Sub (Num (single 0)) a 0 x (omega arith) wx
    (single_holds 0 (omega arith)) h

extended_is_of : (e : Extension) (x : ℕ) → extended e x ≤ greatest (extension_class e)
extended_is_of extend.Byte64 x = grind (arith, ints)
extended_is_of extend.Half64 x = grind (arith, ints)
extended_is_of extend.Word64 x = grind (arith, ints)
extended_is_of extend.Byte32 x = grind (arith, ints)
extended_is_of extend.Half32 x = grind (arith, ints)

by_single : (a : Number) (x : ℕ) (f : ℕ → ℕ) (other : Number) → Holds a x → Holds other (f x)
    → Holds (if is_single a then single (f a.range.lo) else other) (f x)
by_single a x f other h rest = elim (cases_Bool (is_single a)) [
  | inl is ↦
      let e : a.range.lo ≡ x = grind (arith, h.between, is) in
      rw (is, e) (single_holds (f x) rest.word)
  | inr is ↦ rw is rest
]

pub extended_includes : (g : Returns) (e : Extension) (a : Abs) (x : ℕ) → Includes g a x
    → Includes g (extended_value e a) (extended e x)
extended_includes g e (Num a) x h = by_single a x (extended e) (full (extension_class e)) h
    (full_number_holds (extension_class e) (extended e x) (extended_is_of e x))
extended_includes g e a x h = tt

swapped_below : (size : EndSize) (x : ℕ)
    → swap_bytes (end_width size) x ≤ 2 ^ bits (end_width size) - 1
swapped_below end.Half x = omega arith
swapped_below end.Word x = omega arith
swapped_below end.Double x = omega arith

reordered_below : (o : ByteOrder) (size : EndSize) (x : ℕ)
    → reordered o size x ≤ 2 ^ bits (end_width size) - 1
reordered_below order.Little end.Half x = omega arith
reordered_below order.Little end.Word x = omega arith
reordered_below order.Little end.Double x = omega arith
reordered_below order.Big size x = swapped_below size (x % 2 ^ bits (end_width size))
reordered_below order.Swap size x = swapped_below size (x % 2 ^ bits (end_width size))

end_below : (size : EndSize) (n : ℕ) → n ≤ 2 ^ bits (end_width size) - 1 → IsWord n
end_below end.Half n h = omega (arith, h)
end_below end.Word n h = omega (arith, h)
end_below end.Double n h = omega (arith, h)

pub reordered_includes : (g : Returns) (o : ByteOrder) (size : EndSize) (a : Abs) (x : ℕ)
    → Includes g a x → Includes g (reordered_value o size a) (reordered o size x)
reordered_includes g o size (Num a) x h = by_single a x (reordered o size)
    (up_to (2 ^ bits (end_width size) - 1)) h (up_to_holds (2 ^ bits (end_width size) - 1)
    (reordered o size x) (end_below size (reordered o size x) (reordered_below o size x))
    (reordered_below o size x))
reordered_includes g o size a x h = tt

-- ---- joins

kept_if : (g : Returns) (t : Bool) (v : Abs) (x : ℕ) → (t ≡ true → Includes g v x)
    → Includes g (if t then v else Unusable) x
kept_if g true v x h = h refl
kept_if g false v x h = tt

same_is : (a b : Lookup) → same_lookup a b ≡ true → a ≡ b
same_is a b t = grind (arith, t)

-- all lookups by one call have the same result
answered : (g : Returns) (a b : Lookup) (x : ℕ) → same_lookup a b ≡ true → Answered g a x
    → Answered g b x
answered g a b x t h = subst (λ (k : Lookup). Answered g k x) (same_is a b t) h

answered_back : (g : Returns) (a b : Lookup) (x : ℕ) → same_lookup a b ≡ true → Answered g b x
    → Answered g a x
answered_back g a b x t h = subst (λ (k : Lookup). Answered g k x) (sym (same_is a b t)) h

found_answered : (g : Returns) (o : Origin) (a : Lookup) (x : ℕ)
    → is_found_by o a ≡ true → IsCell g o x → Answered g a x
found_answered g (Found b) a x t h = answered g b a x t h.0
found_answered g (Fixed n) a x t h = absurd cc

same_cell : (g : Returns) (o p : Origin) (x : ℕ) → same_origin o p ≡ true → IsCell g p x
    → IsCell g o x
same_cell g (Found a) (Found b) x t h = (answered_back g a b x t h.0, h.1)
same_cell g (Fixed m) (Fixed n) x t h = grind (arith, t, h)
same_cell g (Found a) (Fixed n) x t h = absurd cc
same_cell g (Fixed n) (Found a) x t h = absurd cc

pub included_left : (g : Returns) (a b : Abs) (x : ℕ) → Includes g a x
    → Includes g (join_values a b) x
included_left g (Num a) (Num b) x h = join_first a b x h
included_left g (Ctx a) (Ctx b) x h = (omega (arith, h), omega (arith, h))
included_left g (Stk a) (Stk b) x h = kept_if g (a == b) (Stk a) x (λ t. h)
included_left g (Map a) (Map b) x h = kept_if g (a == b) (Map a) x (λ t. h)
included_left g (MayCell a) (MayCell b) x h = kept_if g (same_lookup a b) (MayCell a) x (λ t. h)
included_left g (MayCell a) (Cell b) x h = kept_if g (is_found_by b a) (MayCell a) x (λ t. h)
included_left g (Cell a) (MayCell b) x h =
    kept_if g (is_found_by a b) (MayCell b) x (λ t. found_answered g a b x t h)
included_left g (Cell a) (Cell b) x h = kept_if g (same_origin a b) (Cell a) x (λ t. h)
included_left g a b x h = tt

pub included_right : (g : Returns) (a b : Abs) (x : ℕ) → Includes g b x
    → Includes g (join_values a b) x
included_right g (Num a) (Num b) x h = join_second a b x h
included_right g (Ctx a) (Ctx b) x h = (omega (arith, h), omega (arith, h))
included_right g (Stk a) (Stk b) x h = kept_if g (a == b) (Stk a) x (λ t. grind (arith, t, h))
included_right g (Map a) (Map b) x h = kept_if g (a == b) (Map a) x (λ t. grind (arith, t, h))
included_right g (MayCell a) (MayCell b) x h =
    kept_if g (same_lookup a b) (MayCell a) x (λ t. answered_back g a b x t h)
included_right g (MayCell a) (Cell b) x h =
    kept_if g (is_found_by b a) (MayCell a) x (λ t. found_answered g b a x t h)
included_right g (Cell a) (MayCell b) x h = kept_if g (is_found_by a b) (MayCell b) x (λ t. h)
included_right g (Cell a) (Cell b) x h =
    kept_if g (same_origin a b) (Cell a) x (λ t. same_cell g a b x t h)
included_right g a b x h = tt

pub covers_some : (g : Returns) (a : Abs) (x : ℕ) → Includes g a x → CoversValue g a (Some x)
covers_some g Unusable x h = tt
covers_some g (Num a) x h = h
covers_some g (Ctx a) x h = h
covers_some g (Stk a) x h = h
covers_some g (Map a) x h = h
covers_some g (MayCell a) x h = h
covers_some g (Cell a) x h = h

pub join_left : (g : Returns) (a b : Abs) (v : Option ℕ) → CoversValue g a v
    → CoversValue g (join_values a b) v
join_left g Unusable b v h = tt
join_left g (Num a) b None h = absurd h
join_left g (Ctx a) b None h = absurd h
join_left g (Stk a) b None h = absurd h
join_left g (Map a) b None h = absurd h
join_left g (MayCell a) b None h = absurd h
join_left g (Cell a) b None h = absurd h
join_left g (Num a) b (Some x) h =
    covers_some g (join_values (Num a) b) x (included_left g (Num a) b x h)
join_left g (Ctx a) b (Some x) h =
    covers_some g (join_values (Ctx a) b) x (included_left g (Ctx a) b x h)
join_left g (Stk a) b (Some x) h =
    covers_some g (join_values (Stk a) b) x (included_left g (Stk a) b x h)
join_left g (Cell a) b (Some x) h =
    covers_some g (join_values (Cell a) b) x (included_left g (Cell a) b x h)
join_left g (MayCell a) b (Some x) h =
    covers_some g (join_values (MayCell a) b) x (included_left g (MayCell a) b x h)
join_left g (Map a) b (Some x) h =
    covers_some g (join_values (Map a) b) x (included_left g (Map a) b x h)

unusable_right : (a : Abs) → join_values a Unusable ≡ Unusable
unusable_right Unusable = refl
unusable_right (Num a) = refl
unusable_right a = refl

pub join_right : (g : Returns) (a b : Abs) (v : Option ℕ) → CoversValue g b v
    → CoversValue g (join_values a b) v
join_right g a Unusable v h = rw (unusable_right a) tt
join_right g a (Num b) None h = absurd h
join_right g a (Ctx b) None h = absurd h
join_right g a (Stk b) None h = absurd h
join_right g a (Map b) None h = absurd h
join_right g a (MayCell b) None h = absurd h
join_right g a (Cell b) None h = absurd h
join_right g a (Num b) (Some x) h =
    covers_some g (join_values a (Num b)) x (included_right g a (Num b) x h)
join_right g a (Ctx b) (Some x) h =
    covers_some g (join_values a (Ctx b)) x (included_right g a (Ctx b) x h)
join_right g a (Stk b) (Some x) h =
    covers_some g (join_values a (Stk b)) x (included_right g a (Stk b) x h)
join_right g a (Map b) (Some x) h =
    covers_some g (join_values a (Map b)) x (included_right g a (Map b) x h)
join_right g a (MayCell b) (Some x) h =
    covers_some g (join_values a (MayCell b)) x (included_right g a (MayCell b) x h)
join_right g a (Cell b) (Some x) h =
    covers_some g (join_values a (Cell b)) x (included_right g a (Cell b) x h)

-- ---- edges

left_includes : (g : Returns) (o : Option NumberPair) (x y : ℕ) → Keeps o x y
    → IsLeft g (option_map numbers o) x y
left_includes g o x y k = record {
  pair = (Num k.pair.0, Num k.pair.1);
  is = rw k.is refl;
  first = k.first;
  second = k.second;
}

pub refined_includes : (g : Returns) (w : Bits) (c : Condition) (jumps : Bool) (a b : Abs) (x y : ℕ)
    → Includes g a x → Includes g b y → is_taken jumps (holds w c x y) ≡ true
    → IsLeft g (refined w c jumps a b) x y
refined_includes g w c jumps (Num a) (Num b) x y hx hy taken =
    left_includes g (narrowed w c jumps a b) x y (narrowed_keeps w c jumps a b x y hx hy taken)
refined_includes g w c jumps a b x y hx hy taken =
    record { pair = (a, b); is = refl; first = hx; second = hy }
