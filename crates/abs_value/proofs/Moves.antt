-- If a pointer is moved within its region, the machine computes an address of the resulting places.
use Rattle.std.proofs.Common.{◌≡◌, ℕ, suc, ◌+◌, ◌-◌, ◌%◌, ◌^◌, ◌<◌, ◌≤◌, ℤ, pos, negsuc, ◌+ℤ◌}
use Rattle.std.proofs.Common.{neg_ℤ, Option, Some, None, false, refl, sym, ap, ◌∙◌, arith, inl, inr}
use Rattle.std.specs.Prelude.{nat_lt}
use Rattle.std.specs.Int.{w64, cast_signed}
use Rattle.std.proofs.lemmas.Bool.{cases_lt, cases_Bool}
use Rattle.std.proofs.lemmas.Int.{ints, to_z_pos}
use Rattle.bpf_insn.specs.declared.operand.AluOp.{AluOp}
use Rattle.bpf_insn.specs.declared.operand.AluOp.TheVariants as alu
use Rattle.bpf_insn.specs.declared.operand.Bits.TheVariants.{Bits64}
use Rattle.bpf_insn.specs.Program.{◌>>=◌}
use Rattle.bpf_insn.specs.Arithmetic.{alu_result}
use Rattle.bpf_semantics.specs.Memory.{context_size, stack_size}
use Rattle.abs_value.specs.declared.number.Number.{Number}
use Rattle.abs_value.specs.declared.places.Places.{Places}
use Rattle.abs_value.specs.Numbers.{is_single}
use Rattle.abs_value.specs.Values.{places, place_in, signed_view, distance}
use Rattle.abs_value.specs.Values.{distance_of_end, least_distance, greatest_distance}
use Rattle.abs_value.specs.Values.{moved, moved_in_context, moved_in_stack}
use Rattle.abs_value.specs.Covers.{Holds, IsInContext, IsInStack, IsWord}

-- ---- places

record IsPlace (size : ℕ) (z : ℤ) (n : ℕ) : Type 0 where
  is : z ≡ pos n
  within : n ≤ size

place_is : (size : ℕ) (z : ℤ) (n : ℕ) → place_in size z ≡ Some n → IsPlace size z n
place_is size (pos m) n h = record { is = grind (arith, ints); within = grind (arith, ints) }
place_is size (negsuc m) n h = absurd (grind (arith, ints))

moved_within : (size place : ℕ) (by : Option ℤ) (n : ℕ)
    → moved size place by ≡ Some n → n ≤ size
moved_within size place None n h = absurd cc
moved_within size place (Some z) n h = (place_is size (pos place +ℤ z) n h).within

-- ---- the machine's arithmetic on an address whose distance to a place is fixed

low_half : (m : ℕ) → m < 2 ^ 63 → cast_signed w64 m ≡ pos m
low_half m lt = to_z_pos w64 m lt

high_half : (m : ℕ) → 2 ^ 63 ≤ m → cast_signed w64 m ≡ negsuc (2 ^ 64 - suc m)
high_half m le = let test : nat_lt m (2 ^ 63) ≡ false = grind arith in rw test refl

-- a number is added by its signed view
added : (x y n place : ℕ) → y < 2 ^ 64 → place ≤ x → x + n < place + 2 ^ 64
    → pos place +ℤ cast_signed w64 y ≡ pos n → (x + y) % 2 ^ 64 + place ≡ x + n
added x y n place fits le lt is = elim (cases_lt y (2 ^ 63)) [
  | inl low ↦
      let e : pos place +ℤ pos y ≡ pos n = ap (λ z. pos place +ℤ z) (sym (low_half y low)) ∙ is in
      let f : place + y ≡ n = omega (arith, ints, e) in omega arith
  | inr high ↦
      let e : pos place +ℤ negsuc (2 ^ 64 - suc y) ≡ pos n =
      ap (λ z. pos place +ℤ z) (sym (high_half y high)) ∙ is in
      let f : place + y ≡ n + 2 ^ 64 = omega (arith, ints, e) in omega arith
]

-- and subtracted
taken : (x y n place : ℕ) → y < 2 ^ 64 → place ≤ x → x + n < place + 2 ^ 64
    → pos place +ℤ neg_ℤ (cast_signed w64 y) ≡ pos n → (x + (2 ^ 64 - y)) % 2 ^ 64 + place ≡ x + n
taken x y n place fits le lt is = elim (cases_lt y (2 ^ 63)) [
  | inl low ↦
      let e : pos place +ℤ neg_ℤ (pos y) ≡ pos n =
      ap (λ z. pos place +ℤ neg_ℤ z) (sym (low_half y low)) ∙ is in
      let f : place ≡ n + y = omega (arith, ints, e) in omega arith
  | inr high ↦
      let e : pos place +ℤ neg_ℤ (negsuc (2 ^ 64 - suc y)) ≡ pos n =
      ap (λ z. pos place +ℤ neg_ℤ z) (sym (high_half y high)) ∙ is in
      let f : place + 2 ^ 64 ≡ n + y = omega (arith, ints, e) in omega arith
]

-- a single number moves the address as far as the place
single_moves : (op : AluOp) (size x y place n : ℕ) → IsWord y → place ≤ x → x + n < place + 2 ^ 64
    → moved size place (distance op y) ≡ Some n
    → alu_result Bits64 op x y + place ≡ x + n
single_moves alu.Add size x y place n fits le lt h =
    let e : y % 2 ^ 64 ≡ y = omega arith in
    let is = (place_is size (pos place +ℤ signed_view y) n h).is in
    added x y n place fits le lt (ap (λ m. pos place +ℤ cast_signed w64 m) (sym e) ∙ is)
single_moves alu.Sub size x y place n fits le lt h =
    let e : y % 2 ^ 64 ≡ y = omega arith in
    let is = (place_is size (pos place +ℤ neg_ℤ (signed_view y)) n h).is in
    taken x y n place fits le lt (ap (λ m. pos place +ℤ neg_ℤ (cast_signed w64 m)) (sym e) ∙ is)
single_moves op size x y place n fits le lt h = absurd cc

-- ---- the stack

pub stack_moves : (op : AluOp) (place n : ℕ) (by : Number) (x y : ℕ)
    → moved_in_stack op place by ≡ Some n → IsInStack place x → IsWord y → Holds by y
    → IsInStack n (alu_result Bits64 op x y)
stack_moves op place n by x y h hx wy hy = elim (cases_Bool (is_single by)) [
  | inl one ↦
      let y_is : by.range.lo ≡ y = grind (arith, hy.between, one) in
      let there : moved stack_size place (distance op y) ≡ Some n = rw (one, y_is) at h in
      let within = moved_within stack_size place (distance op y) n there in
      let is = single_moves op stack_size x y place n wy (omega arith) (omega arith) there in
      omega (arith, is)
  | inr more ↦ let none : ◌≡◌ {A = Option ℕ} None (Some n) = rw more at h in absurd cc
]

-- ---- the context

-- both ends were moved
both_some : (o p : Option ℕ) (r : Places) → (o >>= λ lo. p >>= λ hi. Some (places lo hi)) ≡ Some r
    → (o ≡ Some r.lo) × (p ≡ Some r.hi)
both_some None p r h = absurd cc
both_some (Some lo) None r h = absurd cc
both_some (Some lo) (Some hi) r h = (grind arith, grind arith)

-- the same distance moves both ends equally far
spread : (size lo hi m k : ℕ) (by : Option ℤ)
    → moved size lo by ≡ Some m → moved size hi by ≡ Some k → hi + m ≡ lo + k
spread size lo hi m k None e f = absurd cc
spread size lo hi m k (Some (pos n)) e f =
    let g = place_is size (pos lo +ℤ pos n) m e in
    let h = place_is size (pos hi +ℤ pos n) k f in omega (arith, ints, g.is, h.is)
spread size lo hi m k (Some (negsuc n)) e f =
    let g = place_is size (pos lo +ℤ negsuc n) m e in
    let h = place_is size (pos hi +ℤ negsuc n) k f in omega (arith, ints, g.is, h.is)

context_single : (op : AluOp) (from r : Places) (x y : ℕ)
    → moved context_size from.lo (distance op y) ≡ Some r.lo
    → moved context_size from.hi (distance op y) ≡ Some r.hi
    → IsInContext from x → IsWord y → IsInContext r (alu_result Bits64 op x y)
context_single op from r x y e f hx wy =
    let wide = spread context_size from.lo from.hi r.lo r.hi (distance op y) e f in
    let within = moved_within context_size from.hi (distance op y) r.hi f in
    let is =
    single_moves op context_size x y from.lo r.lo wy (omega (arith, hx)) (omega (arith, hx)) e in
    (omega (arith, hx, is), omega (arith, hx, is))

context_range : (op : AluOp) (from r : Places) (by : Number) (x y : ℕ)
    → moved context_size from.lo (distance_of_end op by.range.lo) ≡ Some r.lo
    → moved context_size from.hi (distance_of_end op by.range.hi) ≡ Some r.hi
    → IsInContext from x → Holds by y → IsInContext r (alu_result Bits64 op x y)
context_range alu.Add from r by x y e f hx hy =
    let low = place_is context_size (pos from.lo +ℤ pos by.range.lo) r.lo e in
    let high = place_is context_size (pos from.hi +ℤ pos by.range.hi) r.hi f in
    let first : from.lo + by.range.lo ≡ r.lo = omega (arith, ints, low.is) in
    let last : from.hi + by.range.hi ≡ r.hi = omega (arith, ints, high.is) in
    let within = high.within in
    (omega (arith, hx, hy.between), omega (arith, hx, hy.between))
context_range op from r by x y e f hx hy = absurd cc

pub context_moves : (op : AluOp) (from r : Places) (by : Number) (x y : ℕ)
    → moved_in_context op from by ≡ Some r → IsInContext from x → IsWord y → Holds by y
    → IsInContext r (alu_result Bits64 op x y)
context_moves op from r by x y h hx wy hy =
    let ends = both_some (moved context_size from.lo (least_distance op by))
    (moved context_size from.hi (greatest_distance op by)) r h in
    elim (cases_Bool (is_single by)) [
      | inl one ↦
          let y_is : by.range.lo ≡ y = grind (arith, hy.between, one) in
          let y_too : by.range.hi ≡ y = grind (arith, hy.between, one) in
          context_single op from r x y (rw (one, y_is) at ends.0) (rw (one, y_too) at ends.1) hx wy
      | inr more ↦ context_range op from r by x y (rw more at ends.0) (rw more at ends.1) hx hy
    ]

-- ---- the ends stay in order

end_in_order : (op : AluOp) (from r : Places) (by : Number)
    → moved context_size from.lo (distance_of_end op by.range.lo) ≡ Some r.lo
    → moved context_size from.hi (distance_of_end op by.range.hi) ≡ Some r.hi
    → from.lo ≤ from.hi → by.range.lo ≤ by.range.hi → r.lo ≤ r.hi
end_in_order alu.Add from r by e f h k =
    let low = place_is context_size (pos from.lo +ℤ pos by.range.lo) r.lo e in
    let high = place_is context_size (pos from.hi +ℤ pos by.range.hi) r.hi f in
    omega (arith, ints, low.is, high.is, h, k)
end_in_order op from r by e f h k = absurd cc

pub context_in_order : (op : AluOp) (from r : Places) (by : Number)
    → moved_in_context op from by ≡ Some r → from.lo ≤ from.hi → by.range.lo ≤ by.range.hi
    → r.lo ≤ r.hi
context_in_order op from r by e h k =
    let ends = both_some (moved context_size from.lo (least_distance op by))
    (moved context_size from.hi (greatest_distance op by)) r e in
    elim (cases_Bool (is_single by)) [
      | inl one ↦
          let same : by.range.hi ≡ by.range.lo = grind (arith, one) in
          let wide = spread context_size from.lo from.hi r.lo r.hi (distance op by.range.lo)
          (rw one at ends.0) (rw (one, same) at ends.1) in
          omega (arith, wide, h)
      | inr more ↦ end_in_order op from r by (rw more at ends.0) (rw more at ends.1) h k
    ]
