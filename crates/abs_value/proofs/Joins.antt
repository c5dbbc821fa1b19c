-- The join of two states doesn't depend on their order.
use Rattle.std.proofs.Common.{◌≡◌, ℕ, List, [], ◌∷◌, true, false, refl, ap, ◌∙◌, arith, inl, inr}
use Rattle.std.specs.Prelude.{◌==◌, if◌then◌else◌, map, min, max}
use Rattle.std.specs.List.{range_with_len}
use Rattle.std.proofs.lemmas.Bool.{cases_Bool}
use Rattle.std.proofs.lemmas.Nat.{and_comm, or_comm}
use Rattle.abs_value.specs.declared.interval.Interval.{Interval}
use Rattle.abs_value.specs.declared.number.Number.{Number}
use Rattle.abs_value.specs.declared.places.Places.{Places}
use Rattle.abs_value.specs.declared.origin.Lookup.{Lookup}
use Rattle.abs_value.specs.declared.origin.Origin.{Origin}
use Rattle.abs_value.specs.declared.origin.Origin.TheVariants.{Found, Fixed}
use Rattle.abs_value.specs.declared.value.Abs.{Abs}
use Rattle.abs_value.specs.declared.value.Abs.TheVariants.{Unusable, Num, Ctx}
use Rattle.abs_value.specs.declared.value.Abs.TheVariants.{Stk, Map, MayCell, Cell}
use Rattle.abs_value.specs.declared.slot.AbsSlot.{AbsSlot}
use Rattle.abs_value.specs.declared.slot.AbsSlot.TheVariants.{Kept, Bytes}
use Rattle.abs_value.specs.declared.state.AbsState.{AbsState}
use Rattle.abs_value.specs.Intervals.{hull}
use Rattle.abs_value.specs.Numbers.{join_numbers}
use Rattle.abs_value.specs.Values.{place_hull, same_lookup, same_origin, join_values}
use Rattle.abs_value.specs.Stack.{mask_of, slot_at, kept_slot, join_slots, join_stacks}
use Rattle.abs_value.specs.States.{register_at, join_registers, join_states}

-- ---- values

min-comm : (a b : ℕ) → min a b ≡ min b a
min-comm a b = grind arith

max-comm : (a b : ℕ) → max a b ≡ max b a
max-comm a b = grind arith

hull-comm : (a b : Interval) → hull a b ≡ hull b a
hull-comm a b = let lo = min-comm a.lo b.lo in let hi = max-comm a.hi b.hi in rw (lo, hi) refl

numbers-comm : (a b : Number) → join_numbers a b ≡ join_numbers b a
numbers-comm a b =
    let range = hull-comm a.range b.range in
    let has = and_comm a.bits.has b.bits.has in
    let may_have = or_comm a.bits.may_have b.bits.may_have in rw (range, has, may_have) refl

place_hull-comm : (a b : Places) → place_hull a b ≡ place_hull b a
place_hull-comm a b = let lo = min-comm a.lo b.lo in let hi = max-comm a.hi b.hi in rw (lo, hi) refl

-- equal values may be taken from either side
either : (f : ℕ → Abs) (a b : ℕ)
    → (if a == b then f a else Unusable) ≡ (if b == a then f b else Unusable)
either f a b = elim (cases_Bool (a == b)) [
  | inl same ↦ let is : a ≡ b = grind (arith, same) in rw is refl
  | inr other ↦ let back : (b == a) ≡ false = grind (arith, other) in rw (other, back) refl
]

same_lookup-comm : (a b : Lookup) → same_lookup a b ≡ same_lookup b a
same_lookup-comm a b = grind arith

lookup_is : (a b : Lookup) → same_lookup a b ≡ true → a ≡ b
lookup_is a b h =
    let array : a.array ≡ b.array = grind (arith, h) in
    let slot : a.slot ≡ b.slot = grind (arith, h) in
    of-parts a.array b.array a.slot b.slot array slot
  where
    of-parts : (i j s t : ℕ) → i ≡ j → s ≡ t
        → ◌≡◌ {A = Lookup} (record { array = i; slot = s }) (record { array = j; slot = t })
    of-parts i j s t e f = rw (e, f) refl

origin_is : (a b : Origin) → same_origin a b ≡ true → a ≡ b
origin_is (Found a) (Found b) h = ap Found (lookup_is a b h)
origin_is (Fixed a) (Fixed b) h = let is : a ≡ b = grind (arith, h) in ap Fixed is
origin_is (Found a) (Fixed b) h = absurd cc
origin_is (Fixed a) (Found b) h = absurd cc

same_origin-comm : (a b : Origin) → same_origin a b ≡ same_origin b a
same_origin-comm (Found a) (Found b) = same_lookup-comm a b
same_origin-comm (Fixed a) (Fixed b) = grind arith
same_origin-comm (Found a) (Fixed b) = refl
same_origin-comm (Fixed a) (Found b) = refl

may-comm : (a b : Lookup)
    → join_values (MayCell a) (MayCell b) ≡ join_values (MayCell b) (MayCell a)
may-comm a b = elim (cases_Bool (same_lookup a b)) [
  | inl same ↦ let is = lookup_is a b same in rw is refl
  | inr other ↦
      let back : same_lookup b a ≡ false = same_lookup-comm b a ∙ other in rw (other, back) refl
]

cell-comm : (a b : Origin) → join_values (Cell a) (Cell b) ≡ join_values (Cell b) (Cell a)
cell-comm a b = elim (cases_Bool (same_origin a b)) [
  | inl same ↦ let is = origin_is a b same in rw is refl
  | inr other ↦
      let back : same_origin b a ≡ false = same_origin-comm b a ∙ other in rw (other, back) refl
]

pub values-comm : (a b : Abs) → join_values a b ≡ join_values b a
values-comm (Num a) (Num b) = ap Num (numbers-comm a b)
values-comm (Ctx a) (Ctx b) = ap Ctx (place_hull-comm a b)
values-comm (Stk a) (Stk b) = either Stk a b
values-comm (Map a) (Map b) = either Map a b
values-comm (MayCell a) (MayCell b) = may-comm a b
values-comm (Cell a) (Cell b) = cell-comm a b
values-comm Unusable (Num b) = refl
values-comm (MayCell a) (Cell b) = refl
values-comm (Cell a) (MayCell b) = refl
values-comm a b = refl

-- ---- states

slots-comm : (a b : AbsSlot) → join_slots a b ≡ join_slots b a
slots-comm (Kept a) (Kept b) = ap kept_slot (values-comm a b)
slots-comm (Kept a) (Bytes n) = ap Bytes (and_comm (mask_of (Kept a)) n)
slots-comm (Bytes m) (Kept b) = ap Bytes (and_comm m (mask_of (Kept b)))
slots-comm (Bytes m) (Bytes n) = ap Bytes (and_comm m n)

map-same : {X Y : Type 0} (f g : X → Y) (xs : List X) → ((x : X) → f x ≡ g x)
    → map f xs ≡ map g xs
map-same f g [] h = refl
map-same f g (x ∷ xs) h = let first = h x in let rest = map-same f g xs h in rw (first, rest) refl

registers-comm : (a b : List Abs) → join_registers a b ≡ join_registers b a
unfolding join_registers
registers-comm a b = map-same (λ r. join_values (register_at a r) (register_at b r))
    (λ r. join_values (register_at b r) (register_at a r)) (range_with_len 0 11)
    (λ r. values-comm (register_at a r) (register_at b r))

stacks-comm : (a b : List AbsSlot) → join_stacks a b ≡ join_stacks b a
unfolding join_stacks
stacks-comm a b = map-same (λ i. join_slots (slot_at a i) (slot_at b i))
    (λ i. join_slots (slot_at b i) (slot_at a i)) (range_with_len 0 64)
    (λ i. slots-comm (slot_at a i) (slot_at b i))

pub states-comm : (e f : AbsState) → join_states e f ≡ join_states f e
states-comm e f =
    let first = registers-comm e.registers f.registers in
    let rest = stacks-comm e.stack f.stack in rw (first, rest) refl
