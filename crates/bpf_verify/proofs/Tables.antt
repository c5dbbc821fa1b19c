-- A program with a table is accepted: each entry knows at least the table's facts.
use Rattle.std.proofs.Common.{◌≡◌, ℕ, zero, suc, ◌/◌, ◌%◌, ◌<◌, ◌≤◌, List, [], ◌∷◌, ◌++◌}
use Rattle.std.proofs.Common.{Option, Some, None, Bool, true, false, refl, sym}
use Rattle.std.proofs.Common.{ap, subst, ◌∙◌, arith, inl, inr, length, map}
use Rattle.std.specs.Prelude.{◌==◌, if◌then◌else◌, bit_and}
use Rattle.std.specs.Int.{bit_at}
use Rattle.std.specs.List.{AllByRecursion, range_with_len}
use Rattle.std.proofs.lemmas.Bool.{cases_lt, cases_Bool}
use Rattle.std.proofs.lemmas.List.{get_or_past}
use Rattle.std.proofs.lemmas.List.FromFn.{get_or-map-range_with_len, length-map-range_with_len}
use Rattle.std.proofs.lemmas.Nat.Bits.{bit_at_and, bit_at_ones}
use Rattle.bpf_insn.specs.declared.insn.Insn.{Insn}
use Rattle.bpf_insn.specs.Program.{Program, at}
use Rattle.bpf_semantics.specs.Memory.{stack_size}
use Rattle.bpf_semantics.specs.Program.{ShapedProgram, shaped}
use Rattle.cells.specs.Arrays.{AppShape}
use Rattle.abs_value.specs.declared.interval.Interval.{Interval}
use Rattle.abs_value.specs.declared.known_bits.KnownBits.{KnownBits}
use Rattle.abs_value.specs.declared.number.Number.{Number}
use Rattle.abs_value.specs.declared.origin.Lookup.{Lookup}
use Rattle.abs_value.specs.declared.origin.Origin.{Origin}
use Rattle.abs_value.specs.declared.origin.Origin.TheVariants.{Found, Fixed}
use Rattle.abs_value.specs.declared.value.Abs.{Abs}
use Rattle.abs_value.specs.declared.value.Abs.TheVariants.{Unusable, Num, Ctx}
use Rattle.abs_value.specs.declared.value.Abs.TheVariants.{Stk, Map, MayCell, Cell}
use Rattle.abs_value.specs.declared.slot.AbsSlot.{AbsSlot}
use Rattle.abs_value.specs.declared.slot.AbsSlot.TheVariants.{Kept, Bytes}
use Rattle.abs_value.specs.declared.state.AbsState.{AbsState}
use Rattle.abs_value.specs.Intervals.{hull}
use Rattle.abs_value.specs.Known.{common}
use Rattle.abs_value.specs.Numbers.{least, most, tidy, is_empty, tidied}
use Rattle.abs_value.specs.Values.{same_lookup, same_origin, is_unusable, join_values}
use Rattle.abs_value.specs.Stack.{mask_of, slot_at, is_set, kept_slot, join_slots, join_stacks}
use Rattle.abs_value.specs.States.{register_at, value_at, join_registers}
use Rattle.abs_value.specs.States.{join_states, opening_state}
use Rattle.bpf_checks.specs.Transfer.{Edge}
use Rattle.bpf_verify.specs.Accepted.{to_place, joined, join_all, edges_of, incoming, IsAccepted}
use Rattle.bpf_verify.specs.Table.{SlotFacts, LiesIn, IsWider, HasFacts, IsTable}

-- ---- values

same_nat : (a : ℕ) → (a == a) ≡ true
same_nat a = grind arith

lookup_itself : (a : Lookup) → same_lookup a a ≡ true
lookup_itself a = rw (same_nat a.array, same_nat a.slot) refl

origin_itself : (a : Origin) → same_origin a a ≡ true
origin_itself (Found a) = lookup_itself a
origin_itself (Fixed a) = same_nat a

stk_itself : (a : ℕ) → join_values (Stk a) (Stk a) ≡ Stk a
stk_itself a = rw (same_nat a) refl

map_itself : (a : ℕ) → join_values (Map a) (Map a) ≡ Map a
map_itself a = rw (same_nat a) refl

may_itself : (a : Lookup) → join_values (MayCell a) (MayCell a) ≡ MayCell a
may_itself a = rw (lookup_itself a) refl

cell_itself : (a : Origin) → join_values (Cell a) (Cell a) ≡ Cell a
cell_itself a = rw (origin_itself a) refl

-- the join of equal values is the same value
same_join : (d a b : Abs) → join_values d d ≡ d → d ≡ a → d ≡ b → d ≡ join_values a b
same_join d a b itself h g = sym itself ∙ ap (λ (v : Abs). join_values v d) h ∙ ap (join_values a) g

some_order : (a : Number) → is_empty a ≡ false → a.range.lo ≤ a.range.hi
some_order a some = grind (arith, some)

moved_in : (a : Interval) (p : KnownBits)
    → (a.lo ≤ (tidy a p).range.lo) × ((tidy a p).range.hi ≤ a.hi)
unfolding tidy
moved_in a p = (omega arith, omega arith)

-- a result keeps the ends of its interval, or moves them in
tidied_lies : (from to : ℕ) (a : Interval) (p : KnownBits) → LiesIn from to a.lo a.hi
    → LiesIn from to (tidied a p).range.lo (tidied a p).range.hi
unfolding tidied
tidied_lies from to a p h = elim (cases_Bool (is_empty (tidy a p))) [
  | inl none ↦ rw none h
  | inr some ↦
      let order = some_order (tidy a p) some in
      let ends = moved_in a p in
      rw some (omega (arith, h.0, ends.0), order, omega (arith, h.2, ends.1))
]

wider_join : (d a b : Abs) → IsWider d a → IsWider d b → IsWider d (join_values a b)
wider_join Unusable a b h g = tt
wider_join (Num c) (Num a) (Num b) h g =
    tidied_lies (least c) (most c) (hull a.range b.range) (common a.bits b.bits)
    (omega (arith, h.0, g.0), omega (arith, h.1, g.1), omega (arith, h.2, g.2))
wider_join (Ctx c) (Ctx a) (Ctx b) h g =
    (omega (arith, h.0, g.0), omega (arith, h.1, g.1), omega (arith, h.2, g.2))
wider_join (Num c) (Num a) b h g = absurd cc
wider_join (Num c) a b h g = absurd cc
wider_join (Ctx c) (Ctx a) b h g = absurd cc
wider_join (Ctx c) a b h g = absurd cc
wider_join (Stk c) a b h g = same_join (Stk c) a b (stk_itself c) h g
wider_join (Map c) a b h g = same_join (Map c) a b (map_itself c) h g
wider_join (MayCell c) a b h g = same_join (MayCell c) a b (may_itself c) h g
wider_join (Cell c) a b h g = same_join (Cell c) a b (cell_itself c) h g

registers_join : (d : SlotFacts) (e f : AbsState)
    → length e.registers ≡ 11 → (r : ℕ) → IsWider (register_at d.registers r) (value_at e r)
    → IsWider (register_at d.registers r) (value_at f r)
    → IsWider (register_at d.registers r) (register_at (join_registers e.registers f.registers) r)
unfolding join_registers
registers_join d e f long r h g =
    let meet : ℕ → Abs = λ (q : ℕ). join_values (value_at e q) (value_at f q) in
    elim (cases_lt r 11) [
      | inl lt ↦ rw (get_or-map-range_with_len meet 0 11 r r Unusable lt (omega arith))
          (wider_join (register_at d.registers r) (value_at e r) (value_at f r) h g)
      | inr le ↦
          let past : value_at e r ≡ Unusable =
          get_or_past e.registers r Unusable (omega (arith, long)) in
          rw (get_or_past (map meet (range_with_len 0 11)) r Unusable
          (omega (arith, length-map-range_with_len meet 0 11))) (rw past at h)
    ]

registers_long : (a b : List Abs) → length (join_registers a b) ≡ 11
unfolding join_registers
registers_long a b =
    length-map-range_with_len (λ (q : ℕ). join_values (register_at a q) (register_at b q)) 0 11

-- ---- bytes of the stack

bit_is : (n : ℕ) → (n == 1) ≡ true → n ≡ 1
bit_is n h = grind (arith, h)

is_bit : (n : ℕ) → n ≡ 1 → (n == 1) ≡ true
is_bit n h = grind (arith, h)

both_bits : (m n k : ℕ) → bit_at m k ≡ 1 → bit_at n k ≡ 1 → bit_at (bit_and m n) k ≡ 1
both_bits m n k h g = let least = bit_at_and m n k in omega (arith, least, h, g)

all_bits : (k : ℕ) → k < 8 → bit_at 255 k ≡ 1
all_bits k lt = bit_at_ones 8 k lt

kept_bit : (v : Abs) (k : ℕ) → k < 8 → bit_at (mask_of (kept_slot v)) k ≡ 1
kept_bit v k lt = elim (cases_Bool (is_unusable v)) [
  | inl is ↦ rw is (all_bits k lt)
  | inr is ↦ rw is (all_bits k lt)
]

slots_join : (a b : AbsSlot) (k : ℕ) → k < 8 → bit_at (mask_of a) k ≡ 1 → bit_at (mask_of b) k ≡ 1
    → bit_at (mask_of (join_slots a b)) k ≡ 1
slots_join (Kept v) (Kept w) k lt h g = kept_bit (join_values v w) k lt
slots_join (Kept v) (Bytes n) k lt h g = both_bits 255 n k h g
slots_join (Bytes m) (Kept w) k lt h g = both_bits m 255 k h g
slots_join (Bytes m) (Bytes n) k lt h g = both_bits m n k h g

slot_at-join : (a b : List AbsSlot) (i : ℕ) → i < 64
    → slot_at (join_stacks a b) i ≡ join_slots (slot_at a i) (slot_at b i)
unfolding join_stacks
slot_at-join a b i lt =
    get_or-map-range_with_len (λ (q : ℕ). join_slots (slot_at a q) (slot_at b q)) 0 64 i i
    (Bytes 0) lt (omega arith)

stacks_wide : (a b : List AbsSlot) → length (join_stacks a b) ≡ 64
unfolding join_stacks
stacks_wide a b = length-map-range_with_len (λ (q : ℕ). join_slots (slot_at a q) (slot_at b q)) 0 64

stacks_join : (a b : List AbsSlot) (place : ℕ) → place < stack_size → is_set a place ≡ true
    → is_set b place ≡ true → is_set (join_stacks a b) place ≡ true
stacks_join a b place lt h g =
    let i : ℕ = place / 8 in
    let within : i < 64 = omega (arith, lt) in
    let k : ℕ = place % 8 in
    let few : k < 8 = omega arith in
    let bit = slots_join (slot_at a i) (slot_at b i) k few
    (bit_is (bit_at (mask_of (slot_at a i)) k) h) (bit_is (bit_at (mask_of (slot_at b i)) k) g) in
    rw (slot_at-join a b i within)
    (is_bit (bit_at (mask_of (join_slots (slot_at a i) (slot_at b i))) k) bit)

-- ---- a join knows what both sides know

facts_join : (d : SlotFacts) (e f : AbsState) → HasFacts d e → HasFacts d f
    → HasFacts d (join_states e f)
facts_join d e f h g = record {
  long = registers_long e.registers f.registers;
  wide = stacks_wide e.stack f.stack;
  each = λ r. registers_join d e f h.long r (h.each r) (g.each r);
  bytes = λ place lt set.
      stacks_join e.stack f.stack place lt (h.bytes place lt set) (g.bytes place lt set);
}

facts_joined : (d : SlotFacts) (e : AbsState) (fs : List AbsState)
    → HasFacts d e → AllByRecursion (HasFacts d) fs → HasFacts d (joined e fs)
facts_joined d e [] h all = h
facts_joined d e (f ∷ fs) h all =
    facts_joined d (join_states e f) fs (facts_join d e f h all.0) all.1

facts_all : (d : SlotFacts) (e : AbsState) (es : List AbsState)
    → AllByRecursion (HasFacts d) es → join_all es ≡ Some e → HasFacts d e
facts_all d e [] all is = absurd cc
facts_all d e (f ∷ fs) all is =
    let same : joined f fs ≡ e = cc in subst (HasFacts d) same (facts_joined d f fs all.0 all.1)

-- ---- the entries of each slot

all_append : {A : Type 0} (P : A → Type 0) (xs ys : List A)
    → AllByRecursion P xs → AllByRecursion P ys → AllByRecursion P (xs ++ ys)
all_append P [] ys h g = g
all_append P (x ∷ xs) ys h g = (h.0, all_append P xs ys h.1 g)

module _ (code : Program) (shape : AppShape) (table : ℕ → SlotFacts)
    (is_table : IsTable code shape table) where
  abbrev p : ShapedProgram
  p = shaped code shape

  abbrev HasEdgeFacts : Edge → Type 0
  HasEdgeFacts d = HasFacts (table d.target) d.entry

  all_if : (m : ℕ) (d : Edge) (es : List AbsState) (b : Bool)
      → (d.target == m) ≡ b → HasEdgeFacts d → AllByRecursion (HasFacts (table m)) es
      → AllByRecursion (HasFacts (table m)) (if b then d.entry ∷ es else es)
  all_if m d es true is h all =
      let same : d.target ≡ m = grind (arith, is) in
      (subst (λ (n : ℕ). HasFacts (table n) d.entry) same h, all)
  all_if m d es false is h all = all

  all_to_place : (m : ℕ) (ds : List Edge) → AllByRecursion HasEdgeFacts ds
      → AllByRecursion (HasFacts (table m)) (to_place m ds)
  all_to_place m [] all = tt
  all_to_place m (d ∷ ds) all =
      all_if m d (to_place m ds) (d.target == m) refl all.0 (all_to_place m ds all.1)

  all_edges : (k : ℕ) (es : List AbsState) (o : Option AbsState) (w : Option Insn)
      → AllByRecursion (HasFacts (table k)) es → join_all es ≡ o → at code k ≡ w
      → AllByRecursion HasEdgeFacts (edges_of shape k o w)
  all_edges k es None w all is at_is = tt
  all_edges k es (Some e) None all is at_is = tt
  all_edges k es (Some e) (Some i) all is at_is =
      is_table.leads k e i at_is (facts_all (table k) e es all is)

  opening_if : (m : ℕ) (b : Bool) → (m == 0) ≡ b
      → AllByRecursion (HasFacts (table m)) (if b then opening_state ∷ [] else [])
  opening_if m true is =
      let same : 0 ≡ m = grind (arith, is) in
      (subst (λ (n : ℕ). HasFacts (table n) opening_state) same is_table.start, tt)
  opening_if m false is = tt

  all_incoming : (k m : ℕ) → AllByRecursion (HasFacts (table m)) (incoming p k m)
  unfolding incoming
  all_incoming zero m = opening_if m (m == 0) refl
  all_incoming (suc k) m = all_append (HasFacts (table m)) (incoming p k m)
      (to_place m (edges_of shape k (join_all (incoming p k k)) (at code k))) (all_incoming k m)
      (all_to_place m (edges_of shape k (join_all (incoming p k k)) (at code k)) (all_edges k
      (incoming p k k) (join_all (incoming p k k)) (at code k) (all_incoming k k) refl refl))

  pub table_accepted : IsAccepted code shape
  table_accepted s e i entry_is at_is = is_table.passes s e i at_is
      (facts_all (table s) e (incoming p s s) (all_incoming s s) entry_is)
