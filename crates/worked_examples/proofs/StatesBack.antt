-- If a state names only calls before a slot, so does each operation's result.
use Rattle.std.proofs.Common.{◌≡◌, ℕ, zero, suc, ◌+◌, ◌/◌, ◌%◌, ◌<◌, ◌≤◌, ℤ, List, Option}
use Rattle.std.proofs.Common.{Some, None, Bool, true, false, refl, sym, ap, subst, arith, inl, inr}
use Rattle.std.proofs.Common.{map, replicate, length, get_or, set, get_or-set_other}
use Rattle.std.specs.Prelude.{IfSome, option_map, nat_le, ◌==◌, ◌&&◌, if◌then◌else◌}
use Rattle.std.specs.List.{range_with_len}
use Rattle.std.proofs.Math.ListN.{get_or-map}
use Rattle.std.proofs.lemmas.Bool.{cases_lt, cases_eq}
use Rattle.std.proofs.lemmas.Grind.{get_or-set_at}
use Rattle.std.proofs.lemmas.List.{set_past, get_or_past, get_or-drop}
use Rattle.std.proofs.lemmas.List.FromFn.{get_or-map-range_with_len, length-map-range_with_len}
use Rattle.bpf_insn.specs.declared.operand.Bits.{Bits}
use Rattle.bpf_insn.specs.declared.operand.Condition.{Condition}
use Rattle.bpf_insn.specs.declared.operand.LoadKind.{LoadKind}
use Rattle.bpf_insn.specs.declared.operand.LoadKind.TheVariants.{Double}
use Rattle.bpf_insn.specs.declared.operand.Operand.{Operand}
use Rattle.bpf_insn.specs.declared.operand.Operand.TheVariants.{Imm, Register}
use Rattle.bpf_insn.specs.declared.reg.Reg.{Reg}
use Rattle.bpf_insn.specs.Table.{number_of}
use Rattle.abs_value.specs.declared.slot.AbsSlot.{AbsSlot}
use Rattle.abs_value.specs.declared.slot.AbsSlot.TheVariants.{Kept, Bytes}
use Rattle.abs_value.specs.declared.state.AbsState.{AbsState}
use Rattle.abs_value.specs.declared.value.Abs.{Abs}
use Rattle.abs_value.specs.declared.value.Abs.TheVariants.{Unusable, Num, Ctx}
use Rattle.abs_value.specs.declared.value.Abs.TheVariants.{Stk, Map, MayCell, Cell}
use Rattle.abs_value.specs.Values.{is_pointer, loaded_value, join_values, refined}
use Rattle.abs_value.specs.Stack.{slot_at, is_whole_slot, with_set, first_bits}
use Rattle.abs_value.specs.Stack.{next_bits, with_written, stored, kept_or}
use Rattle.abs_value.specs.Stack.{loaded_from, kept_slot, join_slots, join_stacks}
use Rattle.abs_value.specs.States.{register_at, value_at, value_of, operand_value}
use Rattle.abs_value.specs.States.{with_value, with_operand, with_stored, opening_registers}
use Rattle.abs_value.specs.States.{opening_state, join_registers, join_states}
use Rattle.abs_value.specs.Lookups.{with_answer, slot_with_answer, state_with_answer}
use Rattle.abs_value.specs.Lookups.{after_null_check, with_both, after_comparison}
use Rattle.abs_value.specs.Lookups.{compares_with_zero, is_found, is_register}
use Rattle.abs_value.specs.Lookups.{refined_state, call_value, called_registers, called}
use Rattle.worked_examples.specs.LooksBack.{LooksBack, SlotLooksBack, StateLooksBack}
use Rattle.worked_examples.proofs.ValuesBack as value
use Rattle.worked_examples.proofs.ValuesBack.{BothLookBack}

RegistersLookBack : ℕ → List Abs → Type 0
RegistersLookBack s values = (r : ℕ) → LooksBack s (register_at values r)

SlotsLookBack : ℕ → List AbsSlot → Type 0
SlotsLookBack s slots = (i : ℕ) → SlotLooksBack s (slot_at slots i)

-- ---- lists

-- what holds for the new element and for the old ones holds for each element of the new list
set_keeps : {X : Type 0} (P : X → Type 0) (xs : List X) (i : ℕ) (v d : X) (j : ℕ) → P v
    → P (get_or xs j d) → P (get_or (set xs i v) j d)
set_keeps P xs i v d j new old = elim (cases_eq j i) [
  | inl same ↦ elim (cases_lt i (length xs)) [
    | inl lt ↦ subst P (sym (get_or-set_at xs i j v d same lt)) new
    | inr past ↦ subst P (sym (ap (λ ys. get_or ys j d) (set_past xs i v past))) old
  ]
  | inr apart ↦ subst P (sym (get_or-set_other xs i j v d apart)) old
]

-- for a list that is made index by index
made_keeps : {X : Type 0} (P : X → Type 0) (f : ℕ → X) (n : ℕ) (d : X) (j : ℕ) → P d
    → ((i : ℕ) → P (f i)) → P (get_or (map f (range_with_len 0 n)) j d)
made_keeps P f n d j none all = elim (cases_lt j n) [
  | inl lt ↦ subst P (sym (get_or-map-range_with_len f 0 n j j d lt (omega arith))) (all j)
  | inr past ↦
      let long = length-map-range_with_len f 0 n in
      subst P (sym (get_or_past (map f (range_with_len 0 n)) j d (omega (arith, long, past)))) none
]

-- ---- registers

slot_later : (s t : ℕ) (slot : AbsSlot) → s ≤ t → SlotLooksBack s slot → SlotLooksBack t slot
slot_later s t (Kept v) le h = value.later s t v le h
slot_later s t (Bytes mask) le h = tt

pub later : (s t : ℕ) (e : AbsState) → s ≤ t → StateLooksBack s e → StateLooksBack t e
later s t e le h = record {
  registers = λ r. value.later s t (value_at e r) le (h.registers r);
  stack = λ i. slot_later s t (slot_at e.stack i) le (h.stack i);
}

pub written : (s : ℕ) (e : AbsState) (r : Reg) (v : Abs) → StateLooksBack s e → LooksBack s v
    → StateLooksBack s (with_value e r v)
written s e r v h k = record {
  registers =
      λ q. set_keeps (LooksBack s) e.registers (number_of r) v Unusable q k (h.registers q);
  stack = h.stack;
}

operand_written : (s : ℕ) (e : AbsState) (src : Operand) (v : Abs) → StateLooksBack s e
    → LooksBack s v → StateLooksBack s (with_operand e src v)
operand_written s e (Imm k) v h i = h
operand_written s e (Register r) v h i = written s e r v h i

pub operand_back : (s : ℕ) (e : AbsState) (bits : Bits) (src : Operand) → StateLooksBack s e
    → LooksBack s (operand_value e bits src)
operand_back s e bits (Imm k) h = tt
operand_back s e bits (Register r) h = h.registers (number_of r)

-- ---- the stack

slot_set : (s : ℕ) (slots : List AbsSlot) (i : ℕ) (slot : AbsSlot) → SlotsLookBack s slots
    → SlotLooksBack s slot → SlotsLookBack s (set slots i slot)
unfolding SlotsLookBack
slot_set s slots i slot h k j = set_keeps (SlotLooksBack s) slots i slot (Bytes 0) j k (h j)

one_of : (s : ℕ) (b : Bool) (xs ys : List AbsSlot) → SlotsLookBack s xs → SlotsLookBack s ys
    → SlotsLookBack s (if b then xs else ys)
one_of s true xs ys h k = h
one_of s false xs ys h k = k

written_slots : (s : ℕ) (slots : List AbsSlot) (place n : ℕ) → SlotsLookBack s slots
    → SlotsLookBack s (with_written slots place n)
written_slots s slots place n h =
    let first = with_set slots (place / 8) (first_bits place n) in
    let one : SlotsLookBack s first = slot_set s slots (place / 8) _ h tt in
    one_of s (nat_le (place % 8 + n) 8) first
    (with_set first (place / 8 + 1) (next_bits place n)) one
    (slot_set s first (place / 8 + 1) _ one tt)

stored_slots : (s : ℕ) (slots : List AbsSlot) (place n : ℕ) (v : Abs) → SlotsLookBack s slots
    → LooksBack s v → SlotsLookBack s (stored slots place n v)
stored_slots s slots place n v h k = one_of s (is_whole_slot place n)
    (set slots (place / 8) (Kept v)) (with_written slots place n)
    (slot_set s slots (place / 8) (Kept v) h k) (written_slots s slots place n h)

pub stored_back : (s : ℕ) (e : AbsState) (place n : ℕ) (v : Abs) → StateLooksBack s e
    → LooksBack s v → StateLooksBack s (with_stored e place n v)
unfolding SlotsLookBack
stored_back s e place n v h k =
    record { registers = h.registers; stack = stored_slots s e.stack place n v h.stack k }

kept_back : (s : ℕ) (slot : AbsSlot) (v : Abs) → SlotLooksBack s slot → LooksBack s v
    → LooksBack s (kept_or slot v)
kept_back s (Kept w) v h k = h
kept_back s (Bytes mask) v h k = k

pub load_back : (s : ℕ) (e : AbsState) (place : ℕ) (kind : LoadKind) → StateLooksBack s e
    → LooksBack s (loaded_from e.stack place kind)
load_back s e place Double h = by_test (place % 8 == 0)
  where
    by_test : (b : Bool) → LooksBack s (if b then kept_or (slot_at e.stack (place / 8))
        (loaded_value Double) else loaded_value Double)
    by_test true = kept_back s (slot_at e.stack (place / 8)) (loaded_value Double)
        (h.stack (place / 8)) (value.loaded Double s)
    by_test false = value.loaded Double s
load_back s e place kind h = value.loaded kind s

-- ---- joins, and the start of a run

kept_slot_back : (s : ℕ) (v : Abs) → LooksBack s v → SlotLooksBack s (kept_slot v)
kept_slot_back s Unusable h = tt
kept_slot_back s (Num a) h = h
kept_slot_back s (Ctx a) h = h
kept_slot_back s (Stk a) h = h
kept_slot_back s (Map a) h = h
kept_slot_back s (MayCell a) h = h
kept_slot_back s (Cell a) h = h

slots_joined : (s : ℕ) (a b : AbsSlot) → SlotLooksBack s a → SlotLooksBack s b
    → SlotLooksBack s (join_slots a b)
slots_joined s (Kept v) (Kept w) h k =
    kept_slot_back s (join_values v w) (value.joined_back s v w h k)
slots_joined s (Kept v) (Bytes n) h k = tt
slots_joined s (Bytes m) (Kept w) h k = tt
slots_joined s (Bytes m) (Bytes n) h k = tt

pub joined_back : (s : ℕ) (e f : AbsState) → StateLooksBack s e → StateLooksBack s f
    → StateLooksBack s (join_states e f)
unfolding join_registers join_stacks
joined_back s e f h k = record {
  registers = λ r. made_keeps (LooksBack s) (λ q. join_values (value_at e q) (value_at f q)) 11
      Unusable r tt
      (λ q. value.joined_back s (value_at e q) (value_at f q) (h.registers q) (k.registers q));
  stack = λ i. made_keeps (SlotLooksBack s)
      (λ q. join_slots (slot_at e.stack q) (slot_at f.stack q)) 64 (Bytes 0) i tt
      (λ q. slots_joined s (slot_at e.stack q) (slot_at f.stack q) (h.stack q) (k.stack q));
}

opening_at : (s r : ℕ) → LooksBack s (register_at opening_registers r)
opening_at s zero = tt
opening_at s (suc zero) = tt
opening_at s (suc (suc zero)) = tt
opening_at s (suc (suc (suc zero))) = tt
opening_at s (suc (suc (suc (suc zero)))) = tt
opening_at s (suc (suc (suc (suc (suc zero))))) = tt
opening_at s (suc (suc (suc (suc (suc (suc zero)))))) = tt
opening_at s (suc (suc (suc (suc (suc (suc (suc zero))))))) = tt
opening_at s (suc (suc (suc (suc (suc (suc (suc (suc zero)))))))) = tt
opening_at s (suc (suc (suc (suc (suc (suc (suc (suc (suc zero))))))))) = tt
opening_at s (suc (suc (suc (suc (suc (suc (suc (suc (suc (suc zero)))))))))) = tt
opening_at s (suc (suc (suc (suc (suc (suc (suc (suc (suc (suc (suc r))))))))))) = tt

unset : (n i : ℕ) → slot_at (replicate {A = AbsSlot} n (Bytes 0)) i ≡ Bytes 0
unset zero i = refl
unset (suc n) zero = refl
unset (suc n) (suc i) = unset n i

pub opening_back : (s : ℕ) → StateLooksBack s opening_state
opening_back s = record { registers = opening_at s; stack = λ i. rw (unset 64 i) tt }

-- ---- edges of a comparison

slot_learnt : (s call : ℕ) (found : Bool) (slot : AbsSlot) → SlotLooksBack s slot
    → SlotLooksBack s (slot_with_answer call found slot)
slot_learnt s call found (Kept v) h = value.learnt_back s call found v h
slot_learnt s call found (Bytes mask) h = h

learnt_back : (s : ℕ) (e : AbsState) (call : ℕ) (found : Bool) → StateLooksBack s e
    → StateLooksBack s (state_with_answer e call found)
learnt_back s e call found h = record {
  registers = λ r. rw (get_or-map (with_answer call found) e.registers r Unusable)
      (value.learnt_back s call found (value_at e r) (h.registers r));
  stack = λ i. rw (get_or-map (slot_with_answer call found) e.stack i (Bytes 0))
      (slot_learnt s call found (slot_at e.stack i) (h.stack i));
}

chosen_if : (s : ℕ) (b : Bool) (o q : Option AbsState) → IfSome o (StateLooksBack s)
    → IfSome q (StateLooksBack s) → IfSome (if b then o else q) (StateLooksBack s)
chosen_if s true o q h k = h
chosen_if s false o q h k = k

null_check_back : (s : ℕ) (e : AbsState) (v : Abs) (found : Bool) → StateLooksBack s e
    → IfSome (after_null_check e v found) (StateLooksBack s)
null_check_back s e (MayCell call) found h = learnt_back s e call.slot found h
null_check_back s e (Cell origin) found h = chosen_if s found (Some e) None h tt
null_check_back s e v found h = h

both_back : (s : ℕ) (e : AbsState) (left : Reg) (right : Operand) (o : Option (Abs × Abs))
    → StateLooksBack s e → BothLookBack s o
    → IfSome (option_map (with_both e left right) o) (StateLooksBack s)
both_back s e left right None h k = tt
both_back s e left right (Some p) h k =
    operand_written s (with_value e left p.0) right p.1 (written s e left p.0 h k.0) k.1

pub refined_back : (s : ℕ) (e : AbsState) (bits : Bits) (condition : Condition) (left : Reg)
    (right : Operand) (jumps : Bool) → StateLooksBack s e
    → IfSome (refined_state e bits condition left right jumps) (StateLooksBack s)
refined_back s e bits condition left right jumps h =
    let first = value_of e left in
    let second = operand_value e bits right in
    let values = value.refined_back s bits condition jumps first second
    (h.registers (number_of left)) (operand_back s e bits right h) in
    chosen_if s (is_register right left) (Some e) _ h
    (chosen_if s (compares_with_zero bits condition right && is_pointer first)
    (after_null_check e first (is_found condition jumps))
    (after_comparison e bits condition left right jumps)
    (null_check_back s e first (is_found condition jumps) h)
    (both_back s e left right (refined bits condition jumps first second) h values))

-- ---- calls

called_at : (s : ℕ) (values : List Abs) (v : Abs) → RegistersLookBack s values → LooksBack s v
    → RegistersLookBack s (called_registers values v)
unfolding RegistersLookBack
called_at s values v h k zero = k
called_at s values v h k (suc zero) = tt
called_at s values v h k (suc (suc zero)) = tt
called_at s values v h k (suc (suc (suc zero))) = tt
called_at s values v h k (suc (suc (suc (suc zero)))) = tt
called_at s values v h k (suc (suc (suc (suc (suc zero))))) = tt
called_at s values v h k (suc (suc (suc (suc (suc (suc r)))))) =
    rw (get_or-drop 6 values r Unusable) (h (6 + r))

pub called_back : (s call : ℕ) (e : AbsState) (helper : ℤ) → call < s → StateLooksBack s e
    → StateLooksBack s (called e helper call)
unfolding RegistersLookBack
called_back s call e helper lt h = record {
  registers = called_at s e.registers (call_value helper call (value_at e 1)) h.registers
      (value.call_back s call helper (value_at e 1) lt);
  stack = h.stack;
}
