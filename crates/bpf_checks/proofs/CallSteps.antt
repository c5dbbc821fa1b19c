-- Calls: if no rule is broken, the helper exists, and the abstract R0 represents its result.
use Rattle.std.proofs.Common.{◌≡◌, ℕ, ◌+◌, ◌-◌, ◌≤◌, min, ℤ, pos, ◌+ℤ◌, List}
use Rattle.std.proofs.Common.{Option, Some, None, Bool, true, false, refl, ap, arith}
use Rattle.std.specs.Prelude.{IsSome, option_map, slice_get, nat_lt, nat_le, ◌==◌, ◌&&◌, ◌||◌}
use Rattle.std.specs.Prelude.{if◌then◌else◌}
use Rattle.std.specs.List.{list_any}
use Rattle.std.proofs.lemmas.Bool.{leb-true}
use Rattle.attrs.specs.Helpers.{attr_is}
use Rattle.bpf_insn.specs.declared.reg.Reg.TheVariants.{R1, R2, R3}
use Rattle.bpf_insn.specs.declared.insn.Insn.TheVariants.{Call}
use Rattle.bpf_insn.specs.Program.{◌>>=◌}
use Rattle.cells.specs.declared.array.CellArray.{CellArray}
use Rattle.cells.specs.Arrays.{AppShape}
use Rattle.bpf_semantics.specs.Memory.{cell_address, map_start, stack_size}
use Rattle.bpf_semantics.specs.Memory.{stack_start, is_in_stack, set_bytes}
use Rattle.bpf_semantics.specs.State.{State, HasWords, with_result}
use Rattle.bpf_semantics.specs.Reads.{only}
use Rattle.bpf_semantics.specs.Calls.{array_of, lookup, compared}
use Rattle.bpf_semantics.specs.Calls.{result_by, known_result, helper_result}
use Rattle.bpf_semantics.specs.declared.helpers.Helper.{Helper}
use Rattle.bpf_semantics.specs.declared.helpers.Prototype.{Prototype}
use Rattle.bpf_semantics.specs.declared.helpers.Prototype.TheVariants.{OfMap, OfText, OfNumber}
use Rattle.bpf_semantics.specs.Helpers.{helper_of, prototype_of, given_of_number}
use Rattle.bpf_semantics.specs.Helpers.{called_prototype}
use Rattle.bpf_semantics.specs.Outcome.{moved_to}
use Rattle.bpf_semantics.specs.Step.{act}
use Rattle.abs_value.specs.declared.value.Abs.{Abs}
use Rattle.abs_value.specs.declared.value.Abs.TheVariants.{Unusable, Num, Ctx}
use Rattle.abs_value.specs.declared.value.Abs.TheVariants.{Stk, Map, MayCell, Cell}
use Rattle.abs_value.specs.declared.state.AbsState.{AbsState}
use Rattle.abs_value.specs.Numbers.{is_single, least}
use Rattle.abs_value.specs.Values.{is_unusable, is_number}
use Rattle.abs_value.specs.Stack.{has_unset}
use Rattle.abs_value.specs.States.{value_of}
use Rattle.abs_value.specs.Lookups.{called}
use Rattle.abs_value.specs.Covers.{Returns, Includes, answering, IsRepresented}
use Rattle.bpf_checks.specs.Memory.{text_unset}
use Rattle.bpf_checks.specs.Reads.{arguments}
use Rattle.bpf_checks.specs.Rules.{compares_unset, is_map, is_stack_text, takes}
use Rattle.bpf_checks.specs.Sound.{IsSafe}
use Rattle.bpf_checks.specs.Transfer.{edges}
use Rattle.bpf_checks.proofs.Given.{Given}
use Rattle.bpf_checks.proofs.Passes.{Passes, true_and, not_false}
use Rattle.bpf_checks.proofs.Passes.{one_usable, two_usable, three_usable}
use Rattle.bpf_checks.proofs.Outcomes.{answers, leads, moved_covers}
use Rattle.bpf_checks.proofs.CellSteps.{there}

-- ---- a result

record Gives (o : Option ℕ) : Type 0 where
  result : ℕ
  is : o ≡ Some result

gives : (o : Option ℕ) → IsSome o → Gives o
gives None h = absurd cc
gives (Some x) h = record { result = x; is = refl }

-- ---- lookup

is_there : (o : Option CellArray) (key : ℕ) → IsSome o
    → IsSome (o >>= λ a. Some (if nat_lt key a.length then cell_address (a.base + key) else 0))
is_there None key h = absurd cc
is_there (Some a) key h = refl

map_is : (shape : AppShape) (map index : ℕ) → map ≡ map_start + index
    → array_of shape map ≡ slice_get shape.arrays index
map_is shape map index e =
    let le : nat_le map_start map ≡ true = grind arith in
    let is : map - map_start ≡ index = omega arith in rw (le, is) refl

looked_up : (g : Returns) (v : Abs) (map key : ℕ) → is_map v ≡ true → Includes g v map
    → IsSome (lookup g.shape map key)
looked_up g (Map index) map key is h =
    rw (map_is g.shape map index h.0) (is_there (slice_get g.shape.arrays index) key h.1)
looked_up g Unusable map key is h = absurd cc
looked_up g (Num n) map key is h = absurd cc
looked_up g (Ctx from) map key is h = absurd cc
looked_up g (Stk place) map key is h = absurd cc
looked_up g (MayCell call) map key is h = absurd cc
looked_up g (Cell origin) map key is h = absurd cc

-- ---- texts

bytes_there : (s : State) (o : Option (List ℕ)) (number : ℕ) → IsSome o
    → IsSome (o >>= λ bytes. Some (attr_is s.attributes number bytes))
bytes_there s None number h = absurd cc
bytes_there s (Some bytes) number h = refl

in_stack : (place n : ℕ) → place + n ≤ stack_size → is_in_stack (stack_start + place) n ≡ true
in_stack place n within =
    let from : nat_le stack_start (stack_start + place) ≡ true = grind arith in
    let to : nat_le (stack_start + place + n) (stack_start + stack_size) ≡ true =
    grind (arith, within) in
    rw (from, to) refl

or_true : (a b : Bool) → b ≡ true → (a || b) ≡ true
or_true true b h = refl
or_true false b h = h

text_at : (given : Given) (shape : AppShape) (e : AbsState) (s : State) (place n number : ℕ)
    (h : IsRepresented shape e s) → HasWords s → n ≤ 64 → place + n ≤ stack_size
    → has_unset e.stack (pos place) n ≡ false
    → IsSome (compared s number (stack_start + place) n)
text_at given shape e s place n number h words short within set =
    let few : nat_le n 64 ≡ true = grind (arith, short) in
    let inside : is_in_stack (stack_start + place) n ≡ true = in_stack place n within in
    let either : ((n == 0) || is_in_stack (stack_start + place) n) ≡ true =
    or_true (n == 0) (is_in_stack (stack_start + place) n) inside in
    let start : stack_start + place - stack_start ≡ place = omega arith in
    rw (few, either, start) (bytes_there s (set_bytes s.stack place n) number
    (given.bytes (answers h) e s place n within words h.covers set))

text_there : (given : Given) (shape : AppShape) (e : AbsState) (s : State) (v w : Abs)
    (number address n : ℕ) (h : IsRepresented shape e s) → HasWords s → is_stack_text v w ≡ true
    → text_unset e v w ≡ false → Includes (answers h) v address → Includes (answers h) w n
    → IsSome (compared s number address n)
text_there given shape e s (Stk place) (Num m) number address n h words is set at length =
    let parts = true_and (is_single m && nat_le (least m) 64)
    (nat_le (place + least m) stack_size) is in
    let more = true_and (is_single m) (nat_le (least m) 64) parts.0 in
    let one : n ≡ m.range.lo = grind (arith, more.0, length.between) in
    let short : n ≤ 64 = grind (arith, more.1, one) in
    let up : place + m.range.lo ≤ stack_size = leb-true (place + m.range.lo) stack_size parts.1 in
    let within : place + n ≤ stack_size = omega (arith, up, one) in
    let unset : has_unset e.stack (pos place +ℤ pos 0) (min m.range.lo stack_size) ≡ false =
    rw more.0 at set in
    let none : place + 0 ≡ place = omega arith in
    let start : pos place +ℤ pos 0 ≡ pos place = ap pos none in
    let read : min m.range.lo stack_size ≡ n = omega (arith, one, short) in
    rw at (text_at given shape e s place n number h words short within (rw (start, read) at unset))
text_there given shape e s v w number address n h words is set at length = absurd cc

-- ---- each prototype

-- the conditions on a helper's arguments
record Asked (e : AbsState) (prototype : Option Prototype) : Type 0 where
  usable : (list_any (λ r. is_unusable (value_of e r)) (arguments prototype)
      || compares_unset e prototype) ≡ false
  taken : takes e prototype ≡ true

lookup_gives : (given : Given) (shape : AppShape) (e : AbsState) (s : State)
    (h : IsRepresented shape e s) → Asked e (Some OfMap)
    → IsSome (s.registers 1 >>= λ map. s.registers 2 >>= λ key. lookup shape map key)
lookup_gives given shape e s h asked =
    let usable =
    two_usable (is_unusable (value_of e R1)) (is_unusable (value_of e R2)) false asked.usable in
    let map = there given shape e s R1 h usable.0 in
    let key = there given shape e s R2 h usable.1 in
    let taken = true_and (is_map (value_of e R1)) (is_number (value_of e R2)) asked.taken in
    rw (map.is, key.is)
    (looked_up (answers h) (value_of e R1) map.number key.number taken.0 map.included)

text_gives : (given : Given) (shape : AppShape) (e : AbsState) (s : State)
    (h : IsRepresented shape e s) → HasWords s → Asked e (Some OfText)
    → IsSome (s.registers 1 >>= λ number. s.registers 2 >>= λ address. s.registers 3 >>= λ k.
    compared s number address k)
text_gives given shape e s h words asked =
    let usable = three_usable (is_unusable (value_of e R1)) (is_unusable (value_of e R2))
    (is_unusable (value_of e R3)) (text_unset e (value_of e R2) (value_of e R3)) asked.usable in
    let number = there given shape e s R1 h usable.0 in
    let address = there given shape e s R2 h usable.1 in
    let count = there given shape e s R3 h usable.2 in
    let taken =
    true_and (is_number (value_of e R1)) (is_stack_text (value_of e R2) (value_of e R3))
    asked.taken in
    rw (number.is, address.is, count.is)
    (text_there given shape e s (value_of e R2) (value_of e R3) number.number address.number
    count.number h words taken.1 usable.3 address.included count.included)

only_gives : (given : Given) (shape : AppShape) (e : AbsState) (s : State) (f : ℕ
    → ℕ) (h : IsRepresented shape e s) → (is_unusable (value_of e R1) || false || false) ≡ false
    → IsSome (only f (s.registers 1))
only_gives given shape e s f h u =
    let usable = one_usable (is_unusable (value_of e R1)) false u in
    let number = there given shape e s R1 h usable.0 in
    rw number.is refl

result_gives : (given : Given) (shape : AppShape) (e : AbsState) (s : State) (f : ℕ → ℕ)
    (prototype : Prototype) (h : IsRepresented shape e s) → HasWords s → Asked e (Some prototype)
    → IsSome (result_by shape s f prototype)
result_gives given shape e s f OfMap h words asked = lookup_gives given shape e s h asked
result_gives given shape e s f OfText h words asked = text_gives given shape e s h words asked
result_gives given shape e s f (OfNumber most) h words asked =
    only_gives given shape e s f h asked.usable

helper_gives : (given : Given) (shape : AppShape) (e : AbsState) (s : State) (number : ℤ)
    (h : IsRepresented shape e s) → HasWords s → Asked e (called_prototype number)
    → IsSome (helper_result shape s number)
helper_gives given shape e s number h words asked = by_helper (helper_of number) asked
  where
    by_helper : (o : Option Helper) → Asked e (option_map prototype_of o)
        → IsSome (o >>= known_result shape s)
    by_helper None asked = let none = asked.taken in absurd cc
    by_helper (Some helper) asked =
        result_gives given shape e s (given_of_number helper s.attributes) (prototype_of helper) h
        words asked

-- ---- the step

pub call_safe : (given : Given) (shape : AppShape) (e : AbsState) (s : State) (helper : ℤ)
    → IsRepresented shape e s → HasWords s → Passes shape e (Call helper)
    → IsSafe shape (edges shape s.slot e (Call helper)) (act shape s (Call helper))
unfolding edges
call_safe given shape e s helper h words ok =
    let asked : Asked e (called_prototype helper) =
    record {
      usable = ok.usable;
      taken = not_false (takes e (called_prototype helper)) ok.helper;
    } in
    let given_result =
    gives (helper_result shape s helper) (helper_gives given shape e s helper h words asked) in
    let x = given_result.result in
    let after = given.calls (answers h) e s helper x words h.before h.covers given_result.is in
    let represents : IsRepresented shape (called e helper s.slot)
    (moved_to (with_result s x) (s.slot + 1)) = record {
      by = (answering (answers h) s.slot x).by;
      before = given.answering (answers h) s.slot (s.slot + 1) x (omega arith) h.before;
      covers = moved_covers (answering (answers h) s.slot x) (called e helper s.slot)
          (with_result s x) (s.slot + 1) after;
    } in
    rw given_result.is
    (leads shape (called e helper s.slot) (moved_to (with_result s x) (s.slot + 1)) represents)
