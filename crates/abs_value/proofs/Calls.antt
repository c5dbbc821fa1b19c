-- The abstract state after a call covers the state after it.
use Rattle.std.proofs.Common.{◌≡◌, ℕ, zero, suc, ◌+◌, ◌-◌, ◌^◌, ◌<◌, ◌≤◌, ℤ}
use Rattle.std.proofs.Common.{List, drop, Option, Some, None}
use Rattle.std.proofs.Common.{Bool, true, false, refl, subst, arith, inl, inr}
use Rattle.std.specs.Prelude.{IfSome, option_map, slice_get, bytes_eq, nat_le, nat_lt, ◌==◌}
use Rattle.std.specs.Prelude.{if◌then◌else◌}
use Rattle.std.proofs.lemmas.Bool.{cases_Bool}
use Rattle.std.proofs.lemmas.List.{get_or-drop}
use Rattle.attrs.specs.Attributes.{Attributes, AreShort}
use Rattle.attrs.specs.Helpers.{attribute, is_text, attr_is}
use Rattle.cells.specs.Arrays.{AppShape}
use Rattle.cells.specs.declared.array.CellArray.{CellArray}
use Rattle.bpf_insn.specs.Program.{◌>>=◌}
use Rattle.bpf_semantics.specs.Memory.{cell_address, map_start}
use Rattle.bpf_semantics.specs.State.{State, HasWords, stack_bytes, with_result}
use Rattle.bpf_semantics.specs.Calls as calls
use Rattle.bpf_semantics.specs.Calls.{array_of, compared, result_by, known_result, helper_result}
use Rattle.bpf_semantics.specs.declared.helpers.Helper.{Helper}
use Rattle.bpf_semantics.specs.declared.helpers.Prototype.{Prototype}
use Rattle.bpf_semantics.specs.declared.helpers.Prototype.TheVariants.{OfMap, OfText, OfNumber}
use Rattle.bpf_semantics.specs.Helpers.{helper_of, prototype_of, given_of_number, most_given}
use Rattle.bpf_semantics.specs.Helpers.{AllKeepMost}
use Rattle.abs_value.specs.declared.value.Abs.{Abs}
use Rattle.abs_value.specs.declared.value.Abs.TheVariants.{Unusable, Num, Ctx}
use Rattle.abs_value.specs.declared.value.Abs.TheVariants.{Stk, Map, MayCell, Cell}
use Rattle.abs_value.specs.declared.state.AbsState.{AbsState}
use Rattle.abs_value.specs.Numbers.{up_to}
use Rattle.abs_value.specs.States.{register_at, value_at}
use Rattle.abs_value.specs.Lookups.{lookup, lookup_value, value_given, call_value}
use Rattle.abs_value.specs.Lookups.{called_registers, called}
use Rattle.abs_value.specs.Covers.{Returns, Answered, AreBefore, answering, Holds}
use Rattle.abs_value.specs.Covers.{Includes, CoversValue, CoversRegisters, Covers}
use Rattle.abs_value.proofs.ResultsHold.{up_to_holds}
use Rattle.abs_value.proofs.Computes.{covers_some}
use Rattle.abs_value.proofs.Known.{covers_later, is_more}

-- ---- the result of a helper, if it has one

after : {A : Type 0} (o : Option A) (f : A → Option ℕ) (P : ℕ → Type 0)
    → ((x : A) → IfSome (f x) P) → IfSome (o >>= f) P
after None f P h = tt
after (Some x) f P h = h x

any : (o : Option ℕ) → IfSome o (λ x. Unit {0})
any None = tt
any (Some x) = tt

-- 0, or the address of a cell of the array
found : (g : Returns) (slot index key : ℕ) (o : Option CellArray)
    → slice_get g.shape.arrays index ≡ o
    → IfSome (o >>= λ a. Some (if nat_lt key a.length then cell_address (a.base + key) else 0))
    (λ x. Answered (answering g slot x) (lookup index slot) x)
found g slot index key None e = tt
found g slot index key (Some a) e =
    let now : (slot == slot) ≡ true = grind arith in
    elim (cases_Bool (nat_lt key a.length)) [
      | inl lt ↦ rw (lt, now) (
        refl,
        inr (
          a.base + key,
          refl,
          record { array = a; there = e; has = (omega arith, grind (arith, lt)) },
        ),
      )
      | inr ge ↦ rw (ge, now) (refl, inl refl)
    ]

map_is : (shape : AppShape) (map index : ℕ) → map ≡ map_start + index
    → array_of shape map ≡ slice_get shape.arrays index
map_is shape map index e =
    let le : nat_le map_start map ≡ true = grind arith in
    let is : map - map_start ≡ index = omega arith in rw (le, is) refl

in_array : (g : Returns) (slot index map key : ℕ) → map ≡ map_start + index
    → IfSome (calls.lookup g.shape map key)
    (λ x. Answered (answering g slot x) (lookup index slot) x)
in_array g slot index map key e =
    rw (map_is g.shape map index e) (found g slot index key (slice_get g.shape.arrays index) refl)

looked_up : (g : Returns) (slot : ℕ) (v : Abs) (o key : Option ℕ) → CoversValue g v o
    → IfSome (o >>= λ map. key >>= λ k. calls.lookup g.shape map k)
    (λ x. Includes (answering g slot x) (lookup_value slot v) x)
looked_up g slot (Map index) None key h = tt
looked_up g slot (Map index) (Some map) key h = after key (λ k. calls.lookup g.shape map k)
    (λ x. Answered (answering g slot x) (lookup index slot) x)
    (λ k. in_array g slot index map k h.0)
looked_up g slot Unusable o key h = any (o >>= λ map. key >>= λ k. calls.lookup g.shape map k)
looked_up g slot (Num a) o key h = any (o >>= λ map. key >>= λ k. calls.lookup g.shape map k)
looked_up g slot (Ctx a) o key h = any (o >>= λ map. key >>= λ k. calls.lookup g.shape map k)
looked_up g slot (Stk a) o key h = any (o >>= λ map. key >>= λ k. calls.lookup g.shape map k)
looked_up g slot (MayCell a) o key h = any (o >>= λ map. key >>= λ k. calls.lookup g.shape map k)
looked_up g slot (Cell a) o key h = any (o >>= λ map. key >>= λ k. calls.lookup g.shape map k)

-- ---- texts

is_short : (bytes : List ℕ) (o : Option (List ℕ)) → Holds (up_to 1) (is_text bytes o)
is_short bytes None = up_to_holds 1 0 (omega arith) (omega arith)
is_short bytes (Some text) = answer (bytes_eq text bytes)
  where
    answer : (b : Bool) → Holds (up_to 1) (if b then 1 else 0)
    answer true = up_to_holds 1 1 (omega arith) (omega arith)
    answer false = up_to_holds 1 0 (omega arith) (omega arith)

compared_within : (s : State) (number address n : ℕ)
    → IfSome (compared s number address n) (λ x. Holds (up_to 1) x)
compared_within s number address n = by_test (nat_le n 64)
  where
    by_test : (b : Bool) → IfSome (if b then (stack_bytes s address n >>= λ bytes.
        Some (attr_is s.attributes number bytes)) else None) (λ x. Holds (up_to 1) x)
    by_test true =
        after (stack_bytes s address n) (λ bytes. Some (attr_is s.attributes number bytes))
        (λ x. Holds (up_to 1) x) (λ bytes. is_short bytes (attribute s.attributes number))
    by_test false = tt

small_holds : (hi x : ℕ) → hi < 2 ^ 64 → x ≤ hi → Holds (up_to hi) x
small_holds hi x lt le = up_to_holds hi x (omega (arith, lt, le)) le

-- ---- R0

given_includes : (g : Returns) (s : State) (v : Abs) (f : ℕ → ℕ) (prototype : Prototype)
    → most_given prototype < 2 ^ 64 → ((n : ℕ) → f n ≤ most_given prototype)
    → CoversValue g v (s.registers 1)
    → IfSome (result_by g.shape s f prototype)
    (λ x. Includes (answering g s.slot x) (value_given (Some prototype) s.slot v) x)
given_includes g s v f OfMap word most h =
    looked_up g s.slot v (s.registers 1) (s.registers 2) h
given_includes g s v f OfText word most h =
    after (s.registers 1) (λ number. s.registers 2 >>= λ address. s.registers 3 >>= λ k.
    compared s number address k) (λ x. Holds (up_to 1) x) (λ number.
    after (s.registers 2) (λ address. s.registers 3 >>= λ k. compared s number address k)
    (λ x. Holds (up_to 1) x) (λ address.
    after (s.registers 3) (λ k. compared s number address k) (λ x. Holds (up_to 1) x)
    (λ k. compared_within s number address k)))
given_includes g s v f (OfNumber hi) word most h =
    after (s.registers 1) (λ n. Some (f n)) (λ x. Holds (up_to hi) x)
    (λ n. small_holds hi (f n) word (most n))

call_includes : (g : Returns) (s : State) (v : Abs) (number : ℤ) → AllKeepMost s.attributes
    → CoversValue g v (s.registers 1)
    → IfSome (helper_result g.shape s number)
    (λ x. Includes (answering g s.slot x) (call_value number s.slot v) x)
call_includes g s v number most h = by_helper (helper_of number)
  where
    by_helper : (o : Option Helper)
        → IfSome (o >>= known_result g.shape s) (λ x.
        Includes (answering g s.slot x) (value_given (option_map prototype_of o) s.slot v) x)
    by_helper None = tt
    by_helper (Some helper) =
        given_includes g s v (given_of_number helper s.attributes) (prototype_of helper)
        (most helper).word (most helper).within h

-- ---- all registers

past_five : (g : Returns) (values : List Abs) (s : State) (x r q : ℕ)
    → q ≡ 6 + r → CoversRegisters g values s.registers
    → CoversValue g (register_at (drop 6 values) r) ((with_result s x).registers q)
past_five g values s x r q e h =
    let low : (q == 0) ≡ false = grind (arith, e) in
    let high : nat_le q 5 ≡ false = grind (arith, e) in
    rw (get_or-drop 6 values r Unusable, ← e, low, high) (h q)

called_at : (g : Returns) (values : List Abs) (s : State) (v : Abs) (x : ℕ)
    → CoversRegisters g values s.registers → Includes g v x
    → CoversRegisters g (called_registers values v) ((with_result s x).registers)
called_at g values s v x h k zero = covers_some g v x k
called_at g values s v x h k (suc zero) = tt
called_at g values s v x h k (suc (suc zero)) = tt
called_at g values s v x h k (suc (suc (suc zero))) = tt
called_at g values s v x h k (suc (suc (suc (suc zero)))) = tt
called_at g values s v x h k (suc (suc (suc (suc (suc zero))))) = tt
called_at g values s v x h k (suc (suc (suc (suc (suc (suc r)))))) =
    past_five g values s x r (suc (suc (suc (suc (suc (suc r)))))) (omega arith) h

-- by the law of bpf_semantics that a helper returns at most what its prototype says
pub covers_call : ((a : Attributes) → AreShort a.texts → AllKeepMost a)
    → (g : Returns) (e : AbsState) (s : State) (helper : ℤ) (x : ℕ)
    → HasWords s → AreBefore s.slot g → Covers g e s → helper_result g.shape s helper ≡ Some x
    → Covers (answering g s.slot x) (called e helper s.slot) (with_result s x)
covers_call most g e s helper x w before h is =
    let later = covers_later g (answering g s.slot x) e s (is_more g s.slot x before) h in
    let result = subst (λ (o : Option ℕ).
    IfSome o (λ y. Includes (answering g s.slot y) (call_value helper s.slot (value_at e 1)) y)) is
    (call_includes g s (value_at e 1) helper (most s.attributes w.texts) (h.registers 1)) in
    record {
      registers = called_at (answering g s.slot x) e.registers s
          (call_value helper s.slot (value_at e 1)) x later.registers result;
      stack = later.stack;
    }
