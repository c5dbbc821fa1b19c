-- Loads from and stores to the context and the stack lead to a represented state.
use Rattle.std.proofs.Common.{◌≡◌, ℕ, suc, ◌+◌, ◌-◌, ◌<◌, ◌≤◌}
use Rattle.std.proofs.Common.{ℤ, pos, negsuc, [], ◌∷◌, Option, Some, None}
use Rattle.std.proofs.Common.{Bool, true, false, refl, sym, ap, subst, ◌∙◌, arith, FitsSigned}
use Rattle.std.specs.Prelude.{◌+ℤ◌, unsigned_abs, ◌==◌, if◌then◌else◌}
use Rattle.std.specs.Int.{w16}
use Rattle.std.proofs.lemmas.Int.{ints}
use Rattle.std.proofs.lemmas.Option.{same_Some}
use Rattle.bpf_insn.specs.declared.operand.LoadKind.{LoadKind}
use Rattle.bpf_insn.specs.declared.operand.LoadKind.TheVariants as load
use Rattle.bpf_insn.specs.declared.operand.Size.{Size}
use Rattle.bpf_insn.specs.declared.reg.Reg.{Reg}
use Rattle.bpf_insn.specs.Table.{number_of}
use Rattle.cells.specs.Arrays.{AppShape}
use Rattle.bpf_semantics.specs.Memory.{context_start, context_size, stack_start}
use Rattle.bpf_semantics.specs.Memory.{stack_size, cell_start, cell_number}
use Rattle.bpf_semantics.specs.Memory.{is_cell_address, cell_at, address_of, is_in_stack}
use Rattle.bpf_semantics.specs.Counters.{load_cell}
use Rattle.bpf_semantics.specs.State.{State, HasWords, read_at, written_at, with_bytes}
use Rattle.bpf_semantics.specs.Outcome.{moved, moved_to}
use Rattle.bpf_semantics.specs.Reads.{load_count, byte_count, filled, loaded}
use Rattle.bpf_semantics.specs.Step as step
use Rattle.abs_value.specs.declared.places.Places.{Places}
use Rattle.abs_value.specs.declared.value.Abs.{Abs}
use Rattle.abs_value.specs.declared.value.Abs.TheVariants.{Stk}
use Rattle.abs_value.specs.declared.state.AbsState.{AbsState}
use Rattle.abs_value.specs.Values.{loaded_value}
use Rattle.abs_value.specs.Stack.{has_unset, loaded_from}
use Rattle.abs_value.specs.States.{with_value, with_stored}
use Rattle.abs_value.specs.Covers.{IsWord, Includes, IsInContext, IsRepresented}
use Rattle.abs_value.specs.Laws.{CoversAfter}
use Rattle.bpf_checks.specs.Memory.{lies_in, stack_place}
use Rattle.bpf_checks.specs.Transfer.{edge_to, loaded_at, stored_at}
use Rattle.bpf_checks.specs.Sound.{Leads, IsSafe}
use Rattle.bpf_checks.proofs.ContextReads.{reads}
use Rattle.bpf_checks.proofs.Given.{Given}
use Rattle.bpf_checks.proofs.Outcomes.{answers, leads_on, write_safe}

-- ---- no cell is below the counters

no_cell_at : (address n : ℕ) → address < cell_start → cell_at address n ≡ None
no_cell_at address n low =
    let first : cell_number address ≡ 0 = grind arith in
    let other : is_cell_address address ≡ false = grind arith in
    rw other refl

no_load_cell : (kind : LoadKind) (base : ℕ) (offset : ℤ) → address_of base offset < cell_start
    → load_cell kind (Some base) offset ≡ None
no_load_cell load.Word base offset low = no_cell_at (address_of base offset) 4 low
no_load_cell load.Double base offset low = no_cell_at (address_of base offset) 8 low
no_load_cell kind base offset low = refl

-- ---- the region of an access

in_context : (lo hi x n : ℕ) (offset : ℤ) → FitsSigned w16 offset
    → lies_in context_size lo hi offset n ≡ true → context_start + lo ≤ x → x ≤ context_start + hi
    → (context_start ≤ address_of x offset)
    × (address_of x offset + n ≤ context_start + context_size)
in_context lo hi x n (pos m) f h p q = grind (arith, ints)
in_context lo hi x n (negsuc m) f h p q = grind (arith, ints)

-- the offset of n bytes from a place of the stack, moved by an offset
record Lies (place : ℕ) (offset : ℤ) (n : ℕ) : Type 0 where
  at : ℕ
  is : pos place +ℤ offset ≡ pos at
  within : at + n ≤ stack_size
  address : address_of (stack_start + place) offset ≡ stack_start + at

lies : (place : ℕ) (offset : ℤ) (n : ℕ)
    → FitsSigned w16 offset → lies_in stack_size place place offset n ≡ true → Lies place offset n
lies place (pos m) n f h = record {
  at = place + m;
  is = refl;
  within = grind (arith, ints);
  address = grind (arith, ints);
}
lies place (negsuc m) n f h =
    let above : suc m ≤ place = grind (arith, ints) in
    record {
      at = place - suc m;
      is = grind (arith, ints);
      within = grind (arith, ints);
      address = grind (arith, ints);
    }

-- the place of such bytes
at_place : (place : ℕ) (offset : ℤ) (n : ℕ) → lies_in stack_size place place offset n ≡ true
    → (l : Lies place offset n) → stack_place (Stk place) offset n ≡ Some l.at
at_place place offset n h l = rw h (ap (λ (z : ℤ). Some (unsigned_abs z)) l.is)

-- ---- loads

load_reads : (given : Given) (shape : AppShape) (e : AbsState) (s : State) (kind : LoadKind)
    (dst : Reg) (offset : ℤ) (v : Abs) (x number : ℕ) (h : IsRepresented shape e s)
    → (number_of dst == 10) ≡ false → address_of x offset < cell_start
    → read_at s (address_of x offset) (load_count kind) ≡ Some number
    → Includes (answers h) v (filled kind number) → IsSafe shape
    (edge_to (s.slot + 1) (with_value e dst v) ∷ []) (step.load s kind dst (Some x) offset)
load_reads given shape e s kind dst offset v x number h frame low is inc =
    rw (no_load_cell kind x offset low) (write_safe given shape e s 1 dst v
    (loaded s kind (Some x) offset) (filled kind number) h frame (rw is refl) inc)

pub context_load_safe : (given : Given) (shape : AppShape) (e : AbsState) (s : State)
    (kind : LoadKind) (dst : Reg) (offset : ℤ) (from : Places) (x : ℕ) (h : IsRepresented shape e s)
    → FitsSigned w16 offset → (number_of dst == 10) ≡ false
    → lies_in context_size from.lo from.hi offset (load_count kind) ≡ true → IsInContext from x
    → IsSafe shape (edge_to (s.slot + 1) (with_value e dst (loaded_value kind)) ∷ [])
    (step.load s kind dst (Some x) offset)
context_load_safe given shape e s kind dst offset from x h f frame inside inc =
    let at = in_context from.lo from.hi x (load_count kind) offset f inside inc.0 inc.1 in
    let r = reads s (address_of x offset) (load_count kind) at.0 at.1 in
    load_reads given shape e s kind dst offset (loaded_value kind) x r.number h frame
    (omega (arith, at.1)) r.is (given.loaded (answers h) kind r.number r.small)

pub stack_load_safe : (given : Given) (shape : AppShape) (e : AbsState) (s : State)
    (kind : LoadKind) (dst : Reg) (offset : ℤ) (place x : ℕ) (h : IsRepresented shape e s)
    → HasWords s → FitsSigned w16 offset → (number_of dst == 10) ≡ false
    → lies_in stack_size place place offset (load_count kind) ≡ true
    → has_unset e.stack (pos place +ℤ offset) (load_count kind) ≡ false → x ≡ stack_start + place
    → IsSafe shape (edge_to (s.slot + 1)
    (with_value e dst (loaded_at e (stack_place (Stk place) offset (load_count kind)) kind)) ∷ [])
    (step.load s kind dst (Some x) offset)
stack_load_safe given shape e s kind dst offset place x h w f frame inside unset same =
    let l = lies place offset (load_count kind) f inside in
    let r = given.loads (answers h) e s l.at kind l.within w h.covers
    (subst (λ (z : ℤ). has_unset e.stack z (load_count kind) ≡ false) l.is unset) in
    let here : address_of x offset ≡ stack_start + l.at =
    ap (λ (y : ℕ). address_of y offset) same ∙ l.address in
    subst (λ (o : Option ℕ).
    IsSafe shape (edge_to (s.slot + 1) (with_value e dst (loaded_at e o kind)) ∷ [])
    (step.load s kind dst (Some x) offset)) (sym (at_place place offset (load_count kind) inside l))
    (load_reads given shape e s kind dst offset (loaded_from e.stack l.at kind) x r.number h frame
    (omega (arith, here, l.within))
    (ap (λ (a : ℕ). read_at s a (load_count kind)) here ∙ r.is) r.included)

-- ---- stores

-- a store leaves the slot of the run unchanged
slot_of : (inside : Bool) (s t : State) (stack : ℕ → Option ℕ)
    → (if inside then Some (record s { stack = stack }) else None) ≡ Some t → t.slot ≡ s.slot
slot_of true s t stack h =
    sym (ap (λ (u : State). u.slot) (same_Some (record s { stack = stack }) t h))
slot_of false s t stack h = absurd cc

same_slot : (s t : State) (address n v : ℕ) → written_at s address n v ≡ Some t → t.slot ≡ s.slot
same_slot s t address n v h =
    slot_of (is_in_stack address n) s t (with_bytes s.stack (address - stack_start) n v) h

moved_safe : (given : Given) (shape : AppShape) (e f : AbsState) (s : State) (o : Option State)
    (h : IsRepresented shape e s) → ((t : State) → o ≡ Some t → t.slot ≡ s.slot)
    → CoversAfter (answers h) f o
    → IsSafe shape (edge_to (s.slot + 1) f ∷ []) (moved o)
moved_safe given shape e f s None h same covers = absurd covers
moved_safe given shape e f s (Some t) h same covers =
    subst (λ k. Leads shape (edge_to (s.slot + 1) f ∷ []) (moved_to t (k + 1))) (sym (same t refl))
    (leads_on given shape e f s t 1 h (same t refl) covers)

pub stack_store_safe : (given : Given) (shape : AppShape) (e : AbsState) (s : State) (size : Size)
    (offset : ℤ) (place x : ℕ) (a : Abs) (v : ℕ) (h : IsRepresented shape e s)
    → FitsSigned w16 offset
    → lies_in stack_size place place offset (byte_count size) ≡ true → x ≡ stack_start + place
    → IsWord v → Includes (answers h) a v
    → IsSafe shape (edge_to (s.slot + 1)
    (stored_at e (stack_place (Stk place) offset (byte_count size)) (byte_count size) a) ∷ [])
    (step.store s size (Some x) offset (Some v))
stack_store_safe given shape e s size offset place x a v h f inside same word inc =
    let l = lies place offset (byte_count size) f inside in
    let here : address_of x offset ≡ stack_start + l.at =
    ap (λ (y : ℕ). address_of y offset) same ∙ l.address in
    let covers = subst (λ (b : ℕ). CoversAfter (answers h) (with_stored e l.at (byte_count size) a)
    (written_at s b (byte_count size) v)) (sym here)
    (given.stores (answers h) e s l.at size a v l.within h.covers word inc) in
    subst (λ (o : Option ℕ). IsSafe shape (edge_to (s.slot + 1) (stored_at e o (byte_count size) a)
    ∷ []) (step.store s size (Some x) offset (Some v)))
    (sym (at_place place offset (byte_count size) inside l))
    (rw (no_cell_at (address_of x offset) (byte_count size) (omega (arith, here, l.within)))
    (moved_safe given shape e (with_stored e l.at (byte_count size) a) s
    (written_at s (address_of x offset) (byte_count size) v) h
    (λ t. same_slot s t (address_of x offset) (byte_count size) v) covers))
