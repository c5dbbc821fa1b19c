-- Atomic operations: if no rule is broken, their address is a cell's.
use Rattle.std.proofs.Common.{◌≡◌, ℕ, ◌+◌, ◌-◌, ◌*◌, ◌^◌, ◌<◌, ℤ, [], ◌∷◌, Option, Some, None}
use Rattle.std.proofs.Common.{Bool, true, false, refl, sym, subst, arith, inl, inr}
use Rattle.std.specs.Prelude.{◌&&◌, ◌||◌, not}
use Rattle.std.specs.List.{list_any}
use Rattle.std.proofs.lemmas.Bool.{cases_Bool}
use Rattle.bpf_insn.specs.declared.reg.Reg.{Reg}
use Rattle.bpf_insn.specs.declared.reg.Reg.TheVariants.{R0}
use Rattle.bpf_insn.specs.declared.operand.AtomicOp.{AtomicOp}
use Rattle.bpf_insn.specs.declared.operand.AtomicOp.TheVariants as atomic
use Rattle.bpf_insn.specs.declared.operand.AtomicSize.{AtomicSize}
use Rattle.bpf_insn.specs.declared.operand.AtomicSize.TheVariants.{Word, Double}
use Rattle.bpf_insn.specs.declared.insn.Insn.TheVariants.{Atomic}
use Rattle.cells.specs.declared.event.CellOp.{CellOp}
use Rattle.cells.specs.Arrays.{AppShape, IsShape}
use Rattle.cells.specs.Events.{width, CanReply}
use Rattle.bpf_semantics.specs.State.{State}
use Rattle.bpf_semantics.specs.Reads.{register}
use Rattle.bpf_semantics.specs.Outcome.{operate}
use Rattle.bpf_semantics.specs.Counters.{cut, atomic_count, cell_op, expected, fetched}
use Rattle.bpf_semantics.specs.Step.{act}
use Rattle.abs_value.specs.declared.origin.Origin.{Origin}
use Rattle.abs_value.specs.declared.value.Abs.{Abs}
use Rattle.abs_value.specs.declared.value.Abs.TheVariants.{Unusable, Num, Ctx}
use Rattle.abs_value.specs.declared.value.Abs.TheVariants.{Stk, Map, MayCell, Cell}
use Rattle.abs_value.specs.declared.state.AbsState.{AbsState}
use Rattle.abs_value.specs.Values.{is_unusable}
use Rattle.abs_value.specs.States.{value_of}
use Rattle.abs_value.specs.Covers.{Returns, Includes, IsRepresented}
use Rattle.bpf_checks.specs.Arrays.{has_quota}
use Rattle.bpf_checks.specs.Memory.{changes_context, is_no_address}
use Rattle.bpf_checks.specs.Memory.{exchanges_stack, reaches_quota, is_outside}
use Rattle.bpf_checks.specs.Reads.{compared_register, atomic_access}
use Rattle.bpf_checks.specs.Rules.{is_frame, is_one, leaves_quota}
use Rattle.bpf_checks.specs.Sound.{KeepsQuota, IsLawful, IsSafe}
use Rattle.bpf_checks.specs.Transfer.{edges, edge_to, fetched_value, with_fetched}
use Rattle.bpf_checks.proofs.Given.{Given}
use Rattle.bpf_checks.proofs.Passes.{Passes, two_usable, three_usable}
use Rattle.bpf_checks.proofs.Outcomes.{answers, fetch_safe, ask_safe}
use Rattle.bpf_checks.proofs.CellAddresses.{IsAt}
use Rattle.bpf_checks.proofs.CellSteps.{there, whole_cell, lawful_there, lawful_by}

-- ---- the address

record IsCellValue (v : Abs) : Type 0 where
  origin : Origin
  is : v ≡ Cell origin

cell_value : (size : AtomicSize) (dst : Reg) (offset : ℤ) (v : Abs)
    → is_unusable v ≡ false → changes_context (atomic_access size dst offset) v ≡ false
    → is_no_address (atomic_access size dst offset) v ≡ false
    → exchanges_stack (atomic_access size dst offset) v ≡ false
    → IsCellValue v
cell_value size dst offset (Cell origin) u c a k = record { origin = origin; is = refl }
cell_value size dst offset Unusable u c a k = absurd cc
cell_value size dst offset (Num n) u c a k = absurd cc
cell_value size dst offset (Ctx from) u c a k = absurd cc
cell_value size dst offset (Stk place) u c a k = absurd cc
cell_value size dst offset (Map index) u c a k = absurd cc
cell_value size dst offset (MayCell call) u c a k = absurd cc

-- ---- replies

-- the reply to an atomic instruction is the cell's old value
replies : (op : AtomicOp) (r0 v c reply : ℕ) → CanReply c (cell_op op r0 v) reply
    → reply < 2 ^ width c
replies atomic.Add r0 v c reply fits = fits
replies atomic.Or r0 v c reply fits = fits
replies atomic.And r0 v c reply fits = fits
replies atomic.Xor r0 v c reply fits = fits
replies atomic.FetchAdd r0 v c reply fits = fits
replies atomic.FetchOr r0 v c reply fits = fits
replies atomic.FetchAnd r0 v c reply fits = fits
replies atomic.FetchXor r0 v c reply fits = fits
replies atomic.Exchange r0 v c reply fits = fits
replies atomic.CompareExchange r0 v c reply fits = fits

fetched_included : (given : Given) (g : Returns) (size : AtomicSize) (c reply : ℕ)
    → 8 * atomic_count size ≡ width c → reply < 2 ^ width c → Includes g (fetched_value size) reply
fetched_included given g size c reply wide fits =
    by_size size (subst (λ (n : ℕ). reply < 2 ^ n) (sym wide) fits)
  where
    by_size : (size : AtomicSize) → reply < 2 ^ (8 * atomic_count size)
        → Includes g (fetched_value size) reply
    by_size Word fits =
        given.up_to (2 ^ 32 - 1) reply (omega (arith, fits)) (omega (arith, fits))
    by_size Double fits =
        given.up_to (2 ^ 64 - 1) reply (omega (arith, fits)) (omega (arith, fits))

-- ---- operands

-- R0 is set if it is compared
record Operands (op : AtomicOp) (s : State) (src : Reg) (g : Returns) (v : Abs) : Type 0 where
  number : ℕ
  is : register s src ≡ Some number
  included : Includes g v number
  compared : ℕ
  compared_is : expected op s ≡ Some compared

operands_there : (given : Given) (shape : AppShape) (e : AbsState) (s : State) (op : AtomicOp)
    (dst src : Reg) (h : IsRepresented shape e s)
    → (list_any (λ r. is_unusable (value_of e r)) (dst ∷ src ∷ compared_register op) || false)
    ≡ false
    → Operands op s src (answers h) (value_of e src)
operands_there given shape e s atomic.CompareExchange dst src h u =
    let usable = three_usable (is_unusable (value_of e dst)) (is_unusable (value_of e src))
    (is_unusable (value_of e R0)) false u in
    let v = there given shape e s src h usable.1 in
    let r0 = there given shape e s R0 h usable.2 in
    record {
      number = v.number;
      is = v.is;
      included = v.included;
      compared = r0.number;
      compared_is = r0.is;
    }
operands_there given shape e s op dst src h u =
    let usable = two_usable (is_unusable (value_of e dst)) (is_unusable (value_of e src)) false u in
    let v = there given shape e s src h usable.1 in
    record { number = v.number; is = v.is; included = v.included; compared = 0; compared_is = refl }

base_usable : (e : AbsState) (op : AtomicOp) (dst src : Reg)
    → (list_any (λ r. is_unusable (value_of e r)) (dst ∷ src ∷ compared_register op) || false)
    ≡ false → is_unusable (value_of e dst) ≡ false
base_usable e op dst src u = first (is_unusable (value_of e dst)) _ u
  where
    first : (a b : Bool) → ((a || b) || false) ≡ false → a ≡ false
    first true b h = absurd cc
    first false b h = refl

-- ---- quotas

-- a fetch-add of a single 1 adds 1
one_is : (g : Returns) (v : Abs) (x : ℕ) → is_one v ≡ true → Includes g v x → x ≡ 1
one_is g (Num n) x one h = grind (arith, one, h.between)
one_is g Unusable x one h = absurd cc
one_is g (Ctx from) x one h = absurd cc
one_is g (Stk place) x one h = absurd cc
one_is g (Map index) x one h = absurd cc
one_is g (MayCell call) x one h = absurd cc
one_is g (Cell origin) x one h = absurd cc

cut_one : (size : AtomicSize) (x : ℕ) → x ≡ 1 → cut (atomic_count size) x ≡ 1
cut_one Word x e = rw e refl
cut_one Double x e = rw e refl

keeps_quota : (g : Returns) (e : AbsState) (op : AtomicOp) (size : AtomicSize) (dst src : Reg)
    (offset : ℤ) (r0 x : ℕ) → leaves_quota e (Atomic op size dst src offset) ≡ true
    → Includes g (value_of e src) x → KeepsQuota (cell_op op r0 (cut (atomic_count size) x))
keeps_quota g e atomic.FetchAdd size dst src offset r0 x leaves h =
    cut_one size x (one_is g (value_of e src) x leaves h)
keeps_quota g e op size dst src offset r0 x leaves h = absurd cc

either : (a b : Bool) → (a && not b) ≡ false → b ≡ false → a ≡ false
either true true h k = absurd cc
either true false h k = absurd cc
either false b h k = refl

lawful : (shape : AppShape) (g : Returns) (e : AbsState) (op : AtomicOp) (size : AtomicSize)
    (dst src : Reg) (offset : ℤ) (origin : Origin) (number r0 x : ℕ)
    (place : IsAt shape origin number) → value_of e dst ≡ Cell origin
    → (reaches_quota shape (atomic_access size dst offset) (value_of e dst)
    && not (leaves_quota e (Atomic op size dst src offset))) ≡ false → Includes g (value_of e src) x
    → IsLawful shape place.cell (cell_op op r0 (cut (atomic_count size) x))
lawful shape g e op size dst src offset origin number r0 x place is quota h =
    elim (cases_Bool (leaves_quota e (Atomic op size dst src offset))) [
      | inl leaves ↦
          lawful_by shape origin number _ place
          (keeps_quota g e op size dst src offset r0 x leaves h)
      | inr other ↦ lawful_there shape origin number _ place
          (either (has_quota shape origin) (leaves_quota e (Atomic op size dst src offset))
          (subst (λ (v : Abs). (reaches_quota shape (atomic_access size dst offset) v
          && not (leaves_quota e (Atomic op size dst src offset))) ≡ false) is quota) other)
    ]

-- ---- the step

into : (given : Given) (shape : AppShape) (e : AbsState) (s : State) (c : ℕ) (op : CellOp)
    (r : Option Reg) (v : Abs) (h : IsRepresented shape e s) → is_frame r ≡ false
    → IsLawful shape c op
    → ((reply : ℕ) → CanReply c op reply → Includes (answers h) v reply)
    → IsSafe shape (edge_to (s.slot + 1) (with_fetched e r v) ∷ []) (operate s c op r)
into given shape e s c op None v h frame lawful inc = ask_safe given shape e s c op h lawful
into given shape e s c op (Some r) v h frame lawful inc =
    fetch_safe given shape e s c op r v h frame lawful inc

pub atomic_safe : (given : Given) (shape : AppShape) (e : AbsState) (s : State) (op : AtomicOp)
    (size : AtomicSize) (dst src : Reg) (offset : ℤ) → IsRepresented shape e s → IsShape shape
    → Passes shape e (Atomic op size dst src offset)
    → IsSafe shape (edges shape s.slot e (Atomic op size dst src offset))
    (act shape s (Atomic op size dst src offset))
unfolding edges
atomic_safe given shape e s op size dst src offset h shaped ok =
    let usable = base_usable e op dst src ok.usable in
    let base = cell_value size dst offset (value_of e dst) usable ok.context ok.address ok.stack in
    let address = there given shape e s dst h usable in
    let cell =
    subst (λ (v : Abs). Includes (answers h) v address.number) base.is address.included in
    let inside = subst (λ (v : Abs). is_outside shape (atomic_access size dst offset) v ≡ false)
    base.is ok.inside in
    let whole = whole_cell (answers h)
    (atomic_access size dst offset) base.origin address.number shaped cell inside in
    let v = operands_there given shape e s op dst src h ok.usable in
    let r0 = cut (atomic_count size) v.compared in
    let does = cell_op op r0 (cut (atomic_count size) v.number) in
    let allowed = lawful shape (answers h) e op size dst src offset base.origin address.number r0
    v.number whole.place base.is ok.quota v.included in
    rw (address.is, whole.at, v.compared_is, v.is) (into given shape e s whole.place.cell does
    (fetched op src) (fetched_value size) h ok.frame allowed
    (λ reply fits. fetched_included given (answers h) size whole.place.cell reply whole.wide
    (replies op r0 (cut (atomic_count size) v.number) whole.place.cell reply fits)))
