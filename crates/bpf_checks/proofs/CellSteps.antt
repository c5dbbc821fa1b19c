-- Loads and stores through the address of a cell.
use Rattle.std.proofs.Common.{◌≡◌, ℕ, ◌+◌, ◌-◌, ◌*◌, ◌^◌, ◌<◌, ℤ, [], ◌∷◌, Some}
use Rattle.std.proofs.Common.{Bool, true, false, refl, sym, subst, arith}
use Rattle.std.specs.Prelude.{is_some, ◌==◌, ◌&&◌, not}
use Rattle.bpf_insn.specs.declared.reg.Reg.{Reg}
use Rattle.bpf_insn.specs.declared.operand.LoadKind.{LoadKind}
use Rattle.bpf_insn.specs.declared.operand.LoadKind.TheVariants as kinds
use Rattle.bpf_insn.specs.declared.operand.Size.{Size}
use Rattle.bpf_insn.specs.Table.{number_of}
use Rattle.cells.specs.declared.event.CellOp.{CellOp}
use Rattle.cells.specs.declared.event.CellOp.TheVariants as cell
use Rattle.cells.specs.Arrays.{AppShape, IsShape}
use Rattle.cells.specs.Events.{width}
use Rattle.bpf_semantics.specs.Memory.{address_of, cell_at}
use Rattle.bpf_semantics.specs.State.{State}
use Rattle.bpf_semantics.specs.Reads.{register, load_count, byte_count}
use Rattle.bpf_semantics.specs.Counters.{cut, load_cell, store_cell}
use Rattle.bpf_semantics.specs.Step.{load, store}
use Rattle.abs_value.specs.declared.origin.Origin.{Origin}
use Rattle.abs_value.specs.declared.value.Abs.TheVariants.{Cell}
use Rattle.abs_value.specs.declared.state.AbsState.{AbsState}
use Rattle.abs_value.specs.Values.{is_unusable, loaded_value}
use Rattle.abs_value.specs.States.{value_of, with_value}
use Rattle.abs_value.specs.Covers.{Returns, Includes, IsCell, IsRepresented}
use Rattle.abs_value.specs.Laws.{IsThere}
use Rattle.bpf_checks.specs.declared.access.Access.{Access}
use Rattle.bpf_checks.specs.Arrays.{origin_bits, has_quota}
use Rattle.bpf_checks.specs.Memory.{is_zero, extends_sign, is_outside}
use Rattle.bpf_checks.specs.Reads.{load_use, load_access, store_access}
use Rattle.bpf_checks.specs.Sound.{KeepsQuota, IsLawful, IsSafe}
use Rattle.bpf_checks.specs.Transfer.{edge_to}
use Rattle.bpf_checks.proofs.Given.{Given}
use Rattle.bpf_checks.proofs.Passes.{true_and, not_false}
use Rattle.bpf_checks.proofs.Outcomes.{answers, fetch_safe, ask_safe}
use Rattle.bpf_checks.proofs.CellAddresses.{IsAt, is_at, cell_there}

-- ---- an access to a whole cell

pub record WholeCell (shape : AppShape) (origin : Origin) (a : Access) (x : ℕ) : Type 0 where
  pub place : IsAt shape origin x
  pub at : cell_at (address_of x a.offset) a.count ≡ Some place.cell
  pub wide : 8 * a.count ≡ width place.cell
  pub sign : extends_sign a.how ≡ false

not_true : (b : Bool) → not b ≡ true → b ≡ false
not_true true h = absurd cc
not_true false h = refl

pub whole_cell : (g : Returns) (a : Access) (origin : Origin) (x : ℕ) → IsShape g.shape
    → IsCell g origin x → is_outside g.shape a (Cell origin) ≡ false → WholeCell g.shape origin a x
whole_cell g a origin x shaped is inside =
    let place = is_at g origin x shaped is in
    let whole = not_false (is_zero a.offset && (8 * a.count == origin_bits g.shape origin)
    && not (extends_sign a.how)) inside in
    let parts = true_and (is_zero a.offset && (8 * a.count == origin_bits g.shape origin))
    (not (extends_sign a.how)) whole in
    let more = true_and (is_zero a.offset) (8 * a.count == origin_bits g.shape origin) parts.0 in
    let wide : 8 * a.count ≡ width place.cell = grind (arith, more.1, place.wide) in
    record {
      place = place;
      at = subst (λ (y : ℕ). cell_at (address_of y a.offset) a.count ≡ Some place.cell)
          (sym place.address) (cell_there place.cell a.count a.offset place.below wide more.0);
      wide = wide;
      sign = not_true (extends_sign a.how) parts.1;
    }

-- the value of a register that isn't unusable
pub there : (given : Given) (shape : AppShape) (e : AbsState) (s : State) (r : Reg)
    (h : IsRepresented shape e s) → is_unusable (value_of e r) ≡ false
    → IsThere (answers h) (value_of e r) (register s r)
there given shape e s r h u = given.registers (answers h) e s (number_of r) h.covers u

-- ---- allowed operations

-- each operation is allowed if no array with the cell has a quota
pub lawful_there : (shape : AppShape) (origin : Origin) (x : ℕ) (op : CellOp)
    (place : IsAt shape origin x) → has_quota shape origin ≡ false → IsLawful shape place.cell op
lawful_there shape origin x op place none = record {
  array = place.array;
  there = place.there;
  has = place.has;
  quota = λ a ca has some. absurd (both (is_some a.quota) some (place.quota none a ca has));
}
  where
    both : (b : Bool) → b ≡ true → b ≡ false → ⊥
    both true h k = cc
    both false h k = cc

pub lawful_by : (shape : AppShape) (origin : Origin) (x : ℕ) (op : CellOp)
    (place : IsAt shape origin x) → KeepsQuota op → IsLawful shape place.cell op
lawful_by shape origin x op place keeps = record {
  array = place.array;
  there = place.there;
  has = place.has;
  quota = λ a ca has some. keeps;
}

-- ---- loads

load_cell_is : (kind : LoadKind) (x : ℕ) (offset : ℤ) (c : ℕ) → extends_sign (load_use kind) ≡ false
    → 8 * load_count kind ≡ width c → cell_at (address_of x offset) (load_count kind) ≡ Some c
    → load_cell kind (Some x) offset ≡ Some c
load_cell_is kinds.Word x offset c sign wide at = at
load_cell_is kinds.Double x offset c sign wide at = at
load_cell_is kinds.Byte x offset c sign wide at = absurd (grind (arith, wide))
load_cell_is kinds.Half x offset c sign wide at = absurd (grind (arith, wide))
load_cell_is kind x offset c sign wide at = absurd cc

-- a reply is a number of the load's width
reply_included : (given : Given) (g : Returns) (kind : LoadKind) (c reply : ℕ)
    → extends_sign (load_use kind) ≡ false → 8 * load_count kind ≡ width c → reply < 2 ^ width c
    → Includes g (loaded_value kind) reply
reply_included given g kind c reply sign wide fits =
    by_kind kind sign (subst (λ (n : ℕ). reply < 2 ^ n) (sym wide) fits)
  where
    by_kind : (kind : LoadKind) → extends_sign (load_use kind) ≡ false
        → reply < 2 ^ (8 * load_count kind) → Includes g (loaded_value kind) reply
    by_kind kinds.Byte sign fits =
        given.up_to (2 ^ 8 - 1) reply (omega (arith, fits)) (omega (arith, fits))
    by_kind kinds.Half sign fits =
        given.up_to (2 ^ 16 - 1) reply (omega (arith, fits)) (omega (arith, fits))
    by_kind kinds.Word sign fits =
        given.up_to (2 ^ 32 - 1) reply (omega (arith, fits)) (omega (arith, fits))
    by_kind kinds.Double sign fits =
        given.up_to (2 ^ 64 - 1) reply (omega (arith, fits)) (omega (arith, fits))
    by_kind kind sign fits = absurd cc

pub cell_load_safe : (given : Given) (shape : AppShape) (e : AbsState) (s : State) (kind : LoadKind)
    (dst base : Reg) (offset : ℤ) (origin : Origin) (x : ℕ) (h : IsRepresented shape e s)
    → IsShape shape → IsCell (answers h) origin x
    → is_outside shape (load_access kind base offset) (Cell origin) ≡ false
    → (number_of dst == 10) ≡ false
    → IsSafe shape (edge_to (s.slot + 1) (with_value e dst (loaded_value kind)) ∷ [])
    (load s kind dst (Some x) offset)
cell_load_safe given shape e s kind dst base offset origin x h shaped is inside frame =
    let whole = whole_cell (answers h) (load_access kind base offset) origin x shaped is inside in
    let reached = load_cell_is kind x offset whole.place.cell whole.sign whole.wide whole.at in
    rw reached (fetch_safe given shape e s whole.place.cell cell.Load dst
    (loaded_value kind) h frame (lawful_by shape origin x cell.Load whole.place tt)
    (λ reply fits.
    reply_included given (answers h) kind whole.place.cell reply whole.sign whole.wide fits))

-- ---- stores

pub cell_store_safe : (given : Given) (shape : AppShape) (e : AbsState) (s : State) (size : Size)
    (base : Reg) (offset : ℤ) (origin : Origin) (x v : ℕ) (h : IsRepresented shape e s)
    → IsShape shape
    → IsCell (answers h) origin x
    → is_outside shape (store_access size base offset) (Cell origin) ≡ false
    → has_quota shape origin ≡ false
    → IsSafe shape (edge_to (s.slot + 1) e ∷ []) (store s size (Some x) offset (Some v))
cell_store_safe given shape e s size base offset origin x v h shaped is inside none =
    let whole = whole_cell (answers h) (store_access size base offset) origin x shaped is inside in
    let reached : store_cell size (Some x) offset ≡ Some whole.place.cell = whole.at in
    rw reached (ask_safe given shape e s whole.place.cell (cell.Store (cut (byte_count size) v)) h
    (lawful_there shape origin x (cell.Store (cut (byte_count size) v)) whole.place none))
