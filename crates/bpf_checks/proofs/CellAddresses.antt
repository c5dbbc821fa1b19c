-- The cell at an address: it exists, it has a width, and it may have a quota.
use Rattle.std.proofs.Common.{◌≡◌, ◌≢◌, ℕ, zero, suc, ◌+◌, ◌-◌, ◌*◌, ◌/◌, ◌<◌, ◌≤◌}
use Rattle.std.proofs.Common.{ℤ, pos, negsuc, List, [], ◌∷◌, length, All, Some}
use Rattle.std.proofs.Common.{Bool, true, false, refl, sym, subst, arith, inl, inr}
use Rattle.std.specs.Prelude.{◌⊎◌, IfSome, is_some, Contains, slice_get, ◌==◌, ◌&&◌, nat_le, nat_lt}
use Rattle.std.specs.List.{list_any}
use Rattle.std.proofs.lemmas.List.Elements.{All-head, All-tail}
use Rattle.std.proofs.lemmas.Option.{slice_get_within, get_or_from_slice_get}
use Rattle.cells.specs.declared.array.CellArray.{CellArray}
use Rattle.cells.specs.declared.array.CellWidth.{CellWidth}
use Rattle.cells.specs.declared.array.CellWidth.TheVariants.{Bits32, Bits64}
use Rattle.cells.specs.Arrays.{AppShape, IsShape, IsArray, HasCell, first_cell}
use Rattle.cells.specs.Events.{width}
use Rattle.bpf_semantics.specs.Memory.{address_of, cell_start, cell_address, cell_at}
use Rattle.abs_value.specs.declared.origin.Lookup.{Lookup}
use Rattle.abs_value.specs.declared.origin.Origin.{Origin}
use Rattle.abs_value.specs.declared.origin.Origin.TheVariants.{Found, Fixed}
use Rattle.abs_value.specs.Covers.{Returns, HasCellAt, IsCellOf, IsCell}
use Rattle.bpf_checks.specs.Arrays.{width_bits, origin_bits, has_quota_cell, has_quota}
use Rattle.bpf_checks.specs.Memory.{is_zero}
use Rattle.bpf_checks.proofs.Passes.{false_or}

-- ---- arrays

all_at : {X : Type 0} (P : X → Type 0) (xs : List X) (k : ℕ) → All P xs → IfSome (slice_get xs k) P
all_at P [] k h = tt
all_at P (x ∷ xs) zero h = All-head P x xs h
all_at P (x ∷ xs) (suc k) h = all_at P xs k (All-tail P x xs h)

pub all_there : {X : Type 0} (P : X → Type 0) (xs : List X) (k : ℕ) (x : X)
    → All P xs → slice_get xs k ≡ Some x → P x
all_there P xs k x h e = subst (λ o. IfSome o P) e (all_at P xs k h)

pub array_is : (shape : AppShape) (index : ℕ) (a : CellArray)
    → IsShape shape → slice_get shape.arrays index ≡ Some a → IsArray a
array_is shape index a h e = all_there IsArray shape.arrays index a h.arrays e

-- a cell of an array has the array's width
width_in : (w : CellWidth) (base length cell : ℕ) → first_cell w ≤ base
    → base + length ≤ first_cell w + 4096 → base ≤ cell → cell < base + length
    → (width cell ≡ width_bits w) × (cell < 8192)
width_in Bits64 base length cell from to le lt =
    let test : nat_lt cell 4096 ≡ true = grind (arith, to, lt) in
    rw test (refl, omega (arith, to, lt))
width_in Bits32 base length cell from to le lt =
    let test : nat_lt cell 4096 ≡ false = grind (arith, from, le) in
    rw test (refl, omega (arith, to, lt))

-- ---- addresses

pub cell_there : (cell count : ℕ) (offset : ℤ) → cell < 8192 → 8 * count ≡ width cell
    → is_zero offset ≡ true → cell_at (address_of (cell_address cell) offset) count ≡ Some cell
cell_there cell count (pos n) lt wide start =
    let e : n ≡ 0 = grind (arith, start) in
    let same : address_of (cell_address cell) (pos n) ≡ cell_address cell = omega (arith, e, lt) in
    let number : (cell_address cell - cell_start) / 8 ≡ cell = omega arith in
    let below : nat_lt cell 8192 ≡ true = grind (arith, lt) in
    let at : (cell_address cell == cell_address cell) ≡ true = grind arith in
    let test : (8 * count == width cell) ≡ true = grind (arith, wide) in
    rw (same, number, below, at, test) refl
cell_there cell count (negsuc n) lt wide start = absurd cc

-- ---- the cell of a value

-- the cell at the address, its array, and its quota
pub record IsAt (shape : AppShape) (origin : Origin) (x : ℕ) : Type 0 where
  pub cell : ℕ
  pub address : x ≡ cell_address cell
  pub below : cell < 8192
  pub wide : origin_bits shape origin ≡ width cell
  pub array : CellArray
  pub there : Contains shape.arrays array
  pub has : HasCell array cell
  pub quota : has_quota shape origin ≡ false → (a : CellArray) → Contains shape.arrays a
      → HasCell a cell → is_some a.quota ≡ false

contains : (arrays : List CellArray) (index : ℕ) (a : CellArray) → slice_get arrays index ≡ Some a
    → Contains arrays a
contains arrays index a e =
    (index, slice_get_within arrays index a e, get_or_from_slice_get arrays index a a e)

-- arrays with a common cell are the same array
same_array : (shape : AppShape) (a b : CellArray) (cell : ℕ) → IsShape shape
    → Contains shape.arrays a → Contains shape.arrays b → HasCell a cell → HasCell b cell → a ≡ b
same_array shape a b cell h ca cb has other = elim (h.apart a b ca cb) [
  | inl same ↦ same
  | inr shares ↦ absurd (shares cell has other)
]

found_at : (shape : AppShape) (call : Lookup) (x : ℕ) → IsShape shape → IsCellOf shape call.array x
    → IsAt shape (Found call) x
found_at shape call x h (cell, address, at) =
    let array = array_is shape call.array at.array h at.there in
    let wide = width_in at.array.width at.array.base at.array.length cell array.from array.to
    at.has.0 at.has.1 in
    let there = contains shape.arrays call.array at.array at.there in
    record {
      cell = cell;
      address = address;
      below = wide.1;
      wide = rw at.there (sym wide.0);
      array = at.array;
      there = there;
      has = at.has;
      quota = λ none a ca has.
          let is : is_some at.array.quota ≡ false = rw at.there at none in
          subst (λ (b : CellArray). is_some b.quota ≡ false)
          (same_array shape at.array a cell h there ca at.has has) is;
    }

first_false : (a b c : Bool) → (a && b && c) ≡ false → b ≡ true → c ≡ true → a ≡ false
first_false true b c h e f = grind (arith, h, e, f)
first_false false b c h e f = refl

without_quota : (cell : ℕ) (a : CellArray) → has_quota_cell cell a ≡ false → HasCell a cell
    → is_some a.quota ≡ false
without_quota cell a h has = first_false (is_some a.quota) (nat_le a.base cell)
    (nat_lt cell (a.base + a.length)) h (grind (arith, has)) (grind (arith, has))

-- no array with a quota has the cell
no_quota : (cell : ℕ) (arrays : List CellArray) → list_any (has_quota_cell cell) arrays ≡ false
    → (a : CellArray) → Contains arrays a → HasCell a cell → is_some a.quota ≡ false
no_quota cell [] none a (k, lt, is) has = absurd (omega (arith, lt))
no_quota cell (b ∷ bs) none a (zero, lt, is) has =
    let parts = false_or (has_quota_cell cell b) (list_any (has_quota_cell cell) bs) none in
    subst (λ (c : CellArray). HasCell c cell → is_some c.quota ≡ false) is
    (without_quota cell b parts.0) has
no_quota cell (b ∷ bs) none a (suc k, lt, is) has =
    let parts = false_or (has_quota_cell cell b) (list_any (has_quota_cell cell) bs) none in
    no_quota cell bs parts.1 a (k, omega (arith, lt), is) has

fixed_at : (shape : AppShape) (cell x index : ℕ)
    → IsShape shape → x ≡ cell_address cell → HasCellAt shape index cell → IsAt shape (Fixed cell) x
fixed_at shape cell x index h address at =
    let array = array_is shape index at.array h at.there in
    let wide = width_in at.array.width at.array.base at.array.length cell array.from array.to
    at.has.0 at.has.1 in
    record {
      cell = cell;
      address = address;
      below = wide.1;
      wide = refl;
      array = at.array;
      there = contains shape.arrays index at.array at.there;
      has = at.has;
      quota = no_quota cell shape.arrays;
    }

not_null : (shape : AppShape) (call : Lookup) (x : ℕ)
    → (x ≡ 0) ⊎ IsCellOf shape call.array x → x ≢ 0 → IsCellOf shape call.array x
not_null shape call x (inl null) some = absurd (some null)
not_null shape call x (inr cell) some = cell

pub is_at : (g : Returns) (origin : Origin) (x : ℕ) → IsShape g.shape → IsCell g origin x
    → IsAt g.shape origin x
is_at g (Found call) x h k = found_at g.shape call x h (not_null g.shape call x k.0.1 k.1)
is_at g (Fixed cell) x h k = fixed_at g.shape cell x k.1.0 h k.0 k.1.1
