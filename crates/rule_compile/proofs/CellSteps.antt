-- The instructions of counters as steps: the address of a cell, and additions to it.
use Rattle.std.proofs.Common.{◌≡◌, ℕ, zero, suc, ◌+◌, ◌*◌, ◌/◌, ◌%◌, ◌<◌, pos, List, [], ◌∷◌}
use Rattle.std.proofs.Common.{Some, None, Bool, true, false, refl, sym, ap, ◌∙◌, arith, inl, inr}
use Rattle.std.specs.Prelude.{◌==◌, ◌&&◌, ◌⊎◌, nat_le, nat_lt, is_some, slice_get, Contains}
use Rattle.std.specs.List.{list_any}
use Rattle.std.proofs.lemmas.Bool.{cases_Bool, lt-ltb}
use Rattle.bpf_insn.specs.declared.operand.AtomicSize.{AtomicSize}
use Rattle.bpf_insn.specs.declared.operand.AtomicSize.TheVariants.{Word, Double}
use Rattle.bpf_insn.specs.declared.operand.WideValue.TheVariants as wide
use Rattle.bpf_insn.specs.declared.reg.Reg.TheVariants.{R2, R3}
use Rattle.bpf_insn.specs.Program.{Program}
use Rattle.bpf_semantics.specs.Counters.{atomic_count}
use Rattle.cells.specs.declared.array.CellArray.{CellArray}
use Rattle.cells.specs.Arrays.{AppShape, IsShape, HasCell, SharesNoCell}
use Rattle.cells.specs.Events.{width}
use Rattle.abs_value.specs.declared.number.Number.{Number}
use Rattle.abs_value.specs.declared.origin.Origin.TheVariants.{Fixed}
use Rattle.abs_value.specs.declared.value.Abs.TheVariants.{Num, Cell}
use Rattle.abs_value.specs.declared.state.AbsState.{AbsState}
use Rattle.abs_value.specs.Numbers.{single, least, most}
use Rattle.abs_value.specs.States.{register_at, value_at, with_value}
use Rattle.bpf_checks.specs.Arrays.{wide_abs, has_quota_cell, has_quota}
use Rattle.bpf_checks.specs.Rules.{first_rule}
use Rattle.bpf_checks.specs.Transfer.{after, fetched_value}
use Rattle.bpf_verify.specs.Table.{SlotFacts, HasFacts}
use Rattle.rule_compile.specs.Instructions as insn
use Rattle.rule_compile.proofs.Counters.{IsCellOf}
use Rattle.rule_compile.proofs.Typed.{IsStep}
use Rattle.rule_compile.proofs.Entries.{any, Takes, writes, knows_write}
use Rattle.rule_compile.proofs.Narrowings.{wider_at, number_in}
use Rattle.rule_compile.proofs.InsnSteps.{onward}

-- ---- no other array has a cell of this one

-- an array without a quota doesn't give its cells one
quota_of_cell : (b : CellArray) (c : ℕ) → (is_some b.quota ≡ true → HasCell b c → ⊥)
    → has_quota_cell c b ≡ false
quota_of_cell b c apart = by_quota (is_some b.quota) refl
  where
    by_place : (low high : Bool) → nat_le b.base c ≡ low → nat_lt c (b.base + b.length) ≡ high
        → is_some b.quota ≡ true → (low && high) ≡ false
    by_place true true low high quota =
        absurd (apart quota (grind (arith, low), grind (arith, high)))
    by_place true false low high quota = refl
    by_place false high low is quota = refl

    by_quota : (t : Bool) → is_some b.quota ≡ t
        → (t && nat_le b.base c && nat_lt c (b.base + b.length)) ≡ false
    by_quota false is = refl
    by_quota true is = by_place (nat_le b.base c) (nat_lt c (b.base + b.length)) refl refl is

none_of : (xs : List CellArray) (c : ℕ)
    → ((b : CellArray) → Contains xs b → has_quota_cell c b ≡ false)
    → list_any (has_quota_cell c) xs ≡ false
none_of [] c h = refl
none_of (b ∷ xs) c h =
    let first = h b (0, omega arith, refl) in
    rw first (none_of xs c (λ x has. h x (suc has.0, omega (arith, has.1), has.2)))

-- the array at an index is in the list
pub contains_at : (xs : List CellArray) (k : ℕ) (a : CellArray) → slice_get xs k ≡ Some a
    → Contains xs a
contains_at [] k a is = absurd cc
contains_at (x ∷ xs) zero a is = let same : x ≡ a = cc in (0, omega arith, same)
contains_at (x ∷ xs) (suc k) a is = let h = contains_at xs k a is in
    (suc h.0, omega (arith, h.1), h.2)

module _ (shape : AppShape) where
  pub no_quota : (a : CellArray) (c : ℕ) → IsShape shape → Contains shape.arrays a
      → is_some a.quota ≡ false → HasCell a c → has_quota shape (Fixed c) ≡ false
  no_quota a c is there free has =
      none_of shape.arrays c (λ b also. quota_of_cell b c
      (λ quota has_too. other b quota has_too (is.apart a b there also)))
    where
      other : (b : CellArray) → is_some b.quota ≡ true → HasCell b c → (a ≡ b) ⊎ SharesNoCell a b
          → ⊥
      other b quota has_too (inl same) = let bad : is_some b.quota ≡ false =
          ap (λ (x : CellArray). is_some x.quota) (sym same) ∙ free in absurd cc
      other b quota has_too (inr apart) = apart c has has_too

  -- ---- the address of a cell

  cell_is : (array index c : ℕ) (a : CellArray) → slice_get shape.arrays array ≡ Some a
      → index < a.length → a.base + index ≡ c
      → wide_abs shape (wide.Cell (pos array) (pos (8 * index))) ≡ Some (Cell (Fixed c))
  cell_is array index c a is within sum =
      let whole : 8 * index % 8 ≡ 0 = omega arith in
      let number : 8 * index / 8 ≡ index = omega arith in
      rw (is, whole, number, lt-ltb index a.length within, sum) refl

  cell_passes : (array index c : ℕ) (e : AbsState)
      → wide_abs shape (wide.Cell (pos array) (pos (8 * index))) ≡ Some (Cell (Fixed c))
      → first_rule shape e (insn.load_cell array index) ≡ None
  unfolding first_rule
  cell_passes array index c e is = rw is refl

  cell_gives : (array index c : ℕ) (d : SlotFacts) (e : AbsState)
      → wide_abs shape (wide.Cell (pos array) (pos (8 * index))) ≡ Some (Cell (Fixed c))
      → HasFacts d e
      → HasFacts (writes d R3 (Cell (Fixed c))) (after shape 0 e (insn.load_cell array index))
  cell_gives array index c d e is h =
      rw is (knows_write d e R3 (Cell (Fixed c)) (Cell (Fixed c)) h refl)

  pub cell_step : (array index c : ℕ) (a : CellArray) (d : SlotFacts) (q : Program)
      (ds : List SlotFacts)
      → slice_get shape.arrays array ≡ Some a → index < a.length → a.base + index ≡ c
      → Takes (None ∷ q) ds 1 (writes d R3 (Cell (Fixed c)))
      → IsStep shape d (insn.load_cell array index) (None ∷ q) ds
  cell_step array index c a d q ds found within sum takes =
      let is = cell_is array index c a found within sum in
      record {
        half = refl;
        passes = λ e h. cell_passes array index c e is;
        next = λ s. onward (None ∷ q) ds 1 d (writes d R3 (Cell (Fixed c)))
            (λ e. after shape 0 e (insn.load_cell array index)) takes
            (λ e h. cell_gives array index c d e is h);
        jump = tt;
      }

  -- ---- additions

  whole_cell : (size : AtomicSize) (c : ℕ) → IsCellOf size c
      → (8 * atomic_count size == width c) ≡ true
  whole_cell Double c h = rw (lt-ltb c 4096 h) refl
  whole_cell Word c h = let past : nat_lt c 4096 ≡ false = grind (arith, h.0) in rw past refl

  add_passes : (size : AtomicSize) (c : ℕ) (e : AbsState) (n : Number)
      → value_at e 3 ≡ Cell (Fixed c) → value_at e 2 ≡ Num n
      → (8 * atomic_count size == width c) ≡ true → has_quota shape (Fixed c) ≡ false
      → first_rule shape e (insn.add_to_cell size) ≡ None
  unfolding first_rule
  add_passes size c e n three two whole free = rw (three, two, whole, free) refl

  pub add_step : (size : AtomicSize) (c : ℕ) (d : SlotFacts) (q : Program) (ds : List SlotFacts)
      → register_at d.registers 3 ≡ Cell (Fixed c) → register_at d.registers 2 ≡ Num (single 1)
      → IsCellOf size c → has_quota shape (Fixed c) ≡ false → Takes q ds 0 d
      → IsStep shape d (insn.add_to_cell size) q ds
  add_step size c d q ds three two cell free takes = record {
    half = tt;
    passes = λ e h.
        let n = number_in (single 1) (value_at e 2) (wider_at d e 2 (Num (single 1)) h two) in
        add_passes size c e n.0 (sym (wider_at d e 3 (Cell (Fixed c)) h three)) n.1
        (whole_cell size c cell) free;
    next = λ s. onward q ds 0 d d (λ e. e) takes (λ e h. h);
    jump = tt;
  }

  take_passes : (c : ℕ) (e : AbsState) (n : Number) → value_at e 3 ≡ Cell (Fixed c)
      → value_at e 2 ≡ Num n → (64 == width c) ≡ true → least n ≡ 1 → most n ≡ 1
      → first_rule shape e insn.take_from_cell ≡ None
  unfolding first_rule
  take_passes c e n three two whole lo hi = elim (cases_Bool (has_quota shape (Fixed c))) [
    | inl quota ↦ rw (three, two, whole, quota, lo, hi) refl
    | inr free ↦ rw (three, two, whole, free) refl
  ]

  pub take_step : (c : ℕ) (d : SlotFacts) (q : Program) (ds : List SlotFacts)
      → register_at d.registers 3 ≡ Cell (Fixed c) → register_at d.registers 2 ≡ Num (single 1)
      → c < 4096 → Takes q ds 0 (writes d R2 (Num any)) → IsStep shape d insn.take_from_cell q ds
  take_step c d q ds three two cell takes = record {
    half = tt;
    passes = λ e h.
        let n = number_in (single 1) (value_at e 2) (wider_at d e 2 (Num (single 1)) h two) in
        take_passes c e n.0 (sym (wider_at d e 3 (Cell (Fixed c)) h three)) n.1
        (whole_cell Double c cell) (omega (arith, n.2.0, n.2.1, n.2.2))
        (omega (arith, n.2.0, n.2.1, n.2.2));
    next = λ s. onward q ds 0 d (writes d R2 (Num any))
        (λ e. with_value e R2 (fetched_value Double)) takes
        (λ e h. knows_write d e R2 (Num any) (fetched_value Double) h
        (omega arith, omega arith, omega arith));
    jump = tt;
  }
