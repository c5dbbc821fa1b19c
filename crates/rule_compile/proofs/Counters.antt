-- Counters: adds 1 to a cell, and continues by the reply or ignores it.
use Rattle.std.proofs.Common.{◌≡◌, ℕ, ◌+◌, ◌*◌, ◌<◌, ◌≤◌, pos, ◌∷◌, Option, Some, None}
use Rattle.std.proofs.Common.{Bool, true, false, refl, ap, subst, ◌∙◌, arith}
use Rattle.std.specs.Prelude.{nat_le, nat_lt, slice_get, if◌then◌else◌}
use Rattle.std.proofs.lemmas.Bool.{lt-ltb}
use Rattle.attrs.specs.Attributes.{Attributes}
use Rattle.cells.specs.declared.array.CellArray.{CellArray}
use Rattle.cells.specs.declared.event.CellOp.TheVariants.{Add}
use Rattle.bpf_insn.specs.declared.operand.AtomicSize.{AtomicSize}
use Rattle.bpf_insn.specs.declared.operand.AtomicSize.TheVariants.{Word, Double}
use Rattle.bpf_insn.specs.declared.operand.Bits.TheVariants.{Bits64}
use Rattle.bpf_insn.specs.declared.reg.Reg.TheVariants.{R2, R3}
use Rattle.bpf_insn.specs.Conditions.{holds}
use Rattle.bpf_insn.specs.Program.{Program, ◌>>=◌}
use Rattle.bpf_semantics.specs.Memory.{address_of, cell_address}
use Rattle.bpf_semantics.specs.Memory.{cell_number, is_cell_address, cell_at}
use Rattle.bpf_semantics.specs.Program.{ShapedProgram}
use Rattle.bpf_semantics.specs.State.{State, with_register}
use Rattle.bpf_semantics.specs.Outcome.{write}
use Rattle.bpf_semantics.specs.Outcome as outcome
use Rattle.bpf_semantics.specs.Counters.{atomic_count}
use Rattle.bpf_semantics.specs.Step.{act}
use Rattle.rule_lang.specs.Meaning.{Behaviour, Operates}
use Rattle.rule_compile.specs.Instructions as insn
use Rattle.rule_compile.proofs.Labels.{next_here, next_wide}
use Rattle.rule_compile.proofs.Runs.{Comes, Nothing, Has, quiet, asks}

-- ---- addresses

-- a cell of this size: the first 4096 have eight bytes, the others four
abbrev pub IsCellOf : AtomicSize → ℕ → Type 0
IsCellOf Double c = c < 4096
IsCellOf Word c = (4096 ≤ c) × (c < 8192)

number_is : (c : ℕ) → cell_number (cell_address c) ≡ c
number_is c = omega arith

address_is : (c : ℕ) → c < 8192 → is_cell_address (cell_address c) ≡ true
address_is c h = rw (number_is c, lt-ltb c 8192 h) (grind arith)

-- at offset 0, the address of a cell is its own
pub own_address : (c : ℕ) → c < 8192 → address_of (cell_address c) (pos 0) ≡ cell_address c
own_address c h = omega (arith, h)

pub reached : (size : AtomicSize) (c : ℕ) → IsCellOf size c
    → cell_at (cell_address c) (atomic_count size) ≡ Some c
reached Double c h = grind (arith, h)
reached Word c h = grind (arith, h.0, h.1)

indexed : (base index : ℕ) → base + index < 8192
    → address_of (cell_address base) (pos (8 * index)) ≡ cell_address (base + index)
indexed base index h = omega (arith, h)

-- ---- the reply and the quota

lt_turned : {A : Type 0} (r quota : ℕ) (x y : A)
    → (if nat_le quota r then x else y) ≡ (if nat_lt r quota then y else x)
lt_turned r quota x y = grind arith

-- whether the jump is taken
abbrev pub taken : Bool → ℕ → ℕ → Bool
taken sense r quota = holds Bits64 (insn.below sense) r quota

pub by_quota : (sense : Bool) (r quota : ℕ) (x y : Behaviour)
    → (if taken sense r quota then x else y) ≡ (if nat_lt r quota then (if sense then x else y)
    else (if sense then y else x))
by_quota true r quota x y = refl
by_quota false r quota x y = lt_turned r quota x y

module _ (p : ShapedProgram) (a : Attributes) where
  -- R3 has the address of the cell
  abbrev pub HasCell : ℕ → State → Type 0
  HasCell c s = s.registers 3 ≡ Some (cell_address c)

  abbrev pub HasOne : ℕ → State → Type 0
  HasOne c s = HasCell c s × (s.registers 2 ≡ Some 1)

  pub cell_then : (array index c : ℕ) (found : CellArray) (q : Program) (choice : ℕ) (b : Behaviour)
      → slice_get p.shape.arrays array ≡ Some found → found.base + index ≡ c → c < 8192
      → Comes p a (HasCell c) q choice b
      → Comes p a (Nothing p a) (Some (insn.load_cell array index) ∷ None ∷ q) choice b
  cell_then array index c found q choice b is sum small rest s h known =
      let address : address_of (cell_address found.base) (pos (8 * index)) ≡ cell_address c =
      subst (λ (n : ℕ). address_of (cell_address found.base) (pos (8 * index)) ≡ cell_address n)
      sum (indexed found.base index (omega arith)) in
      quiet p a s (record (with_register s 3 (cell_address c))
      { slot = s.slot + 2; count = s.count + 1 }) (insn.load_cell array index)
      (None ∷ q) choice b h
      (ap (λ (o : Option CellArray). write s 2 R3
      (o >>= λ x. Some (address_of (cell_address x.base) (pos (8 * index))))) is
      ∙ ap (λ (n : ℕ). write s 2 R3 (Some n)) address)
      (rest _ (record {
        place = next_wide p.code s.slot
            (Some (insn.load_cell array index)) None q h.place;
        context = h.context;
        choice_is = h.choice_is;
        top = h.top;
        attributes = h.attributes;
      }) refl)

  pub one_then : (c : ℕ) (q : Program) (choice : ℕ) (b : Behaviour)
      → Comes p a (HasOne c) q choice b
      → Comes p a (HasCell c) (Some (insn.set_argument R2 1) ∷ q) choice b
  one_then c q choice b rest s h known =
      quiet p a s (record (with_register s 2 1) { slot = s.slot + 1; count = s.count + 1 })
      (insn.set_argument R2 1) q choice b h refl
      (rest _ (record {
        place = next_here p.code s.slot
            (Some (insn.set_argument R2 1)) q h.place;
        context = h.context;
        choice_is = h.choice_is;
        top = h.top;
        attributes = h.attributes;
      }) (known, refl))

  -- the cell that an atomic operation at R3 uses
  found_cell : (size : AtomicSize) (c : ℕ) → IsCellOf size c
      → cell_at (address_of (cell_address c) (pos 0)) (atomic_count size) ≡ Some c
  found_cell Double c h = rw (own_address c (omega (arith, h))) (reached Double c h)
  found_cell Word c h = rw (own_address c h.1) (reached Word c h)

  pub below_all : (size : AtomicSize) (c : ℕ) → IsCellOf size c → c < 8192
  below_all Double c h = omega (arith, h)
  below_all Word c h = h.1

  pub add_then : (size : AtomicSize) (c : ℕ) (q : Program) (choice : ℕ) (b : Behaviour)
      → IsCellOf size c → Comes p a (Nothing p a) q choice b
      → Comes p a (HasOne c) (Some (insn.add_to_cell size) ∷ q) choice (Operates c (Add 1) (λ r. b))
  add_then size c q choice b cell rest s h known =
      asks p a s (λ r. record s { slot = s.slot + 1; count = s.count + 1 })
      (insn.add_to_cell size) q choice c (Add 1) (λ r. b) h
      (adds size known.0 known.1 (found_cell size c cell))
      (λ r. rest _ (record {
        place = next_here p.code s.slot
            (Some (insn.add_to_cell size)) q h.place;
        context = h.context;
        choice_is = h.choice_is;
        top = h.top;
        attributes = h.attributes;
      }) tt)
    where
      adds : (size : AtomicSize) → s.registers 3 ≡ Some (cell_address c) → s.registers 2 ≡ Some 1
          → cell_at (address_of (cell_address c) (pos 0)) (atomic_count size) ≡ Some c
          → act p.shape s (insn.add_to_cell size) ≡ outcome.Operates c (Add 1)
          (λ r. record s { slot = s.slot + 1; count = s.count + 1 })
      adds Word three two is = rw (three, is, two) refl
      adds Double three two is = rw (three, is, two) refl

  pub take_then : (c : ℕ) (q : Program) (choice : ℕ) (next : ℕ → Behaviour) → c < 4096
      → ((r : ℕ) → Comes p a (Has p a 2 r) q choice (next r))
      → Comes p a (HasOne c) (Some insn.take_from_cell ∷ q) choice (Operates c (Add 1) next)
  take_then c q choice next cell rest s h known =
      asks p a s (λ r. record (with_register s 2 r) { slot = s.slot + 1; count = s.count + 1 })
      insn.take_from_cell q choice c (Add 1) next h takes
      (λ r. rest r _ (record {
        place = next_here p.code s.slot (Some insn.take_from_cell) q h.place;
        context = h.context;
        choice_is = h.choice_is;
        top = h.top;
        attributes = h.attributes;
      }) refl)
    where
      is : cell_at (address_of (cell_address c) (pos 0)) 8 ≡ Some c
      is = found_cell Double c cell

      takes : act p.shape s insn.take_from_cell ≡ outcome.Operates c (Add 1)
          (λ r. record (with_register s 2 r) { slot = s.slot + 1; count = s.count + 1 })
      takes = rw (known.0, is, known.1) refl
