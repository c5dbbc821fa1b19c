-- A count and a take as pieces of a rule's code.
use Rattle.std.proofs.Common.{◌≡◌, ℕ, ◌+◌, ◌-◌, ◌<◌, pos, ◌∷◌, drop, length, Option, Some, None}
use Rattle.std.proofs.Common.{Bool, true, false, refl, ap, subst, ◌∙◌, arith}
use Rattle.std.specs.Prelude.{nat_lt, slice_get, if◌then◌else◌}
use Rattle.attrs.specs.Attributes.{Attributes}
use Rattle.cells.specs.declared.array.CellArray.{CellArray}
use Rattle.cells.specs.declared.event.CellOp.TheVariants.{Add}
use Rattle.bpf_insn.specs.declared.operand.AtomicSize.{AtomicSize}
use Rattle.bpf_insn.specs.declared.operand.Bits.TheVariants.{Bits64}
use Rattle.bpf_insn.specs.declared.reg.Reg.TheVariants.{R2}
use Rattle.bpf_insn.specs.Conditions.{holds}
use Rattle.bpf_insn.specs.Program.{Program}
use Rattle.bpf_semantics.specs.Program.{ShapedProgram}
use Rattle.bpf_semantics.specs.State.{State, with_register}
use Rattle.bpf_semantics.specs.Outcome.{branch}
use Rattle.bpf_semantics.specs.Reads.{both}
use Rattle.bpf_semantics.specs.Step.{act}
use Rattle.rule_lang.specs.Meaning.{Behaviour, Operates}
use Rattle.rule_compile.specs.Instructions as insn
use Rattle.rule_compile.specs.Blocks as code
use Rattle.rule_compile.proofs.Labels.{from_label, next_here, later_here, next_wide}
use Rattle.rule_compile.proofs.Runs.{EndsAs, Comes, Nothing, Has, quiet}
use Rattle.rule_compile.proofs.Counters.{IsCellOf, add_then, below_all, by_quota}
use Rattle.rule_compile.proofs.Counters.{cell_then, one_then, take_then, taken}

module _ (p : ShapedProgram) (a : Attributes) where
  -- ---- count, as a piece

  pub count_runs : (size : AtomicSize) (array index c : ℕ) (found : CellArray) (q : Program)
      (choice : ℕ) (b : Behaviour) → slice_get p.shape.arrays array ≡ Some found
      → found.base + index ≡ c → IsCellOf size c
      → Comes p a (Nothing p a) q choice b
      → Comes p a (Nothing p a) (code.count_code size array index q) choice
      (Operates c (Add 1) (λ r. b))
  count_runs size array index c found q choice b is sum cell rest =
      let asked : Behaviour = Operates c (Add 1) (λ r. b) in
      cell_then p a array index c found (Some (insn.set_argument R2 1) ∷ Some
      (insn.add_to_cell size) ∷ q) choice asked is sum (below_all p a size c cell)
      (one_then p a c (Some (insn.add_to_cell size) ∷ q) choice asked
      (add_then p a size c q choice b cell rest))

  -- ---- take, as a piece

  -- R2 has the reply, and R4 the quota
  abbrev pub HasBoth : ℕ → ℕ → State → Type 0
  HasBoth r quota s = (s.registers 2 ≡ Some r) × (s.registers 4 ≡ Some quota)

  quota_then : (r quota : ℕ) (q : Program) (choice : ℕ) (b : Behaviour)
      → Comes p a (HasBoth r quota) q choice b
      → Comes p a (Has p a 2 r) (Some (insn.load_quota quota) ∷ None ∷ q) choice b
  quota_then r quota q choice b rest s h known =
      quiet p a s (record (with_register s 4 quota) { slot = s.slot + 2; count = s.count + 1 })
      (insn.load_quota quota) (None ∷ q) choice b h refl
      (rest _ (record {
        place = next_wide p.code s.slot
            (Some (insn.load_quota quota)) None q h.place;
        context = h.context;
        choice_is = h.choice_is;
        top = h.top;
        attributes = h.attributes;
      }) (known, refl))

  within_then : (sense : Bool) (k r quota : ℕ) (q : Program) (choice : ℕ) (there on : Behaviour)
      → Comes p a (Nothing p a) (drop k q) choice there → Comes p a (Nothing p a) q choice on
      → Comes p a (HasBoth r quota) (Some (insn.jump_on_quota sense k) ∷ q) choice
      (if taken sense r quota then there else on)
  within_then sense k r quota q choice there on to next s h known =
      by_case (taken sense r quota) refl
    where
      branch_is : act p.shape s (insn.jump_on_quota sense k) ≡ branch s (pos k)
          (Some (taken sense r quota))
      branch_is = ap (λ (o : Option ℕ). branch s (pos k)
          (both (holds Bits64 (insn.below sense)) o (s.registers 4))) known.0
          ∙ ap (λ (o : Option ℕ). branch s (pos k)
          (both (holds Bits64 (insn.below sense)) (Some r) o)) known.1

      by_case : (b : Bool) → taken sense r quota ≡ b → EndsAs p a s (if b then there else on)
      by_case true is =
          quiet p a s (record s { slot = s.slot + 1 + k; count = s.count + 1 })
          (insn.jump_on_quota sense k) q choice there h
          (branch_is ∙ ap (λ (b : Bool). branch s (pos k) (Some b)) is)
          (to _ (record {
            place = later_here p.code s.slot k
                (Some (insn.jump_on_quota sense k)) q h.place;
            context = h.context;
            choice_is = h.choice_is;
            top = h.top;
            attributes = h.attributes;
          }) tt)
      by_case false is =
          quiet p a s (record s { slot = s.slot + 1; count = s.count + 1 })
          (insn.jump_on_quota sense k) q choice on h
          (branch_is ∙ ap (λ (b : Bool). branch s (pos k) (Some b)) is)
          (next _ (record {
            place = next_here p.code s.slot
                (Some (insn.jump_on_quota sense k)) q h.place;
            context = h.context;
            choice_is = h.choice_is;
            top = h.top;
            attributes = h.attributes;
          }) tt)

  pub take_runs : (array index c quota : ℕ) (found : CellArray) (sense : Bool) (l : ℕ) (q : Program)
      (choice : ℕ) (x y : Behaviour) → slice_get p.shape.arrays array ≡ Some found
      → found.base + index ≡ c → c < 4096
      → Comes p a (Nothing p a) (from_label q l) choice x → Comes p a (Nothing p a) q choice y
      → Comes p a (Nothing p a) (code.take_code array index quota sense l q) choice
      (Operates c (Add 1) (λ r. if nat_lt r quota then (if sense then x else y)
      else (if sense then y else x)))
  unfolding from_label
  take_runs array index c quota found sense l q choice x y is sum cell to on =
      let jump : Program = Some (insn.jump_on_quota sense (length q - l)) ∷ q in
      let next = λ (r : ℕ). if nat_lt r quota then (if sense then x else y)
      else (if sense then y else x) in
      cell_then p a array index c found
      (Some (insn.set_argument R2 1) ∷ Some insn.take_from_cell ∷ Some
      (insn.load_quota quota) ∷ None ∷ jump) choice (Operates c (Add 1) next) is sum
      (omega (arith, cell))
      (one_then p a c (Some insn.take_from_cell ∷ Some (insn.load_quota quota) ∷ None ∷ jump) choice
      (Operates c (Add 1) next)
      (take_then p a c (Some (insn.load_quota quota) ∷ None ∷ jump) choice next cell
      (λ r. quota_then r quota jump choice (next r)
      (subst (λ (b : Behaviour). Comes p a (HasBoth r quota) jump choice b)
      (by_quota sense r quota x y) (within_then sense
      (length q - l) r quota q choice x y to on)))))
