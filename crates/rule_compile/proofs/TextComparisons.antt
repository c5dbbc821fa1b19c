-- Code that compares a text on the stack with an attribute has the comparison's behaviour.
use Rattle.std.proofs.Common.{◌≡◌, ℕ, ◌+◌, ◌-◌, ◌%◌, ◌<◌, ◌≤◌, ◌^◌, List, [], ◌∷◌, length}
use Rattle.std.proofs.Common.{Option, Some, None, Bool, true, false, refl, ap, subst, ◌∙◌, arith}
use Rattle.std.specs.Prelude.{nat_le, ◌==◌, ◌||◌, bytes_eq, if◌then◌else◌}
use Rattle.std.specs.Int.{w32}
use Rattle.std.proofs.lemmas.Bool.{le-leb}
use Rattle.attrs.specs.Attributes.{Attributes}
use Rattle.attrs.specs.Helpers.{attribute, is_text, attr_is}
use Rattle.bpf_insn.specs.Program.{Program, ◌>>=◌}
use Rattle.bpf_semantics.specs.Memory.{stack_top, stack_start, set_bytes}
use Rattle.bpf_semantics.specs.Program.{ShapedProgram}
use Rattle.bpf_semantics.specs.State.{State, with_register, with_result, stack_bytes}
use Rattle.bpf_semantics.specs.Outcome.{write, answer}
use Rattle.bpf_semantics.specs.Calls.{compared}
use Rattle.bpf_insn.specs.declared.reg.Reg.TheVariants.{R0, R1, R2, R3}
use Rattle.bpf_insn.specs.declared.operand.Condition.TheVariants.{Ne}
use Rattle.bpf_insn.specs.Conditions.{compares}
use Rattle.rule_lang.specs.Meaning.{Behaviour}
use Rattle.rule_compile.specs.Instructions as insn
use Rattle.rule_compile.specs.Blocks as code
use Rattle.rule_compile.proofs.Labels.{next_here, from_label}
use Rattle.rule_compile.proofs.Compares.{by_sense}
use Rattle.rule_compile.proofs.Runs.{Comes, Nothing, Has, knowing, quiet, jump_then}
use Rattle.rule_compile.proofs.StackTexts.{AreBytes, OnStack, or_true, read_back, stores_then}

module _ (p : ShapedProgram) (a : Attributes) where
  -- ---- the comparison

  -- the stack has the text, and the registers so far are the helper's arguments
  abbrev pub HasNumber : List ℕ → ℕ → State → Type 0
  HasNumber text n s = OnStack p a text s × (s.registers 1 ≡ Some n)

  abbrev pub HasAddress : List ℕ → ℕ → ℕ → State → Type 0
  HasAddress text n x s = OnStack p a text s × (s.registers 1 ≡ Some n) × (s.registers 2 ≡ Some x)

  abbrev pub HasLength : List ℕ → ℕ → State → Type 0
  HasLength text n s = OnStack p a text s × (s.registers 1 ≡ Some n)
      × (s.registers 2 ≡ Some (stack_top - 64)) × (s.registers 3 ≡ Some (length text))

  number_then : (text : List ℕ) (n : ℕ) (q : Program) (choice : ℕ) (b : Behaviour)
      → Comes p a (HasNumber text n) q choice b
      → Comes p a (OnStack p a text) (Some (insn.set_argument R1 n) ∷ q) choice b
  number_then text n q choice b rest s h known =
      quiet p a s (record (with_register s 1 n) { slot = s.slot + 1; count = s.count + 1 })
      (insn.set_argument R1 n) q choice b h refl
      (rest _ (record {
        place = next_here p.code s.slot
            (Some (insn.set_argument R1 n)) q h.place;
        context = h.context;
        choice_is = h.choice_is;
        top = h.top;
        attributes = h.attributes;
      }) (known, refl))

  top_then : (text : List ℕ) (n : ℕ) (q : Program) (choice : ℕ) (b : Behaviour)
      → Comes p a (HasAddress text n stack_top) q choice b
      → Comes p a (HasNumber text n) (Some insn.copy_top ∷ q) choice b
  top_then text n q choice b rest s h known =
      quiet p a s (record (with_register s 2 stack_top) { slot = s.slot + 1; count = s.count + 1 })
      insn.copy_top q choice b h
      (ap (λ (o : Option ℕ). write s 1 R2 (o >>= λ x. Some x)) h.top)
      (rest _ (record {
        place = next_here p.code s.slot (Some insn.copy_top) q h.place;
        context = h.context;
        choice_is = h.choice_is;
        top = h.top;
        attributes = h.attributes;
      })
      (known.0, known.1, refl))

  point_then : (text : List ℕ) (n : ℕ) (q : Program) (choice : ℕ) (b : Behaviour)
      → Comes p a (HasAddress text n (stack_top - 64)) q choice b
      → Comes p a (HasAddress text n stack_top) (Some insn.point_at_text ∷ q) choice b
  point_then text n q choice b rest s h known =
      quiet p a s (record (with_register s 2 (stack_top - 64))
      { slot = s.slot + 1; count = s.count + 1 }) insn.point_at_text q choice b h
      (ap (λ (o : Option ℕ). write s 1 R2 (o >>= λ x. Some ((x + (2 ^ 64 - 64)) % 2 ^ 64))) known.2)
      (rest _ (record {
        place = next_here p.code s.slot
            (Some insn.point_at_text) q h.place;
        context = h.context;
        choice_is = h.choice_is;
        top = h.top;
        attributes = h.attributes;
      }) (known.0, known.1, refl))

  length_then : (text : List ℕ) (n : ℕ) (q : Program) (choice : ℕ) (b : Behaviour)
      → Comes p a (HasLength text n) q choice b
      → Comes p a (HasAddress text n (stack_top - 64))
      (Some (insn.set_argument R3 (length text)) ∷ q) choice b
  length_then text n q choice b rest s h known =
      quiet p a s (record (with_register s 3 (length text))
      { slot = s.slot + 1; count = s.count + 1 })
      (insn.set_argument R3 (length text)) q choice b h refl
      (rest _ (record {
        place = next_here p.code s.slot
            (Some (insn.set_argument R3 (length text))) q h.place;
        context = h.context;
        choice_is = h.choice_is;
        top = h.top;
        attributes = h.attributes;
      }) (known.0, known.1, known.2, refl))

  -- what the helper reads
  bytes_read : (s : State) (text : List ℕ) → length text ≤ 64 → OnStack p a text s
      → stack_bytes s (stack_top - 64) (length text) ≡ Some text
  bytes_read s text short known =
      let low : nat_le stack_start (stack_top - 64) ≡ true = refl in
      let high : nat_le (stack_top - 64 + length text) (stack_start + 512) ≡ true =
      le-leb (stack_top - 64 + length text) (stack_start + 512) (omega (arith, short)) in
      ap (λ (b : Bool). if ((length text == 0) || b) then set_bytes s.stack 448
      (length text) else None) high ∙ or_true (length text == 0)
      (set_bytes s.stack 448 (length text)) ∙ read_back text 448 s.stack known

  compare_then : (text : List ℕ) (n : ℕ) (q : Program) (choice : ℕ) (b : Behaviour)
      → length text ≤ 64 → Comes p a (Has p a 0 (attr_is a n text)) q choice b
      → Comes p a (HasLength text n) (Some (insn.call 2) ∷ q) choice b
  compare_then text n q choice b short rest s h known =
      quiet p a s (record (with_result s (attr_is a n text))
      { slot = s.slot + 1; count = s.count + 1 }) (insn.call 2) q choice b h
      (ap (λ (o : Option ℕ). answer s
      (o >>= λ number. s.registers 2 >>= λ address. s.registers 3 >>= λ k. compared s number
      address k)) known.1
      ∙ ap (λ (o : Option ℕ). answer s
      (o >>= λ address. s.registers 3 >>= λ k. compared s n address k)) known.2
      ∙ ap (λ (o : Option ℕ). answer s (o >>= λ k. compared s n (stack_top - 64) k)) known.3
      ∙ ap (λ (b : Bool). answer s (if b
      then (stack_bytes s (stack_top - 64) (length text) >>= λ bytes. Some
      (attr_is s.attributes n bytes)) else None)) (le-leb (length text) 64 short)
      ∙ ap (λ (o : Option (List ℕ)). answer s (o >>= λ bytes. Some (attr_is s.attributes n bytes)))
      (bytes_read s text short known.0)
      ∙ ap (λ (c : Attributes). answer s (Some (attr_is c n text))) h.attributes)
      (rest _ (record {
        place = next_here p.code s.slot (Some (insn.call 2)) q h.place;
        context = h.context;
        choice_is = h.choice_is;
        top = h.top;
        attributes = h.attributes;
      }) refl)

  -- ---- an attribute's text, as a piece

  small_answer : (n : ℕ) (text : List ℕ) → attr_is a n text < 2 ^ 32
  small_answer n text = on_text (attribute a n)
    where
      on_bool : (b : Bool) → (if b then 1 else 0) < 2 ^ 32
      on_bool true = omega arith
      on_bool false = omega arith

      on_text : (o : Option (List ℕ)) → is_text text o < 2 ^ 32
      on_text None = omega arith
      on_text (Some t) = on_bool (bytes_eq t text)

  pub attribute_runs : (n : ℕ) (text : List ℕ) (sense : Bool) (l : ℕ) (q : Program) (choice : ℕ)
      (x y : Behaviour) → length text ≤ 64 → AreBytes text
      → Comes p a (Nothing p a) (from_label q l) choice x → Comes p a (Nothing p a) q choice y
      → Comes p a (Nothing p a) (code.attribute_code n text sense l q) choice
      (if compares w32 Ne (attr_is a n text) 0 then (if sense then x else y)
      else (if sense then y else x))
  unfolding from_label
  attribute_runs n text sense l q choice x y short bytes to on =
      let jump : Program = Some (insn.jump_if (insn.turned sense Ne) R0 0 (length q - l)) ∷ q in
      let v : ℕ = attr_is a n text in
      let b : Behaviour = if compares w32 Ne v 0 then (if sense then x else y)
      else (if sense then y else x) in
      let jumps : Comes p a (Has p a 0 v) jump choice b =
      subst (Comes p a (Has p a 0 v) jump choice) (by_sense Ne sense v 0 x y tt)
      (jump_then p a (insn.turned sense Ne) R0 0 (length q - l) v q choice x y (small_answer n text)
      (omega arith) to (knowing p a (Has p a 0 v) q choice y on)) in
      let fourth : Program = Some (insn.call 2) ∷ jump in
      let third : Program = Some (insn.set_argument R3 (length text)) ∷ fourth in
      let second : Program = Some insn.point_at_text ∷ third in
      let first : Program = Some insn.copy_top ∷ second in
      λ s h known.
      stores_then p a [] text 63 (Some (insn.set_argument R1 n) ∷ first) choice b refl refl
      (omega (arith, short)) bytes
      (number_then text n first choice b
      (top_then text n second choice b
      (point_then text n third choice b
      (length_then text n fourth choice b (compare_then text n jump choice b short jumps))))) s
      h (λ i c is. absurd cc)
