-- The code of a comparison with a text, and of counters, in front of typed code.
use Rattle.std.proofs.Common.{◌≡◌, ℕ, ◌+◌, ◌-◌, ◌%◌, ◌<◌, ◌≤◌, ◌^◌}
use Rattle.std.proofs.Common.{List, [], ◌∷◌, length, Some, None, Bool, false, refl, subst, arith}
use Rattle.std.specs.Prelude.{slice_get}
use Rattle.bpf_insn.specs.declared.insn.Insn.{Insn}
use Rattle.bpf_insn.specs.declared.operand.AtomicSize.{AtomicSize}
use Rattle.bpf_insn.specs.declared.operand.Condition.TheVariants as jump
use Rattle.bpf_insn.specs.declared.reg.Reg.TheVariants.{R0, R1, R2, R3, R4, R10}
use Rattle.bpf_insn.specs.Program.{Program}
use Rattle.bpf_insn.specs.Words.{little_endian}
use Rattle.cells.specs.declared.array.CellArray.{CellArray}
use Rattle.cells.specs.Arrays.{AppShape}
use Rattle.abs_value.specs.declared.origin.Origin.TheVariants.{Fixed}
use Rattle.abs_value.specs.declared.value.Abs.{Abs}
use Rattle.abs_value.specs.declared.value.Abs.TheVariants.{Unusable, Num, Stk, Cell}
use Rattle.abs_value.specs.Numbers.{single}
use Rattle.bpf_checks.specs.Arrays.{has_quota}
use Rattle.bpf_verify.specs.Table.{SlotFacts}
use Rattle.rule_compile.specs.Instructions as insn
use Rattle.rule_compile.specs.Blocks as code
use Rattle.rule_compile.proofs.Counters.{IsCellOf}
use Rattle.rule_compile.proofs.Typed.{nothing}
use Rattle.rule_compile.proofs.Entries.{any, none_set, frame, choice, chosen, Takes}
use Rattle.rule_compile.proofs.InsnSteps.{set_step, copy_step, wide_step}
use Rattle.rule_compile.proofs.JumpSteps.{quota_jump_step}
use Rattle.rule_compile.proofs.CellSteps.{cell_step, add_step, take_step}
use Rattle.rule_compile.proofs.StackSteps.{store_step, point_step, compare_step}
use Rattle.rule_compile.proofs.StackBytes.{text_set, with_text, text_place}
use Rattle.rule_compile.proofs.Fronts.{IsLabel, IsRest, IsTail, IsFront, takes_here}
use Rattle.rule_compile.proofs.Fronts.{takes_behind, takes_more, tail_itself, put}
use Rattle.rule_compile.proofs.Fronts.{put_half, put_first, front_of, asked, answer_tail}

-- ---- texts

-- the bytes that the stores of a text set, in whole words
abbrev pub padded : List ℕ → ℕ
padded [] = 0
padded (a ∷ []) = 4
padded (a ∷ b ∷ []) = 4
padded (a ∷ b ∷ c ∷ []) = 4
padded (a ∷ b ∷ c ∷ d ∷ text) = 4 + padded text

padded_longer : (text : List ℕ) → length text ≤ padded text
padded_longer [] = omega arith
padded_longer (a ∷ []) = omega arith
padded_longer (a ∷ b ∷ []) = omega arith
padded_longer (a ∷ b ∷ c ∷ []) = omega arith
padded_longer (a ∷ b ∷ c ∷ d ∷ text) = let h = padded_longer text in omega (arith, h)

module _ (shape : AppShape) where
  -- between two pieces, with n bytes of a text set
  abbrev pub storing : ℕ → SlotFacts
  storing n = with_text (chosen shape) n

  -- no byte yet
  storing_none : (q : Program) (ds : List SlotFacts) → Takes q ds 0 (storing 0)
      → Takes q ds 0 (chosen shape)
  storing_none q ds h = record {
    place = h.place;
    known = λ f knows. h.known f (record {
      long = knows.long;
      wide = knows.wide;
      each = knows.each;
      bytes = λ place lt set. let range = text_place 0 place set in
          absurd (omega (arith, range.0, range.1));
    });
  }

  -- a tail at whose start n bytes are set
  record Stores (q' q : Program) (ds : List SlotFacts) (n : ℕ) : Type 0 where
    tail : IsTail shape q' q ds
    takes : Takes q' tail.entries 0 (storing n)

  one_store : (n left word : ℕ) (q' q : Program) (ds : List SlotFacts) (t : IsTail shape q' q ds)
      → n + left ≡ 63 → n % 4 ≡ 0 → Takes q' t.entries 0 (storing (n + 4))
      → Stores (Some (insn.store_word left word) ∷ q') q ds n
  one_store n left word q' q ds t sum four takes = record {
    tail = put shape (insn.store_word left word) (storing n) q' q ds t
        (store_step shape n left word (chosen shape) q' t.entries sum four refl takes);
    takes = takes_here (insn.store_word left word) q' (storing n) t.entries;
  }

  stores : (n left : ℕ) (text : List ℕ) (q' q : Program) (ds : List SlotFacts)
      (t : IsTail shape q' q ds) → left ≡ 63 - n → n % 4 ≡ 0 → n + length text ≤ 64
      → Takes q' t.entries 0 (storing (n + padded text))
      → Stores (code.stores_code left text q') q ds n
  stores n left [] q' q ds t is four short takes =
      record {
        tail = t;
        takes = let e : n + 0 ≡ n = omega arith in
            subst (λ (m : ℕ). Takes q' t.entries 0 (storing m)) e takes;
      }
  stores n left (a ∷ []) q' q ds t is four short takes =
      one_store n left (little_endian (a ∷ [])) q' q ds t (omega (arith, is, short)) four takes
  stores n left (a ∷ b ∷ []) q' q ds t is four short takes =
      one_store n left (little_endian (a ∷ b ∷ [])) q' q ds t (omega (arith, is, short)) four takes
  stores n left (a ∷ b ∷ c ∷ []) q' q ds t is four short takes =
      one_store n left (little_endian (a ∷ b ∷ c ∷ [])) q' q ds t
      (omega (arith, is, short)) four takes
  stores n left (a ∷ b ∷ c ∷ d ∷ text) q' q ds t is four short takes =
      let e : n + (4 + padded text) ≡ n + 4 + padded text = omega arith in
      let behind = stores (n + 4) (left - 4) text q' q ds t (omega (arith, is, short))
      (omega (arith, four)) (omega (arith, short))
      (subst (λ (m : ℕ). Takes q' t.entries 0 (storing m)) e takes) in
      one_store n left (little_endian (a ∷ b ∷ c ∷ d ∷ []))
      (code.stores_code (left - 4) text q') q ds behind.tail
      (omega (arith, is, short)) four behind.takes

  -- the helper's arguments in turn
  abbrev arguments : Abs → Abs → Abs → ℕ → SlotFacts
  arguments one two three m = frame Unusable one two three Unusable (choice shape) (text_set m)

  pub attribute_front : (attribute : ℕ) (text : List ℕ) (sense : Bool) (l : ℕ) (q : Program)
      (ds : List SlotFacts) → attribute < 64 → length text ≤ 64 → IsRest shape q ds
      → IsLabel shape q ds l
      → IsFront shape (code.attribute_code attribute text sense l q) q ds
  attribute_front attribute text sense l q ds small short h label =
      let n : ℕ = length text in
      let m : ℕ = padded text in
      let away : Insn = insn.jump_if (insn.turned sense jump.Ne) R0 0 (length q - l) in
      let q1 : Program = Some away ∷ q in
      let t1 : IsTail shape q1 q ds =
      answer_tail shape (insn.turned sense jump.Ne) 0 l (text_set m) q ds h label in
      let d2 : SlotFacts = arguments (Num any) (Stk 448) (Num (single n)) m in
      let q2 : Program = Some (insn.call 2) ∷ q1 in
      let t2 : IsTail shape q2 q ds =
      put shape (insn.call 2) d2 q1 q ds t1
      (compare_step shape n m d2 q1 t1.entries short (padded_longer text) refl refl refl
      (takes_here away q (asked shape (text_set m)) ds)) in
      let d3 : SlotFacts = arguments (Num any) (Stk 448) Unusable m in
      let q3 : Program = Some (insn.set_argument R3 n) ∷ q2 in
      let t3 : IsTail shape q3 q ds =
      put shape (insn.set_argument R3 n) d3 q2 q ds t2
      (set_step shape R3 n (Num (single n)) d3 q2 t2.entries refl
      (omega arith, omega arith, omega arith) (takes_here (insn.call 2) q1 d2 t1.entries)) in
      let d4 : SlotFacts = arguments (Num any) (Stk 512) Unusable m in
      let q4 : Program = Some insn.point_at_text ∷ q3 in
      let t4 : IsTail shape q4 q ds =
      put shape insn.point_at_text d4 q3 q ds t3
      (point_step shape d4 q3 t3.entries refl
      (takes_here (insn.set_argument R3 n) q2 d3 t2.entries)) in
      let d5 : SlotFacts = arguments (Num any) Unusable Unusable m in
      let q5 : Program = Some insn.copy_top ∷ q4 in
      let t5 : IsTail shape q5 q ds =
      put shape insn.copy_top d5 q4 q ds t4
      (copy_step shape R2 R10 (Stk 512) d5 q4 t4.entries refl refl refl
      (takes_here insn.point_at_text q3 d4 t3.entries)) in
      let d6 : SlotFacts = storing m in
      let q6 : Program = Some (insn.set_argument R1 attribute) ∷ q5 in
      let t6 : IsTail shape q6 q ds =
      put shape (insn.set_argument R1 attribute) d6 q5 q ds t5
      (set_step shape R1 attribute (Num any) d6 q5 t5.entries refl
      (omega arith, omega arith, omega (arith, small))
      (takes_here insn.copy_top q4 d5 t4.entries)) in
      let done = stores 0 63 text q6 q ds t6 refl refl (omega (arith, short))
      (subst (λ (k : ℕ). Takes q6 t6.entries 0 (storing k)) (nothing_more m)
      (takes_here (insn.set_argument R1 attribute) q5 d6 t5.entries)) in
      front_of shape (code.stores_code 63 text q6) q ds done.tail
      (storing_none (code.stores_code 63 text q6) done.tail.entries done.takes)
    where
      nothing_more : (m : ℕ) → m ≡ 0 + m
      nothing_more m = omega arith

  -- ---- counters

  -- the address of a cell, and numbers
  abbrev counting : Abs → Abs → Abs → SlotFacts
  counting two three four = frame Unusable Unusable two three four (choice shape) none_set

  pub count_front : (size : AtomicSize) (array index c : ℕ) (a : CellArray) (q : Program)
      (ds : List SlotFacts) → slice_get shape.arrays array ≡ Some a → index < a.length
      → a.base + index ≡ c → IsCellOf size c → has_quota shape (Fixed c) ≡ false
      → IsRest shape q ds → IsFront shape (code.count_code size array index q) q ds
  count_front size array index c a q ds found within sum cell free h =
      let d1 : SlotFacts = counting (Num (single 1)) (Cell (Fixed c)) Unusable in
      let q1 : Program = Some (insn.add_to_cell size) ∷ q in
      let t1 : IsTail shape q1 q ds =
      put shape (insn.add_to_cell size) d1 q q ds (tail_itself shape q ds h)
      (add_step shape size c d1 q ds refl refl cell free
      (takes_more shape Unusable Unusable (Num (single 1))
      (Cell (Fixed c)) Unusable none_set q ds 0 h.first)) in
      let d2 : SlotFacts = counting Unusable (Cell (Fixed c)) Unusable in
      let q2 : Program = Some (insn.set_argument R2 1) ∷ q1 in
      let t2 : IsTail shape q2 q ds =
      put shape (insn.set_argument R2 1) d2 q1 q ds t1
      (set_step shape R2 1 (Num (single 1)) d2 q1 t1.entries refl
      (omega arith, omega arith, omega arith) (takes_here (insn.add_to_cell size) q d1 ds)) in
      put_first shape (insn.load_cell array index) (None ∷ q2) q ds (put_half shape q2 q ds t2)
      (cell_step shape array index c a (chosen shape) q2 (nothing ∷ t2.entries) found within sum
      (takes_behind (insn.set_argument R2 1) q1 nothing d2 t1.entries))

  pub take_front : (array index c quota : ℕ) (a : CellArray) (sense : Bool) (l : ℕ) (q : Program)
      (ds : List SlotFacts) → slice_get shape.arrays array ≡ Some a → index < a.length
      → a.base + index ≡ c → c < 4096 → quota < 2 ^ 63
      → IsRest shape q ds → IsLabel shape q ds l
      → IsFront shape (code.take_code array index quota sense l q) q ds
  take_front array index c quota a sense l q ds found within sum cell small h label =
      let d1 : SlotFacts = counting (Num any) (Cell (Fixed c)) (Num any) in
      let away : Insn = insn.jump_on_quota sense (length q - l) in
      let q1 : Program = Some away ∷ q in
      let t1 : IsTail shape q1 q ds = put shape away d1 q q ds (tail_itself shape q ds h)
      (quota_jump_step shape sense (length q - l) d1 q ds refl refl
      (takes_more shape Unusable Unusable (Num any) (Cell (Fixed c))
      (Num any) none_set q ds 0 h.first)
      (takes_more shape Unusable Unusable (Num any) (Cell (Fixed c)) (Num any) none_set q ds
      (length q - l) label.takes)) in
      let d2 : SlotFacts = counting (Num any) (Cell (Fixed c)) Unusable in
      let q2 : Program = Some (insn.load_quota quota) ∷ None ∷ q1 in
      let t2 : IsTail shape q2 q ds =
      put shape (insn.load_quota quota) d2 (None ∷ q1) q ds (put_half shape q1 q ds t1)
      (wide_step shape R4 quota (Num any) d2 q1 (nothing ∷ t1.entries) refl
      (omega arith, omega arith, omega (arith, small)) (takes_behind away q nothing d1 ds)) in
      let d3 : SlotFacts = counting (Num (single 1)) (Cell (Fixed c)) Unusable in
      let q3 : Program = Some insn.take_from_cell ∷ q2 in
      let t3 : IsTail shape q3 q ds = put shape insn.take_from_cell d3 q2 q ds t2
      (take_step shape c d3 q2 t2.entries refl refl cell
      (takes_here (insn.load_quota quota) (None ∷ q1) d2 (nothing ∷ t1.entries))) in
      let d4 : SlotFacts = counting Unusable (Cell (Fixed c)) Unusable in
      let q4 : Program = Some (insn.set_argument R2 1) ∷ q3 in
      let t4 : IsTail shape q4 q ds =
      put shape (insn.set_argument R2 1) d4 q3 q ds t3
      (set_step shape R2 1 (Num (single 1)) d4 q3 t3.entries refl
      (omega arith, omega arith, omega arith)
      (takes_here insn.take_from_cell q2 d3 t2.entries)) in
      put_first shape (insn.load_cell array index) (None ∷ q4) q ds (put_half shape q4 q ds t4)
      (cell_step shape array index c a (chosen shape) q4 (nothing ∷ t4.entries) found within sum
      (takes_behind (insn.set_argument R2 1) q3 nothing d4 t3.entries))
