-- A program is explained place by place, from its first slot to its end.
use Rattle.std.proofs.Common.{◌≡◌, ℕ, ◌+◌, ◌<◌, ◌≤◌, List, [], ◌∷◌, ◌++◌, length, codes}
use Rattle.std.proofs.Common.{Option, Some, None, refl, sym, ap, ◌∙◌, subst, arith}
use Rattle.std.proofs.Common.{append_assoc, length-append, max, ◌-◌}
use Rattle.std.specs.Fmt.{decimal}
use Rattle.std.specs.Prelude.{IsSome, is_some}
use Rattle.std.proofs.Math.Seq.{append_snoc}
use Rattle.std.proofs.lemmas.List.{append-nil}
use Rattle.std.proofs.lemmas.Option.{same_Some, none-some}
use Rattle.bpf_insn.specs.declared.insn.Insn.{Insn}
use Rattle.bpf_insn.specs.declared.insn.Insn.TheVariants.{Wide}
use Rattle.bpf_insn.specs.Program.{Program, at, layout, slots}
use Rattle.bpf_insn.specs.Spelling.{width_of, slots_of}
use Rattle.bpf_text.specs.Listing.{bare_line}
use Rattle.bpf_text.specs.Remarks.{IsRemark, remarked_listing}
use Rattle.flow_check.specs.Edges.{next_of}
use Rattle.flow_check.specs.Flow.{IsLayout}
use Rattle.bpf_semantics.specs.Program.{ShapedProgram, shaped}
use Rattle.bpf_verify.specs.Accepted.{entry_of, IsFine, Fails, IsRefusal, FailsAt}
use Rattle.abs_value.specs.declared.state.AbsState.{AbsState}
use Rattle.bpf_checks.specs.Rules.{first_rule}
use Rattle.bpf_checks.specs.declared.refusal.Refusal.{Refusal}
use Rattle.bpf_checks.specs.declared.refusal.Refusal.TheVariants as refusal
use Rattle.bpf_checks.specs.declared.refusal.VerifierRule.{VerifierRule}
use Rattle.cells.specs.Arrays.{AppShape}
use Rattle.why_refused_program.specs.declared.way.Way.{Way}
use Rattle.why_refused_program.specs.Lines.{remark_at, way_on, way_from, way_unless, way_past_entry}
use Rattle.why_refused_program.specs.Lines.{comment, shown_text, line_with, lines_from}
use Rattle.why_refused_program.specs.Lines.{AddsLine, AreRemarks}
use Rattle.why_refused_program.specs.Lines.{IsPlain, IsExplained, WalkParts, ExplainsUpTo}
use Rattle.why_refused_program.proofs.Plain.{comment_remark}
use Rattle.why_refused_program.specs.Way.{still, way_past}

-- ---- a list of instructions and its slots

layout-append : (xs ys : List Insn) → layout (xs ++ ys) ≡ layout xs ++ layout ys
layout-append [] ys = refl
layout-append (i ∷ xs) ys =
    ap (λ (q : Program). slots i ++ q) (layout-append xs ys)
    ∙ sym (append_assoc (slots i) (layout xs) (layout ys))

-- the next list begins at the end of a list
at_after : (xs ys : Program) → at (xs ++ ys) (length xs) ≡ at ys 0
at_after [] ys = refl
at_after (x ∷ xs) ys = at_after xs ys

at_front : (i : Insn) (q : Program) → at (slots i ++ q) 0 ≡ Some i
at_front (Wide dst value) q = refl
at_front i q = refl

slots_len : (i : Insn) → length (slots i) ≡ slots_of (width_of i)
slots_len (Wide dst value) = refl
slots_len i = refl

first_of_layout : (is : List Insn) (i : Insn) → at (layout is) 0 ≡ Some i
    → (rest : List Insn) × (is ≡ i ∷ rest)
first_of_layout [] i e = absurd (none-some i e)
first_of_layout (j ∷ is) i e =
    let same : j ≡ i = same_Some j i (sym (at_front j (layout is)) ∙ e) in
    (is, ap (λ (k : Insn). k ∷ is) same)

module _ (code : Program) (slot : ℕ) (parts : WalkParts code slot) where
  at_rest : at code slot ≡ at (layout parts.rest) 0
  at_rest =
      ap (λ (q : Program). at q slot) (parts.code_is ∙ layout-append parts.front parts.rest)
      ∙ ap (at (layout parts.front ++ layout parts.rest)) parts.slot_is
      ∙ at_after (layout parts.front) (layout parts.rest)

  len_is : length code ≡ slot + length (layout parts.rest)
  len_is =
      ap length (parts.code_is ∙ layout-append parts.front parts.rest)
      ∙ length-append (layout parts.front) (layout parts.rest)
      ∙ ap (λ (n : ℕ). n + length (layout parts.rest)) (sym parts.slot_is)

  rest_at : (i : Insn) → at code slot ≡ Some i → (rest : List Insn) × (parts.rest ≡ i ∷ rest)
  rest_at i e = first_of_layout parts.rest i (sym at_rest ∙ e)

  -- there is an instruction at each slot that is reached before the end
  pub place_there : slot < length code → IsSome (at code slot)
  place_there lt = some_of parts.rest refl
    where
      some_of : (is : List Insn) → parts.rest ≡ is → IsSome (at code slot)
      some_of [] e =
          let none : length (layout parts.rest) ≡ 0 =
          ap (λ (is : List Insn). length (layout is)) e in
          absurd (omega (arith, lt, len_is, none))
      some_of (i ∷ is) e = ap is_some (at_rest ∙ ap (λ (js : List Insn). at (layout js) 0) e
          ∙ at_front i (layout is))

  -- one more instruction
  pub parts_next : (i : Insn) → at code slot ≡ Some i → WalkParts code (next_of slot i)
  parts_next i e =
      let r = rest_at i e in
      record {
        front = parts.front ++ (i ∷ []);
        rest = r.0;
        code_is = parts.code_is ∙ ap (λ (is : List Insn). layout (parts.front ++ is)) r.1
            ∙ ap layout (sym (append_snoc parts.front i r.0));
        slot_is = next_len i;
      }
    where
      next_len : (j : Insn) → next_of slot j ≡ length (layout (parts.front ++ (j ∷ [])))
      next_len j =
          ap (λ (n : ℕ). n + slots_of (width_of j)) parts.slot_is
          ∙ ap (λ (n : ℕ). length (layout parts.front) + n)
          (sym (slots_len j) ∙ ap length (sym (append-nil (slots j))))
          ∙ sym (length-append (layout parts.front) (slots j ++ []))
          ∙ ap length (sym (layout-append parts.front (j ∷ [])))

pub first_parts : (code : Program) → IsLayout code → WalkParts code 0
first_parts code is = record { front = []; rest = is.0; code_is = is.1; slot_is = refl }

-- ---- the text

pub explains_first : (p : ShapedProgram) (why : List ℕ) → IsLayout p.code
    → ExplainsUpTo p why (Some still) 0 []
unfolding first_parts
explains_first p why is =
    record { parts = first_parts p.code is; text_is = refl; remarks = λ all. all }

pub explains_next : (p : ShapedProgram) (why : List ℕ) (way : Option Way) (slot : ℕ) (i : Insn)
    (text more : List ℕ) → ExplainsUpTo p why way slot text → at p.code slot ≡ Some i
    → IsRemark (remark_at p why way slot i)
    → more ≡ text ++ (bare_line i ++ remark_at p why way slot i ++ codes "\n")
    → ExplainsUpTo p why (way_on p way slot i) (next_of slot i) more
unfolding parts_next rest_at
explains_next p why way slot i text more t e remark grown =
    let r = rest_at p.code slot t.parts i e in
    let line = bare_line i ++ remark_at p why way slot i ++ codes "\n" in
    let later = remarked_listing (lines_from p why (way_on p way slot i) (next_of slot i) r.0) in
    let same = ap (λ (is : List Insn). t.parts.front ++ is) r.1
    ∙ sym (append_snoc t.parts.front i r.0) in
    record {
      parts = parts_next p.code slot t.parts i e;
      text_is = ap (λ (u : List ℕ). u ++ later) grown
          ∙ append_assoc text line later
          ∙ ap (λ (is : List Insn). text ++ remarked_listing (lines_from p why way slot is))
          (sym r.1)
          ∙ t.text_is
          ∙ ap (λ (is : List Insn). remarked_listing (lines_from p why (Some still) 0 is)) same;
      remarks = λ all. subst (λ (is : List Insn). AreRemarks (lines_from p why (Some still) 0 is))
          same (t.remarks (subst (λ (is : List Insn). AreRemarks (lines_from p why way slot is))
          (sym r.1) (remark, all)));
    }

pub explains_whole : (p : ShapedProgram) (why : List ℕ) (way : Option Way) (slot : ℕ)
    (text : List ℕ)
    → ExplainsUpTo p why way slot text → length p.code ≤ slot → IsExplained p text
explains_whole p why way slot text t le = whole t.parts.rest refl
  where
    whole : (is : List Insn) → t.parts.rest ≡ is → IsExplained p text
    whole [] e = record {
      insns = t.parts.front ++ t.parts.rest;
      code_is = t.parts.code_is;
      why = why;
      remarks = t.remarks (subst (λ (js : List Insn). AreRemarks (lines_from p why way slot js))
          (sym e) tt);
      text_is = sym (append-nil text)
          ∙ ap (λ (js : List Insn). text ++ remarked_listing (lines_from p why way slot js)) (sym e)
          ∙ t.text_is;
    }
    whole (i ∷ is) e =
        let there : at p.code slot ≡ Some i =
        at_rest p.code slot t.parts ∙ ap (λ (js : List Insn). at (layout js) 0) e
        ∙ at_front i (layout is) in
        let len = len_is p.code slot t.parts in
        let some : length (layout t.parts.rest) ≡ slots_of (width_of i) + length (layout is) =
        ap (λ (js : List Insn). length (layout js)) e ∙ length-append (slots i) (layout is)
        ∙ ap (λ (n : ℕ). n + length (layout is)) (slots_len i) in
        let one = one_slot i in
        absurd (omega (arith, le, len, some, one))
      where
        one_slot : (j : Insn) → 1 ≤ slots_of (width_of j)
        one_slot (Wide dst value) = omega arith
        one_slot j = omega arith

-- ---- the way on

-- the line that is written is the line of the place
line_at : (p : ShapedProgram) (s : ℕ) (i : Insn) (way : Way) (why : List ℕ) (text new : List ℕ)
    → ExplainsUpTo p why (Some way) s text → at p.code s ≡ Some i
    → IsPlain (comment p.shape s (entry_of p s) i way why)
    → new ≡ text ++ line_with i (comment p.shape s (entry_of p s) i way why)
    → ExplainsUpTo p why (way_on p (Some way) s i) (next_of s i) new
line_at p s i way why text new t there plain grown =
    explains_next p why (Some way) s i text new t there
    (comment_remark (max (22 - length (bare_line i)) 1)
    (comment p.shape s (entry_of p s) i way why) plain) grown

-- if no rule fails
fine_way : (p : ShapedProgram) (s : ℕ) (i : Insn) (way : Way) → IsFine p s
    → at p.code s ≡ Some i
    → way_on p (Some way) s i ≡ Some (way_past_entry p.shape s (entry_of p s) i)
fine_way p s i way fine there = each (entry_of p s) refl
  where
    each : (o : Option AbsState) → entry_of p s ≡ o
        → way_from p.shape s o i ≡ Some (way_past_entry p.shape s o i)
    each None e = refl
    each (Some f) e =
        let none : first_rule p.shape f i ≡ None = fine f i e there in
        ap (λ (r : Option VerifierRule). way_unless r (way_past p.shape s f i)) none

-- then the comment cites none
fine_comment : (p : ShapedProgram) (s : ℕ) (i : Insn) (way : Way) (why other : List ℕ)
    → IsFine p s → at p.code s ≡ Some i
    → comment p.shape s (entry_of p s) i way why ≡ comment p.shape s (entry_of p s) i way other
fine_comment p s i way why other fine there = each (entry_of p s) refl
  where
    each : (o : Option AbsState) → entry_of p s ≡ o
        → comment p.shape s o i way why ≡ comment p.shape s o i way other
    each None e = refl
    each (Some f) e =
        let none : first_rule p.shape f i ≡ None = fine f i e there in
        ap (λ (r : Option VerifierRule).
        decimal s ++ codes ":" ++ shown_text p.shape f i way r why) none
        ∙ ap (λ (r : Option VerifierRule).
        decimal s ++ codes ":" ++ shown_text p.shape f i way r other) (sym none)

pub fine_line : (p : ShapedProgram) (s : ℕ) (i : Insn) (way : Way) (o : Option AbsState)
    (text new : List ℕ) → ((why : List ℕ) → ExplainsUpTo p why (Some way) s text)
    → at p.code s ≡ Some i → o ≡ entry_of p s → AddsLine p.shape s o i way text new → IsFine p s
    → (why : List ℕ)
    → ExplainsUpTo p why (Some (way_past_entry p.shape s (entry_of p s) i)) (next_of s i) new
fine_line p s i way o text new t there is added fine why =
    let same : comment p.shape s o i way added.why ≡ comment p.shape s (entry_of p s) i way why =
    ap (λ (x : Option AbsState). comment p.shape s x i way added.why) is
    ∙ fine_comment p s i way added.why why fine there in
    subst (λ (w : Option Way). ExplainsUpTo p why w (next_of s i) new)
    (fine_way p s i way fine there)
    (line_at p s i way why text new (t why) there (subst IsPlain same added.plain)
    (added.text_is ∙ ap (λ (c : List ℕ). text ++ line_with i c) same))

-- if a rule fails
failed_way : (p : ShapedProgram) (s : ℕ) (i : Insn) (way : Way) (rule : VerifierRule)
    → Fails p s rule → at p.code s ≡ Some i → way_on p (Some way) s i ≡ None
failed_way p s i way rule f there =
    let same : f.insn ≡ i = same_Some f.insn i (sym f.insn_is ∙ there) in
    ap (λ (o : Option AbsState). way_from p.shape s o i) f.entry_is
    ∙ ap (λ (r : Option VerifierRule). way_unless r (way_past p.shape s f.entry i))
    (ap (λ (j : Insn). first_rule p.shape f.entry j) (sym same) ∙ f.rule_is)

refused_way : (code : Program) (shape : AppShape) (s : ℕ) (i : Insn) (way : Way) (r : Refusal)
    → IsRefusal code shape r → FailsAt s r → at code s ≡ Some i
    → way_on (shaped code shape) (Some way) s i ≡ None
refused_way code shape s i way (refusal.Rule t rule) refused here there =
    failed_way (shaped code shape) s i way rule
    (subst (λ (n : ℕ). Fails (shaped code shape) n rule) here refused.fails) there
refused_way code shape s i way refusal.Memory refused here there = absurd here

pub refused_line : (code : Program) (shape : AppShape) (s : ℕ) (i : Insn) (way : Way)
    (o : Option AbsState) (r : Refusal) (text new : List ℕ)
    → ((why : List ℕ) → ExplainsUpTo (shaped code shape) why (Some way) s text)
    → at code s ≡ Some i → o ≡ entry_of (shaped code shape) s
    → AddsLine shape s o i way text new → IsRefusal code shape r → FailsAt s r
    → (why : List ℕ) × ExplainsUpTo (shaped code shape) why None (next_of s i) new
refused_line code shape s i way o r text new t there is added refused here =
    let p = shaped code shape in
    let same = ap (λ (x : Option AbsState). comment shape s x i way added.why) is in (
      added.why,
      subst (λ (w : Option Way). ExplainsUpTo p added.why w (next_of s i) new)
          (refused_way code shape s i way r refused here there)
          (line_at p s i way added.why text new (t added.why) there
          (subst IsPlain same added.plain)
          (added.text_is ∙ ap (λ (c : List ℕ). text ++ line_with i c) same)),
    )
