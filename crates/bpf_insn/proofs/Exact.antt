-- Bytes spell one instruction or have one least fault.
use Rattle.std.proofs.Common.{◌≡◌, ◌≢◌, ℕ, ◌+◌, ◌*◌, ◌<◌, ◌≤◌, inl, inr, List, length, Some, None}
use Rattle.std.proofs.Common.{Result, Ok, Err, IfOk, IfErr, refl, sym, ap, subst, ◌∙◌, arith}
use Rattle.bpf_insn.specs.declared.operand.Distance.TheVariants.{Short, Long}
use Rattle.bpf_insn.specs.declared.insn.Insn.{Insn}
use Rattle.bpf_insn.specs.declared.insn.Insn.TheVariants as insn
use Rattle.bpf_insn.specs.declared.form.Form.{Form}
use Rattle.bpf_insn.specs.declared.form.Form.TheVariants.{Wide}
use Rattle.bpf_insn.specs.declared.fields.Fields.{Fields}
use Rattle.bpf_insn.specs.declared.fields.InsnFault.{InsnFault}
use Rattle.bpf_insn.specs.declared.fields.InsnFault.TheVariants.{Truncated, Opcode}
use Rattle.bpf_insn.specs.declared.fields.InsnFault.TheVariants.{Register, UnusedField}
use Rattle.bpf_insn.specs.declared.fields.InsnFault.TheVariants.{Imm, Offset, SecondHalf}
use Rattle.bpf_insn.specs.Table.{opcode_of, row_of}
use Rattle.bpf_insn.specs.Faults.{Keeps, IsSecondHalf, fault_number}
use Rattle.bpf_insn.specs.Halves.{IsOfRow, IsInOrder, IsRowFault, IsTheInsn}
use Rattle.bpf_insn.specs.Halves.{IsOnlySpelling, SpellsOrHasFault}
use Rattle.bpf_insn.specs.Spelling.{form_of, fields_of, second_of, second_half}
use Rattle.bpf_insn.specs.Spelling.{next_imm, HasFields, HasFault, Spells, IsLeastFault}
use Rattle.bpf_insn.proofs.Halves.{same_half, half_length, first_half}
use Rattle.bpf_insn.proofs.Halves.{later_half, spelled_one, spelled_two}
use Rattle.bpf_insn.proofs.Rules.{opcode-form, keeps_rules, is_second_half}

-- ---- the row of an instruction

form_here : (b : List ℕ) (s : ℕ) (form : Form) (f : Fields) (i : Insn)
    → HasFields b s f → IsOfRow form f → Spells b s i → form ≡ form_of i
form_here b s form f i has row p =
    row.only (form_of i) (opcode-form i
    ∙ ap (λ (x : Fields). x.opcode) (same_half b s (fields_of i) f (first_half b s i p) has))

fields_here : (b : List ℕ) (s : ℕ) (f : Fields) (i : Insn) → HasFields b s f → Spells b s i
    → fields_of i ≡ f
fields_here b s f i has p = same_half b s (fields_of i) f (first_half b s i p) has

no_second : (i : Insn) → Wide ≢ form_of i → second_of i ≡ None
no_second (insn.Wide dst value) wide = absurd (wide refl)
no_second (insn.Jump (Short k)) wide = refl
no_second (insn.Jump (Long k)) wide = refl
no_second i wide = refl

-- the second half of a wide load is in the next slot
second_here : (b : List ℕ) (s : ℕ) (i : Insn) → Wide ≡ form_of i → Spells b s i → (g : Fields)
    × HasFields b (s + 1) g × (second_of i ≡ Some g) × IsSecondHalf (fields_of i).src g
second_here b s (insn.Wide dst value) wide p =
    let g : Fields = second_half (next_imm value) in
    (g, later_half b s (insn.Wide dst value) g refl p, refl, is_second_half value)
second_here b s (insn.Jump (Short k)) wide p = absurd (cc)
second_here b s (insn.Jump (Long k)) wide p = absurd (cc)
second_here b s i wide p = absurd (cc)

-- ---- a rule that is kept isn't a fault

kept_by : (b : List ℕ) (s : ℕ) (form other : Form) (f g : Fields) (e : InsnFault) → HasFields b s f
    → IsOfRow form f → Keeps (row_of form) f e → HasFields b s g → opcode_of other ≡ g.opcode
    → Keeps (row_of other) g e
kept_by b s form other f g e has row kept next op =
    let same : f ≡ g = same_half b s f g has next in
    let rows : form ≡ other = row.only other (op ∙ sym (ap (λ (x : Fields). x.opcode) same)) in
    subst (λ (x : Form). Keeps (row_of x) g e) rows
    (subst (λ (x : Fields). Keeps (row_of form) x e) same kept)

wide_row : (b : List ℕ) (s : ℕ) (form : Form) (f g : Fields) → HasFields b s f → IsOfRow form f
    → HasFields b s g → g.opcode ≡ opcode_of Wide → form ≡ Wide
wide_row b s form f g has row next op =
    row.only Wide (sym op ∙ sym (ap (λ (x : Fields). x.opcode) (same_half b s f g has next)))

pub kept : (b : List ℕ) (s : ℕ) (form : Form) (f : Fields)
    → HasFields b s f → IsOfRow form f → (form ≡ Wide → 8 * s + 16 ≤ length b) → (e : InsnFault)
    → fault_number e < 7 → Keeps (row_of form) f e → ¬ HasFault b s e
kept b s form f has row room Truncated low k (inl short) =
    absurd (omega (arith, half_length b s f has))
kept b s form f has row room Truncated low k (inr h) =
    absurd (omega (arith, room (wide_row b s form f h.0 has row h.1 h.2), h.3))
kept b s form f has row room Opcode low k h =
    absurd (h.2 form (row.opcode ∙ ap (λ (x : Fields). x.opcode) (same_half b s f h.0 has h.1)))
kept b s form f has row room Register low k h =
    h.4 (kept_by b s form h.1 f h.0 Register has row k h.2 h.3)
kept b s form f has row room UnusedField low k h =
    h.4 (kept_by b s form h.1 f h.0 UnusedField has row k h.2 h.3)
kept b s form f has row room Imm low k h = h.4 (kept_by b s form h.1 f h.0 Imm has row k h.2 h.3)
kept b s form f has row room Offset low k h =
    h.4 (kept_by b s form h.1 f h.0 Offset has row k h.2 h.3)
kept b s form f has row room SecondHalf low k h = absurd (omega arith)

-- ---- the least fault

at_most_seven : (e : InsnFault) → fault_number e ≤ 7
at_most_seven Truncated = omega arith
at_most_seven Opcode = omega arith
at_most_seven Register = omega arith
at_most_seven UnusedField = omega arith
at_most_seven Imm = omega arith
at_most_seven Offset = omega arith
at_most_seven SecondHalf = omega arith

row_fault : (b : List ℕ) (s : ℕ) (form : Form) (f : Fields) (e : InsnFault)
    → HasFields b s f → opcode_of form ≡ f.opcode → ¬ Keeps (row_of form) f e → HasFault b s e
row_fault b s form f Truncated has op breaks = absurd (breaks tt)
row_fault b s form f Opcode has op breaks = absurd (breaks tt)
row_fault b s form f Register has op breaks = (f, form, has, op, breaks)
row_fault b s form f UnusedField has op breaks = (f, form, has, op, breaks)
row_fault b s form f Imm has op breaks = (f, form, has, op, breaks)
row_fault b s form f Offset has op breaks = (f, form, has, op, breaks)
row_fault b s form f SecondHalf has op breaks = absurd (breaks tt)

pub least_of_row : (b : List ℕ) (s : ℕ) (form : Form) (f : Fields) (e : InsnFault) → HasFields b s f
    → IsOfRow form f → (form ≡ Wide → 8 * s + 16 ≤ length b) → IsRowFault form f e
    → IsLeastFault b s e
least_of_row b s form f e has row room fault = record {
  has = row_fault b s form f e has row.opcode fault.breaks;
  lowest = λ other low. kept b s form f has row room other (omega (arith, low, at_most_seven e))
      (fault.lowest other low);
}

pub least_of_second : (b : List ℕ) (s : ℕ) (f g : Fields) → HasFields b s f → HasFields b (s + 1) g
    → IsOfRow Wide f → IsInOrder Wide f → ¬ IsSecondHalf f.src g → IsLeastFault b s SecondHalf
least_of_second b s f g has next row order bad = record {
  has = (f, g, has, next, sym row.opcode, bad);
  lowest = λ other low. kept b s Wide f has row
      (λ _. omega (arith, half_length b (s + 1) g next)) other low (in_order other);
}
  where
    in_order : (other : InsnFault) → Keeps (row_of Wide) f other
    in_order Register = order.registers
    in_order UnusedField = order.unused
    in_order other = tt

-- ---- an instruction has no fault

pub exclusive : (b : List ℕ) (s : ℕ) (form : Form) (f : Fields) → HasFields b s f → IsOfRow form f
    → SpellsOrHasFault b s
exclusive b s form f has row i e p = by e
  where
    same : fields_of i ≡ f
    same = fields_here b s f i has p

    rows : form ≡ form_of i
    rows = form_here b s form f i has row p

    own : HasFields b s (fields_of i)
    own = first_half b s i p

    here : IsOfRow (form_of i) (fields_of i)
    here = subst (λ (x : Fields). IsOfRow (form_of i) x) (sym same)
        (subst (λ (x : Form). IsOfRow x f) rows row)

    room : form_of i ≡ Wide → 8 * s + 16 ≤ length b
    room wide =
        let g = second_here b s i (sym wide) p in omega (arith, half_length b (s + 1) g.0 g.1)

    by : (e : InsnFault) → ¬ HasFault b s e
    by SecondHalf h =
        let wide : form_of i ≡ Wide = wide_row b s (form_of i) (fields_of i) h.0 own here h.2 h.4 in
        let g = second_here b s i (sym wide) p in
        let first : fields_of i ≡ h.0 = same_half b s (fields_of i) h.0 own h.2 in
        let second : g.0 ≡ h.1 = same_half b (s + 1) g.0 h.1 g.1 h.3 in
        h.5 (subst (λ (x : Fields). IsSecondHalf x.src h.1) first
        (subst (λ (x : Fields). IsSecondHalf (fields_of i).src x) second g.3))
    by e h = kept b s (form_of i) (fields_of i) own here room e (omega arith) (keeps_rules i e) h

-- ---- the only instruction

pub the_one : (b : List ℕ) (s : ℕ) (form : Form) (f : Fields) (i : Insn)
    → HasFields b s f → IsOfRow form f → form ≢ Wide → IsTheInsn form f None i
    → IsOnlySpelling b s i
the_one b s form f i has row one the = record {
  spells = spelled_one b s form f i has the.has;
  only = λ j p.
      let rows : form ≡ form_of j = form_here b s form f j has row p in
      the.only j (record {
        fits = p.fits;
        form_is = sym rows;
        first_is = fields_here b s f j has p;
        second_is = no_second j (λ wide. one (rows ∙ sym wide));
      });
}

pub the_wide : (b : List ℕ) (s : ℕ) (f g : Fields) (i : Insn) → HasFields b s f
    → HasFields b (s + 1) g → IsOfRow Wide f → IsTheInsn Wide f (Some g) i → IsOnlySpelling b s i
the_wide b s f g i has next row the = record {
  spells = spelled_two b s Wide f g i has next the.has;
  only = λ j p.
      let rows : Wide ≡ form_of j = form_here b s Wide f j has row p in
      let second = second_here b s j rows p in
      the.only j (record {
        fits = p.fits;
        form_is = sym rows;
        first_is = fields_here b s f j has p;
        second_is =
            second.2 ∙ ap (λ (x : Fields). Some x) (same_half b (s + 1) second.0 g second.1 next);
      });
}

-- ---- eight bytes don't exist, or no row has the opcode

pub no_row_exclusive : (b : List ℕ) (s : ℕ) (f : Fields)
    → HasFields b s f → ((form : Form) → opcode_of form ≢ f.opcode) → SpellsOrHasFault b s
no_row_exclusive b s f has none i e p h =
    none (form_of i) (opcode-form i ∙ ap (λ (x : Fields). x.opcode) (fields_here b s f i has p))

pub no_row_least : (b : List ℕ) (s : ℕ) (f : Fields)
    → HasFields b s f → ((form : Form) → opcode_of form ≢ f.opcode) → IsLeastFault b s Opcode
no_row_least b s f has none = record { has = (f, has, none); lowest = below }
  where
    below : (other : InsnFault) → fault_number other < 2 → ¬ HasFault b s other
    below Truncated low (inl short) = absurd (omega (arith, half_length b s f has))
    below Truncated low (inr h) =
        none Wide (sym h.2 ∙ ap (λ (x : Fields). x.opcode) (same_half b s h.0 f h.1 has))
    below Opcode low h = absurd (omega arith)
    below Register low h = absurd (omega arith)
    below UnusedField low h = absurd (omega arith)
    below Imm low h = absurd (omega arith)
    below Offset low h = absurd (omega arith)
    below SecondHalf low h = absurd (omega arith)

-- ---- the result for a one-slot row

pub row_insn : (b : List ℕ) (s : ℕ) (form : Form) (f : Fields) (r : Result Insn InsnFault)
    → HasFields b s f → IsOfRow form f → form ≢ Wide → IfOk r (λ i. IsTheInsn form f None i)
    → IfOk r (λ i. IsOnlySpelling b s i)
row_insn b s form f (Ok i) has row one the = the_one b s form f i has row one the
row_insn b s form f (Err e) has row one the = tt

pub row_least : (b : List ℕ) (s : ℕ) (form : Form) (f : Fields) (r : Result Insn InsnFault)
    → HasFields b s f → IsOfRow form f → form ≢ Wide → IfErr r (λ e. IsRowFault form f e)
    → IfErr r (λ e. IsLeastFault b s e)
row_least b s form f (Ok i) has row one fault = tt
row_least b s form f (Err e) has row one fault =
    least_of_row b s form f e has row (λ wide. absurd (one wide)) fault
