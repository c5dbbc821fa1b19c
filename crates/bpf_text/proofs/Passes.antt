-- The two passes over a text: one more line, and both passes together.
use Rattle.std.proofs.Common.{◌≡◌, ℕ, ◌+◌, List, [], ◌∷◌, ◌++◌, length, map, Option}
use Rattle.std.proofs.Common.{Result, Ok, Err, IfOk, IfErr, inl, inr, sym, ap, ◌∙◌, append_assoc}
use Rattle.std.specs.Str.Lines.{lines}
use Rattle.std.specs.Vec.{vec_items}
use Rattle.bpf_text.specs.declared.text_fault.AsmFault.{AsmFault}
use Rattle.bpf_text.specs.declared.text_fault.AsmFaultKind.{AsmFaultKind}
use Rattle.bpf_text.specs.declared.scan.Reading as code
use Rattle.bpf_text.specs.Assembly.{first_fault, fault_or, bytes_of_placed}
use Rattle.bpf_text.specs.Assembly.{placed, label_slot, unless_fault, assembly_of}
use Rattle.bpf_text.specs.Lines.{Line, lines_in, read_line}
use Rattle.bpf_text.specs.Names.{placed_named}
use Rattle.bpf_text.specs.Reading.{HasRead, ReadsOn, bytes_read}
use Rattle.bpf_text.specs.Reading.{IsByteFault, IsTableFault, IsWholeReading}
use Rattle.bpf_text.specs.Tables.{tables}
use Rattle.bpf_text.specs.Tokens.{Name}

-- the lines before `rest` have been read
pub record HasReadUpTo (text rest : List ℕ) (r : code.Reading) : Type 0 where
  pub before : List Line
  pub has_read : HasRead before r
  pub lines_are : lines_in tables text ≡ before ++ lines_in tables rest
  pub fault_is : first_fault [] (lines_in tables text) ≡ first_fault before (lines_in tables rest)

pub next_line : (text rest line behind : List ℕ) (r s : code.Reading) (l : Line)
    → lines rest ≡ line ∷ lines behind → l ≡ read_line tables line → HasReadUpTo text rest r
    → ReadsOn r s l → HasReadUpTo text behind s
next_line text rest line behind r s l first is h on =
    let step = on h.before h.has_read in
    let parts : lines_in tables rest ≡ l ∷ lines_in tables behind =
    ap (map (read_line tables)) first ∙ ap (λ (k : Line). k ∷ lines_in tables behind) (sym is) in
    record {
      before = h.before ++ (l ∷ []);
      has_read = step.1;
      lines_are = h.lines_are ∙ ap (λ (ls : List Line). h.before ++ ls) parts
          ∙ sym (append_assoc h.before (l ∷ []) (lines_in tables behind));
      fault_is =
          h.fault_is ∙ ap (first_fault h.before) parts
          ∙ ap (λ (o : Option AsmFaultKind). fault_or (length h.before + 1) o
          (first_fault (h.before ++ (l ∷ [])) (lines_in tables behind))) step.0;
    }

-- ---- both passes

whole_bytes : (text : List ℕ) (r : code.Reading) → IsWholeReading text r
    → assembly_of tables text ≡ bytes_read r
unfolding assembly_of
whole_bytes text r h =
    let ls = lines_in tables text in
    let slot_of = label_slot 0 ls in
    ap (λ (o : Option AsmFault). unless_fault o (bytes_of_placed tables slot_of (placed 1 0 ls)))
    h.0
    ∙ ap (bytes_of_placed tables slot_of) (sym h.1.placed_are)
    ∙ ap (λ (f : Name → Option ℕ). bytes_of_placed tables f (map placed_named (vec_items r.placed)))
    (sym (λ i q. h.1.labels q i))

pub text_bytes : {A : Type 0} (items : A → List ℕ) (text : List ℕ) (r : code.Reading)
    (o : Result A AsmFault) → IsWholeReading text r → IfOk o (λ v. bytes_read r ≡ Ok (items v))
    → IfOk o (λ v. assembly_of tables text ≡ Ok (items v))
text_bytes items text r (Ok v) whole h = whole_bytes text r whole ∙ h
text_bytes items text r (Err e) whole h = tt

byte_fault : (text : List ℕ) (r : code.Reading) (e : AsmFault)
    → IsWholeReading text r → IsByteFault r e → IsTableFault text e
byte_fault text r e whole (inl h) = inl h
byte_fault text r e whole (inr h) = inr (whole_bytes text r whole ∙ h)

pub text_fault : {A : Type 0} (text : List ℕ) (r : code.Reading) (o : Result A AsmFault)
    → IsWholeReading text r → IfErr o (IsByteFault r) → IfErr o (IsTableFault text)
text_fault text r (Ok v) whole h = tt
text_fault text r (Err e) whole h = byte_fault text r e whole h
