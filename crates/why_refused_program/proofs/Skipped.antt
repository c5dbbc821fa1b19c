-- The comments are skipped: the text assembles to the bytes of the program.
use Rattle.std.proofs.Common.{◌≡◌, ℕ, suc, ◌≤◌, List, [], ◌∷◌, ◌++◌, length}
use Rattle.std.proofs.Common.{Option, Some, Ok}
use Rattle.std.proofs.Common.{refl, sym, ap, ◌∙◌, subst}
use Rattle.std.specs.List.{AllByRecursion}
use Rattle.bpf_insn.specs.declared.insn.Insn.{Insn}
use Rattle.bpf_insn.specs.declared.insn.Insn.TheVariants.{Wide}
use Rattle.bpf_insn.specs.Program.{Program, at, layout, encodings}
use Rattle.bpf_insn.specs.Spelling.{IsEncodable, encoding}
use Rattle.bpf_text.specs.Assembly.{Assembles}
use Rattle.bpf_text.specs.Remarks.{RemarkedInsn, remarked_listing, insns_of, RemarksAreSkipped}
use Rattle.bpf_semantics.specs.Program.{ShapedProgram}
use Rattle.flow_check.specs.Edges.{next_of}
use Rattle.flow_check.specs.Flow.{program_bytes}
use Rattle.why_refused_program.specs.declared.way.Way.{Way}
use Rattle.why_refused_program.specs.Lines.{IsExplained, lines_from, way_on}
use Rattle.why_refused_program.specs.Way.{still}

same_insns : (p : ShapedProgram) (why : List ℕ) (way : Option Way) (s : ℕ) (is : List Insn)
    → insns_of (lines_from p why way s is) ≡ is
same_insns p why way s [] = refl
same_insns p why way s (i ∷ is) =
    ap (λ (js : List Insn). i ∷ js) (same_insns p why (way_on p way s i) (next_of s i) is)

-- ---- the instructions of a layout

later : (i : Insn) (is : List Insn)
    → ((s : ℕ) (j : Insn) → at (layout (i ∷ is)) s ≡ Some j → IsEncodable j)
    → (s : ℕ) (j : Insn) → at (layout is) s ≡ Some j → IsEncodable j
later (Wide dst value) is h s j e = h (suc (suc s)) j e
later i is h s j e = h (suc s) j e

front : (i : Insn) (is : List Insn) → at (layout (i ∷ is)) 0 ≡ Some i
front (Wide dst value) is = refl
front i is = refl

encodable : (is : List Insn) → ((s : ℕ) (j : Insn) → at (layout is) s ≡ Some j → IsEncodable j)
    → AllByRecursion IsEncodable is
encodable [] h = tt
encodable (i ∷ is) h = (h 0 i (front i is), encodable is (later i is h))

bytes_are : (is : List Insn) → encodings is ≡ program_bytes (layout is)
bytes_are [] = refl
bytes_are (Wide dst value ∷ is) =
    ap (λ (bs : List ℕ). encoding (Wide dst value) ++ bs) (bytes_are is)
bytes_are (i ∷ is) = ap (λ (bs : List ℕ). encoding i ++ bs) (bytes_are is)

pub assembles : (p : ShapedProgram) (text : List ℕ)
    → ((ls : List RemarkedInsn) → RemarksAreSkipped ls)
    → ((s : ℕ) (j : Insn) → at p.code s ≡ Some j → IsEncodable j) → length p.code ≤ 4096
    → IsExplained p text → Assembles text (Ok (program_bytes p.code))
assembles p text skipped can short x =
    let is = x.insns in
    let ls = lines_from p x.why (Some still) 0 is in
    let same = same_insns p x.why (Some still) 0 is in
    let all : AllByRecursion IsEncodable is =
    encodable is (λ s j e. can s j (ap (λ (q : Program). at q s) x.code_is ∙ e)) in
    let done = skipped ls (subst (AllByRecursion IsEncodable) (sym same) all) x.remarks
    (subst (λ (js : List Insn). length (layout js) ≤ 4096) (sym same)
    (subst (λ (q : Program). length q ≤ 4096) x.code_is short)) in
    let bytes : encodings (insns_of ls) ≡ program_bytes p.code =
    ap encodings same ∙ bytes_are is ∙ ap program_bytes (sym x.code_is) in
    subst (λ (t : List ℕ). Assembles t (Ok (program_bytes p.code))) (sym x.text_is)
    (subst (λ (bs : List ℕ). Assembles (remarked_listing ls) (Ok bs)) bytes done)
