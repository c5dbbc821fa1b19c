-- The assembler's vocabulary is exact, and there is no other exact one.
use Rattle.std.proofs.Common.{◌≡◌, ℕ, List, [], ◌∷◌, Option, Some, None, IfSome}
use Rattle.std.proofs.Common.{Result, Ok, Err, IfOk, IfErr, inl, inr}
use Rattle.std.proofs.Common.{Bool, true, false, cond, refl, sym, ap, ◌∙◌, subst}
use Rattle.std.proofs.lemmas.Slice.Eq.{bytes_eq-Decides}
use Rattle.std.specs.List.{find}
use Rattle.std.specs.Str.{bytes_eq}
use Rattle.bpf_insn.specs.declared.reg.Reg.{Reg}
use Rattle.bpf_insn.specs.declared.insn.Insn.{Insn}
use Rattle.bpf_text.specs.declared.argument.Argument.{Argument}
use Rattle.bpf_text.specs.declared.text_fault.AsmFault.{AsmFault}
use Rattle.bpf_text.specs.declared.mnemonic.Mnemonic.{Mnemonic}
use Rattle.bpf_text.specs.declared.three.UpToThree.{UpToThree}
use Rattle.bpf_text.specs.declared.vocabulary.TheConstants.{MNEMONICS, REGISTERS}
use Rattle.bpf_text.specs.Arguments.{arguments_of}
use Rattle.bpf_text.specs.Assembly.{assembly_of, Assembles, IsAsmFault}
use Rattle.bpf_text.specs.Listing.{register_text}
use Rattle.bpf_text.specs.Reading.{IsTableFault}
use Rattle.bpf_text.specs.Statements.{insn_of}
use Rattle.bpf_text.specs.Tables.{mnemonic_named, register_named, tables}
use Rattle.bpf_text.specs.Tokens.{Name}
use Rattle.bpf_text.specs.Vocabulary.{Vocabulary, IsExact}
use Rattle.bpf_text.specs.Words.{word_of}
use Rattle.bpf_text.proofs.Named.{is_named, register_is_named}
use Rattle.bpf_text.proofs.Statements.{Has, insn_found, insn_again}

-- ---- the result of a search passes its test

by_test : {A : Type 0} (p : A → Bool) (x : A) (rest : Option A) (b : Bool)
    → p x ≡ b → IfSome rest (λ y. p y ≡ true) → IfSome (cond b (Some x) rest) (λ y. p y ≡ true)
by_test p x rest true e h = e
by_test p x rest false e h = h

passes : {A : Type 0} (p : A → Bool) (xs : List A) → IfSome (find p xs) (λ y. p y ≡ true)
passes p [] = tt
passes p (x ∷ xs) = by_test p x (find p xs) (p x) refl (passes p xs)

some_if : {A : Type 0} (P : A → Type 0) (o : Option A) (x : A) → o ≡ Some x → IfSome o P → P x
some_if P o x e h = subst (λ (o : Option _). IfSome o P) e h

mnemonic_found : (w : Name) (m : Mnemonic) → mnemonic_named w ≡ Some m → w ≡ word_of m
unfolding mnemonic_named
mnemonic_found w m e =
    let test = λ (n : Mnemonic). bytes_eq w (word_of n) in
    (bytes_eq-Decides w (word_of m)).0
    (some_if (λ n. test n ≡ true) (find test MNEMONICS) m e (passes test MNEMONICS))

register_found : (w : Name) (r : Reg) → register_named w ≡ Some r → w ≡ register_text r
unfolding register_named
register_found w r e =
    let test = λ (s : Reg). bytes_eq w (register_text s) in
    (bytes_eq-Decides w (register_text r)).0
    (some_if (λ s. test s ≡ true) (find test REGISTERS) r e (passes test REGISTERS))

again : (m : Mnemonic) (a : UpToThree Argument) (i : Insn) → Has m a i → insn_of m a ≡ Some i
again m a i h =
    sym (ap (λ (n : Mnemonic). insn_of n (arguments_of i)) h.0 ∙ ap (insn_of m) h.1) ∙ insn_again i

pub tables_exact : IsExact tables
tables_exact = record {
  mnemonics = λ w m. (mnemonic_found w m, λ e. ap mnemonic_named e ∙ (is_named m).found);
  registers = λ w r. (register_found w r, λ e. ap register_named e ∙ (register_is_named r).found);
  insns = λ m a i. (λ e. some_if (Has m a) (insn_of m a) i e (insn_found m a), again m a i);
}

-- ---- two exact vocabularies are the same

same_option : {A : Type 0} (o p : Option A) → ((x : A) → o ≡ Some x → p ≡ Some x)
    → ((x : A) → p ≡ Some x → o ≡ Some x) → o ≡ p
same_option (Some x) p h k = sym (h x refl)
same_option None None h k = refl
same_option None (Some x) h k = k x refl

same_vocabulary : (v w : Vocabulary) → IsExact v → IsExact w → v ≡ w
same_vocabulary v w p q = λ i. record {
  mnemonic_named = λ t. same_mnemonic t i;
  register_named = λ t. same_register t i;
  insn_of = λ m a. same_insn m a i;
}
  where
    same_mnemonic : (t : Name) → v.mnemonic_named t ≡ w.mnemonic_named t
    same_mnemonic t =
        same_option (v.mnemonic_named t) (w.mnemonic_named t)
        (λ m e. (q.mnemonics t m).1 ((p.mnemonics t m).0 e))
        (λ m e. (p.mnemonics t m).1 ((q.mnemonics t m).0 e))

    same_register : (t : Name) → v.register_named t ≡ w.register_named t
    same_register t =
        same_option (v.register_named t) (w.register_named t)
        (λ r e. (q.registers t r).1 ((p.registers t r).0 e))
        (λ r e. (p.registers t r).1 ((q.registers t r).0 e))

    same_insn : (m : Mnemonic) (a : UpToThree Argument) → v.insn_of m a ≡ w.insn_of m a
    same_insn m a =
        same_option (v.insn_of m a) (w.insn_of m a)
        (λ i e. (q.insns m a i).1 ((p.insns m a i).0 e))
        (λ i e. (p.insns m a i).1 ((q.insns m a i).0 e))

pub one_assembly : (text : List ℕ) (a b : Result (List ℕ) AsmFault)
    → Assembles text a → Assembles text b → a ≡ b
one_assembly text a b h k =
    sym h.2 ∙ ap (λ (v : Vocabulary). assembly_of v text) (same_vocabulary h.0 k.0 h.1 k.1) ∙ k.2

-- ---- verdicts by the assembler's vocabulary

pub by_tables : (text : List ℕ) (verdict : Result (List ℕ) AsmFault)
    → assembly_of tables text ≡ verdict → Assembles text verdict
by_tables text verdict e = (tables, tables_exact, e)

pub bytes_by_tables : {A : Type 0} (items : A → List ℕ) (text : List ℕ) (o : Result A AsmFault)
    → IfOk o (λ v. assembly_of tables text ≡ Ok (items v))
    → IfOk o (λ v. Assembles text (Ok (items v)))
bytes_by_tables items text (Ok v) h = by_tables text (Ok (items v)) h
bytes_by_tables items text (Err e) h = tt

fault_by_tables : (text : List ℕ) (e : AsmFault) → IsTableFault text e → IsAsmFault text e
fault_by_tables text e (inl h) = inl h
fault_by_tables text e (inr h) = inr (by_tables text (Err e) h)

pub faults_by_tables : {A : Type 0} (text : List ℕ) (o : Result A AsmFault)
    → IfErr o (IsTableFault text) → IfErr o (IsAsmFault text)
faults_by_tables text (Ok v) h = tt
faults_by_tables text (Err e) h = fault_by_tables text e h
