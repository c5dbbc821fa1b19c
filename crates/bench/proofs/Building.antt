-- Encodings that are added, one instruction or one block after the other.
use Rattle.std.proofs.Common.{◌≡◌, ℕ, ◌+◌, ◌<◌, List, [], ◌∷◌, ◌++◌, length, take, get_or}
use Rattle.std.proofs.Common.{refl, sym, ap, ◌∙◌, append_assoc, append-nil, add-one}
use Rattle.std.proofs.lemmas.List.{take_more}
use Rattle.bpf_insn.specs.declared.insn.Insn.{Insn}
use Rattle.bpf_insn.specs.Spelling.{encoding}
use Rattle.bpf_insn.specs.Program.{encodings}
use Rattle.bench.specs.declared.pattern.Pattern.{Pattern}
use Rattle.bench.specs.Patterns.{block, blocks}

pub encodings-append : (is js : List Insn) → encodings (is ++ js) ≡ encodings is ++ encodings js
encodings-append [] js = refl
encodings-append (i ∷ is) js = ap (λ (bs : List ℕ). encoding i ++ bs) (encodings-append is js)
    ∙ sym (append_assoc (encoding i) (encodings is) (encodings js))

pub insn_added : (before bytes : List ℕ) (is : List Insn) (k : ℕ) (d : Insn) → k < length is
    → bytes ≡ before ++ encodings (take k is)
    → bytes ++ encoding (get_or is k d) ≡ before ++ encodings (take (k + 1) is)
insn_added before bytes is k d h e =
    let one = take_more is k d h in
    let more = encodings-append (take k is) (get_or is k d ∷ []) in
    let last = append-nil (encoding (get_or is k d)) in
    let right : before ++ encodings (take (k + 1) is) ≡ before
    ++ (encodings (take k is) ++ encoding (get_or is k d)) = cc in
    let left = append_assoc before (encodings (take k is)) (encoding (get_or is k d)) in
    cc

pub blocks_more : (p : Pattern) (count k : ℕ)
    → blocks p count (k + 1) ≡ blocks p count k ++ block p count k
blocks_more p count k = rw (add-one k) refl

pub joined : (first is last : List Insn) (bytes : List ℕ) → bytes ≡ encodings (first ++ is)
    → bytes ++ encodings last ≡ encodings (first ++ is ++ last)
joined first is last bytes e =
    ap (λ (bs : List ℕ). bs ++ encodings last) e ∙ sym (encodings-append (first ++ is) last)

pub block_added : (first : List Insn) (p : Pattern) (count k : ℕ) (bytes : List ℕ)
    → bytes ≡ encodings (first ++ blocks p count k)
    → bytes ++ encodings (block p count k) ≡ encodings (first ++ blocks p count (k + 1))
block_added first p count k bytes e =
    joined first (blocks p count k) (block p count k) bytes e
    ∙ ap encodings (append_assoc first (blocks p count k) (block p count k))
    ∙ ap (λ (is : List Insn). encodings (first ++ is)) (sym (blocks_more p count k))
