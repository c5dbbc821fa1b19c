-- A text that is written part by part is written as a whole.
use Rattle.std.proofs.Common.{◌≡◌, ℕ, List, [], ◌∷◌, ◌++◌}
use Rattle.std.proofs.Common.{refl, sym, ap, ◌∙◌, append_assoc}
use Rattle.std.proofs.lemmas.List.{append-nil}

pub line_gathered : (o line blanks mark text ends : List ℕ)
    → o ++ (line ++ blanks) ++ mark ++ text ++ ends
    ≡ o ++ (line ++ (blanks ++ mark ++ text) ++ ends)
line_gathered o line blanks mark text ends = simp append_assoc refl

-- a line without a remark
pub bare_gathered : (o line : List ℕ)
    → (o ++ line) ++ (10 ∷ []) ≡ o ++ ((line ++ []) ++ (10 ∷ []))
bare_gathered o line =
    append_assoc o line (10 ∷ [])
    ∙ ap (λ (u : List ℕ). o ++ (u ++ (10 ∷ []))) (sym (append-nil line))

-- one more part
pub further_text : (o one rest new whole : List ℕ) → new ≡ o ++ one → o ++ (one ++ rest) ≡ whole
    → new ++ rest ≡ whole
further_text o one rest new whole grown is =
    ap (λ (t : List ℕ). t ++ rest) grown ∙ append_assoc o one rest ∙ is

pub whole_text : (o whole : List ℕ) → o ++ [] ≡ whole → o ≡ whole
whole_text o whole is = sym (append-nil o) ∙ is
