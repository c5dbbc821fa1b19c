-- The first of those that are left comes after those so far.
use Rattle.std.proofs.Common.{◌≡◌, List, [], ◌∷◌, ◌++◌, sym, ap, ◌∙◌, append_assoc}

pub moved : {W : Type 0} (all so_far left rest more : List W) (w v : W)
    → all ≡ so_far ++ left → left ≡ w ∷ rest → more ≡ so_far ++ v ∷ [] → v ≡ w
    → all ≡ more ++ rest
moved {W} all so_far left rest more w v is split grown same =
    is ∙ ap (λ (l : List W). so_far ++ l) split
    ∙ ap (λ (x : W). so_far ++ x ∷ rest) (sym same)
    ∙ sym (append_assoc so_far (v ∷ []) rest) ∙ ap (λ (l : List W). l ++ rest) (sym grown)
