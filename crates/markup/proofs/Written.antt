-- Writing the parts one by one writes the whole.
use Rattle.std.proofs.Common.{◌≡◌, ◌∙◌, sym, refl, ap, ℕ, List, [], ◌∷◌, ◌++◌, append_assoc}
use Rattle.std.proofs.Common.{append-nil, arith, length}
use Rattle.std.proofs.lemmas.Str.{chars-nil}
use Rattle.std.specs.List.{flat_map}
use Rattle.std.specs.Str.{chars}

-- after one more part, and at the end
pub one_further : (o part rest new whole : List ℕ) → new ≡ o ++ part → o ++ (part ++ rest) ≡ whole
    → new ++ rest ≡ whole
one_further o part rest new whole grown is =
    ap (λ (t : List ℕ). t ++ rest) grown ∙ append_assoc o part rest ∙ is

at_end : (o whole : List ℕ) → o ++ [] ≡ whole → o ≡ whole
at_end o whole is = sym (append-nil o) ∙ is

-- no text is left
nothing : (text : List ℕ) → length text ≡ 0 → text ≡ []
nothing [] none = refl
nothing (b ∷ text) none = absurd (omega (arith, none))

pub characters_done : (f : ℕ → List ℕ) (rest o whole : List ℕ) → length rest ≡ 0
    → o ++ flat_map f (chars rest) ≡ whole → o ≡ whole
characters_done f rest o whole none is =
    let no_chars : chars rest ≡ [] = ap chars (nothing rest none) ∙ chars-nil in
    at_end o whole (ap (λ (l : List ℕ). o ++ flat_map f l) (sym no_chars) ∙ is)
