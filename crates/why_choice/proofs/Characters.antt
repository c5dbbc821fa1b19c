-- A text that is read character by character.
use Rattle.std.proofs.Common.{◌≡◌, ◌∙◌, sym, ap, ℕ, List, [], ◌∷◌, ◌++◌, length}
use Rattle.std.proofs.Common.{append_assoc, append-nil, flat_map, chars, arith}
use Rattle.std.proofs.lemmas.Str.{chars-nil}

none_left : (rest : List ℕ) → length rest ≡ 0 → chars rest ≡ []
none_left [] none = chars-nil
none_left (b ∷ rest) none = absurd (omega (arith, none))

-- one more character
pub one_further : (f : ℕ → List ℕ) (old new left rest whole : List ℕ) (c : ℕ) → left ≡ c ∷ rest
    → new ≡ old ++ f c → old ++ flat_map f left ≡ whole → new ++ flat_map f rest ≡ whole
one_further f old new left rest whole c next pushed is =
    ap (λ (l : List ℕ). l ++ flat_map f rest) pushed
    ∙ append_assoc old (f c) (flat_map f rest)
    ∙ ap (λ (l : List ℕ). old ++ flat_map f l) (sym next) ∙ is

-- at the end
pub at_end : (f : ℕ → List ℕ) (done rest whole : List ℕ) → length rest ≡ 0
    → done ++ flat_map f (chars rest) ≡ whole → done ≡ whole
at_end f done rest whole none is =
    sym (ap (λ (l : List ℕ). done ++ flat_map f l) (none_left rest none) ∙ append-nil done) ∙ is
