-- Loops over the characters of a text.
use Rattle.std.proofs.Common.{◌≡◌, ◌∙◌, sym, ap, ℕ, List, [], ◌∷◌, ◌++◌, length}
use Rattle.std.proofs.Common.{append_assoc, append-nil, flat_map, chars, Bool, true, false, ◌||◌}
use Rattle.std.proofs.Common.{arith}
use Rattle.std.proofs.lemmas.Str.{chars-nil}
use Rattle.std.specs.List.{list_any}

none_left : (rest : List ℕ) → length rest ≡ 0 → chars rest ≡ []
none_left [] none = chars-nil
none_left (b ∷ rest) none = absurd (omega (arith, none))

-- after one more character, and at the end
pub one_further : (f : ℕ → List ℕ) (done left rest whole : List ℕ) (c : ℕ) → left ≡ c ∷ rest
    → done ++ flat_map f left ≡ whole → (done ++ f c) ++ flat_map f rest ≡ whole
one_further f done left rest whole c next is =
    append_assoc done (f c) (flat_map f rest)
    ∙ ap (λ (l : List ℕ). done ++ flat_map f l) (sym next) ∙ is

pub at_end : (f : ℕ → List ℕ) (done rest whole : List ℕ) → length rest ≡ 0
    → done ++ flat_map f (chars rest) ≡ whole → done ≡ whole
at_end f done rest whole none is =
    sym (ap (λ (l : List ℕ). done ++ flat_map f l) (none_left rest none) ∙ append-nil done) ∙ is

-- for a test of each character
pub not_here : (p : ℕ → Bool) (left rest : List ℕ) (c : ℕ) (b answer : Bool) → left ≡ c ∷ rest
    → b ≡ p c → b ≡ false → list_any p left ≡ answer → list_any p rest ≡ answer
not_here p left rest c b answer next is fails all =
    ap (λ (d : Bool). d || list_any p rest) (sym (sym is ∙ fails))
    ∙ ap (list_any p) (sym next) ∙ all

pub here : (p : ℕ → Bool) (left rest : List ℕ) (c : ℕ) (b answer : Bool) → left ≡ c ∷ rest
    → b ≡ p c → b ≡ true → list_any p left ≡ answer → true ≡ answer
here p left rest c b answer next is yes_so all =
    ap (λ (d : Bool). d || list_any p rest) (sym (sym is ∙ yes_so))
    ∙ ap (list_any p) (sym next) ∙ all

pub nowhere : (p : ℕ → Bool) (rest : List ℕ) (answer : Bool) → length rest ≡ 0
    → list_any p (chars rest) ≡ answer → false ≡ answer
nowhere p rest answer none all = ap (list_any p) (sym (none_left rest none)) ∙ all
