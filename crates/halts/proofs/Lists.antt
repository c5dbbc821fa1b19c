-- The halted appids with one more, and without one.
use Rattle.std.proofs.Common.{◌≡◌, ℕ, List, [], ◌∷◌, Bool, true, false, cond, not}
use Rattle.std.proofs.Common.{refl, sym, ap, ◌∙◌}
use Rattle.std.proofs.lemmas.Slice.Eq.{bytes_eq-Decides}
use Rattle.std.specs.Prelude.{◌&&◌, ◌||◌}
use Rattle.std.specs.Str.{bytes_eq}
use Rattle.halts.specs.Halts.{HaltAdds, ResumeLifts, is_named, without}

and_none : (c : Bool) → false ≡ (not c && false)
and_none true = refl
and_none false = refl

-- of an appid that is dropped or kept: `same` is whether it is the dropped one, `here` whether it
-- is the one that is looked for, and `lifted` whether that is the dropped one
one_more : (same here lifted behind rest : Bool) → (same ≡ true → here ≡ lifted)
    → (same ≡ false → lifted ≡ true → here ≡ false) → rest ≡ (not lifted && behind)
    → cond same rest (here || rest) ≡ (not lifted && (here || behind))
one_more true here true behind rest alike apart is = is
one_more true true false behind rest alike apart is = let clash = alike refl in absurd cc
one_more true false false behind rest alike apart is = is
one_more false true true behind rest alike apart is = let clash = apart refl refl in absurd cc
one_more false false true behind rest alike apart is = is
one_more false true false behind rest alike apart is = refl
one_more false false false behind rest alike apart is = is

named_either : (same : Bool) (first appid : List ℕ) (rest : List (List ℕ))
    → is_named (cond same rest (first ∷ rest)) appid
    ≡ cond same (is_named rest appid) (bytes_eq first appid || is_named rest appid)
named_either true first appid rest = refl
named_either false first appid rest = refl

pub lifts : ResumeLifts
lifts one appid [] = and_none (bytes_eq one appid)
lifts one appid (first ∷ rest) =
    named_either (bytes_eq first one) first appid (without one rest)
    ∙ one_more (bytes_eq first one) (bytes_eq first appid) (bytes_eq one appid)
    (is_named rest appid) (is_named (without one rest) appid)
    (λ same. ap (λ (a : List ℕ). bytes_eq a appid) ((bytes_eq-Decides first one).0 same))
    (λ apart lifted. ap (bytes_eq first) (sym ((bytes_eq-Decides one appid).0 lifted)) ∙ apart)
    (lifts one appid rest)

or_again : (c behind : Bool) → (c || (not c && behind)) ≡ (c || behind)
or_again true behind = refl
or_again false behind = refl

pub adds : HaltAdds
adds one appid halted =
    ap (λ (b : Bool). bytes_eq one appid || b) (lifts one appid halted)
    ∙ or_again (bytes_eq one appid) (is_named halted appid)
