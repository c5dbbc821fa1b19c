-- Loops over what is left of a list.
use Rattle.std.proofs.Common.{◌≡◌, List, [], ◌∷◌, ◌++◌, append_assoc, append-nil, sym, ap, subst}
use Rattle.std.proofs.Common.{◌∙◌, ◌-◌, ◌<◌, All, length, get_or, take, drop, arith, refl}
use Rattle.std.specs.List.{AllZip}
use Rattle.std.proofs.lemmas.List.{take_all}
use Rattle.std.proofs.lemmas.List.Elements.{All-cons}

-- what is left is the first one, and those after it
pub opened : {X : Type 0} (left : List X) (x : X) → 0 < length left → x ≡ get_or left 0 x
    → left ≡ x ∷ take (length left - 1) (drop 1 left)
opened [] x some first = absurd (omega arith)
opened (y ∷ rest) x some first =
    ap (λ z. z ∷ rest) (sym first)
    ∙ ap (λ ys. x ∷ ys) (sym (take_all (length (y ∷ rest) - 1) rest (omega arith)))

pub none_left : {X : Type 0} (left : List X) → length left < 1 → left ≡ []
none_left [] few = refl
none_left (x ∷ xs) few = absurd (omega arith)

pub all_before : {X : Type 0} (P : X → Type 0) (left : List X) (x : X) → 0 < length left
    → x ≡ get_or left 0 x → P x → All P (take (length left - 1) (drop 1 left)) → All P left
all_before P left x some first here rest =
    subst (All P) (sym (opened left x some first))
    (All-cons P x (take (length left - 1) (drop 1 left)) here rest)

module _ {A B : Type 0} (R : A → B → Type 0) (all : List A) where
  pub one_more : (left : List A) (x : A) (done next : List B) (y : B)
      → ((more : List B) → AllZip R (x ∷ left) more → AllZip R all (done ++ more)) → R x y
      → next ≡ done ++ y ∷ []
      → (more : List B) → AllZip R left more → AllZip R all (next ++ more)
  one_more left x done next y before is pushed more rest =
      subst (λ (ys : List B). AllZip R all ys)
      (sym (append_assoc done (y ∷ []) more) ∙ ap (λ (zs : List B). zs ++ more) (sym pushed))
      (before (y ∷ more) (is, rest))

  pub all_done : (done : List B)
      → ((more : List B) → AllZip R [] more → AllZip R all (done ++ more)) → AllZip R all done
  all_done done before =
      subst (λ (ys : List B). AllZip R all ys) (append-nil done) (before [] tt)

  pub steps_on : (left : List A) (x : A) (done next : List B) (y : B) → 0 < length left
      → x ≡ get_or left 0 x
      → ((more : List B) → AllZip R left more → AllZip R all (done ++ more)) → R x y
      → next ≡ done ++ y ∷ [] → (more : List B)
      → AllZip R (take (length left - 1) (drop 1 left)) more → AllZip R all (next ++ more)
  steps_on left x done next y some first before is pushed =
      one_more (take (length left - 1) (drop 1 left)) x done next y
      (subst
      (λ (l : List A). (more : List B) → AllZip R l more → AllZip R all (done ++ more))
      (opened left x some first) before)
      is pushed

  pub ends_on : (left : List A) (done : List B) → length left < 1
      → ((more : List B) → AllZip R left more → AllZip R all (done ++ more)) → AllZip R all done
  ends_on left done few before =
      all_done done
      (subst
      (λ (l : List A). (more : List B) → AllZip R l more → AllZip R all (done ++ more))
      (none_left left few) before)
