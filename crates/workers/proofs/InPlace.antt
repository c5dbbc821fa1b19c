-- Lists that are related element by element.
use Rattle.std.proofs.Common.{◌≡◌, List, [], ◌∷◌, ◌++◌, length, sym, ap, subst, ◌∙◌}
use Rattle.std.proofs.Common.{append_assoc, append-nil}
use Rattle.std.proofs.lemmas.List.{nil_from_length}
use Rattle.std.specs.List.{AllZip}

module _ {A B : Type 0} (R : A → B → Type 0) where
  zip_push : (xs : List A) (ys : List B) (x : A) (y : B) → AllZip R xs ys → R x y
      → AllZip R (xs ++ x ∷ []) (ys ++ y ∷ [])
  zip_push [] [] x y all one = (one, tt)
  zip_push [] (b ∷ ys) x y all one = absurd all
  zip_push (a ∷ xs) [] x y all one = absurd all
  zip_push (a ∷ xs) (b ∷ ys) x y all one = (all.0, zip_push xs ys x y all.1 one)

  -- some elements of a list were taken, and each of these has its related element
  pub record HasOneEach (all taken rest : List A) (made : List B) : Type 0 where
    pub split : all ≡ taken ++ rest
    pub each : AllZip R taken made

  pub one_more : (all taken rest next : List A) (x : A) (made more : List B) (y : B)
      → HasOneEach all taken rest made → rest ≡ x ∷ next → more ≡ made ++ y ∷ [] → R x y
      → HasOneEach all (taken ++ x ∷ []) next more
  one_more all taken rest next x made more y so_far first grown one = record {
    split = so_far.split ∙ ap (λ (xs : List A). taken ++ xs) first
        ∙ sym (append_assoc taken (x ∷ []) next);
    each = subst (AllZip R (taken ++ x ∷ [])) (sym grown)
        (zip_push taken made x y so_far.each one);
  }

  -- when all were taken, each has its related element
  pub all_have : (all taken rest : List A) (made : List B)
      → HasOneEach all taken rest made → length rest ≡ 0 → AllZip R all made
  all_have all taken rest made so_far none =
      subst (λ (xs : List A). AllZip R xs made) (sym (so_far.split
      ∙ ap (λ (xs : List A). taken ++ xs) (nil_from_length rest none) ∙ append-nil taken))
      so_far.each

pub zip_through : {A B C : Type 0} (R : A → B → Type 0) (S : B → C → Type 0) (T : A → C → Type 0)
    → ((x : A) (y : B) (z : C) → R x y → S y z → T x z)
    → (xs : List A) (ys : List B) (zs : List C) → AllZip R xs ys → AllZip S ys zs
    → AllZip T xs zs
zip_through R S T both [] [] [] first second = tt
zip_through R S T both [] [] (z ∷ zs) first second = absurd second
zip_through R S T both [] (y ∷ ys) zs first second = absurd first
zip_through R S T both (x ∷ xs) [] zs first second = absurd first
zip_through R S T both (x ∷ xs) (y ∷ ys) [] first second = absurd second
zip_through R S T both (x ∷ xs) (y ∷ ys) (z ∷ zs) first second =
    (both x y z first.0 second.0, zip_through R S T both xs ys zs first.1 second.1)
