-- If the mask of a vector load is empty, its bytes need no escape.
use Rattle.std.proofs.Common.{◌≡◌, ℕ, suc, ◌+◌, ◌-◌, ◌%◌, ◌^◌, ◌≤◌, eqb, ltb, leb, ◌==◌, refl, sym}
use Rattle.std.proofs.Common.{ap, ap₂, ◌∙◌, subst, arith, Bool, true, false, cond, not, ◌||◌}
use Rattle.std.proofs.Common.{List, [], ◌∷◌, map, length, get_or, replicate, bit_or, Fits, w8}
use Rattle.std.specs.Bool.{OnTrue}
use Rattle.std.proofs.lemmas.Bool.{agree_below, agree_below_at, not-true, eqb-true}
use Rattle.std.proofs.lemmas.Simd.{map-map, mask_l-mod, length-chunk, get_or-chunk}
use Rattle.std.proofs.lemmas.Simd.{leading_from_mask_l, zip2_splat, zip2_splat_left}
use Rattle.std.proofs.lemmas.List.{length-map}
use Rattle.std.proofs.lemmas.List.Sums.{prefix_len_passes}
use lib.Lanes.{chunk, mask_l, zip2, top}
use Rattle.access_log.specs.Plain.{is_escaped, is_plain_text, ArePlainBetween}

abbrev stands : ℕ → Bool
stands b = not (is_escaped b)

-- what a comparison leaves in a lane
abbrev hit : ℕ → ℕ → ℕ
hit a b = cond (eqb a b) 255 0

abbrev below : ℕ → ℕ → ℕ
below a b = cond (ltb a b) 255 0

abbrev at_most : ℕ → ℕ → ℕ
at_most a b = cond (leb a b) 255 0

zip2-map : (f g : ℕ → ℕ) (xs : List ℕ)
    → zip2 bit_or (map f xs) (map g xs) ≡ map (λ x. bit_or (f x) (g x)) xs
zip2-map f g [] = refl
zip2-map f g (x ∷ xs) = ap (λ r. bit_or (f x) (g x) ∷ r) (zip2-map f g xs)

-- OR of two vectors that were computed lane by lane from v
either : (f g : ℕ → ℕ) (v : List ℕ) {a b : List ℕ} → a ≡ map f v → b ≡ map g v
    → zip2 bit_or a b ≡ map (λ x. bit_or (f x) (g x)) v
either f g v p q = ap₂ (zip2 bit_or) p q ∙ zip2-map f g v

-- if no lane is set, and each byte whose lane isn't set needs no escape, no byte needs one
all_stand : (d : List ℕ) (i n : ℕ) (z : List ℕ) → i + n ≤ length d → n ≤ 64
    → ((k : ℕ) → Fits w8 (get_or d k 0)) → eqb (mask_l (map (top 7) z) % 2 ^ 64) 0 ≡ true
    → (f : ℕ → ℕ) → z ≡ map f (chunk i n d)
    → agree_below (λ x. top 7 (f x) || stands x) (λ _. true) 256 ≡ true
    → ArePlainBetween d i (i + n)
all_stand d i n z room few fits none f lanes all k from to =
    let v = chunk i n d in
    let long = length-chunk i n d room in
    let mask =
    ap (λ l. mask_l l % 2 ^ 64) (ap (map (top 7)) lanes ∙ map-map (top 7) f v)
    ∙ mask_l-mod (map (λ x. top 7 (f x)) v) 64
    (omega (arith, length-map v (λ x. top 7 (f x)))) in
    let whole = leading_from_mask_l (λ x. top 7 (f x)) v (sym mask ∙ eqb-true _ 0 none) in
    let back : i + (k - i) ≡ k = omega arith in
    let at =
    get_or-chunk i n d (k - i) 0 (omega arith) ∙ ap (λ j. get_or d j 0) back in
    let clear =
    subst (λ x. top 7 (f x) ≡ false) at
    (not-true _ (prefix_len_passes (λ x. not (top 7 (f x))) v (k - i) 0 (omega arith))) in
    sym (ap (λ b. b || stands (get_or d k 0)) clear)
    ∙ agree_below_at (λ x. top 7 (f x) || stands x) (λ _. true) 256 (get_or d k 0) all
    (fits k).fits

on_true : (b : Bool) (P : Type 0) → (b ≡ true → P) → OnTrue b P
on_true true P f = f refl
on_true false P f = tt

-- the four tests of a vector of n lanes, as the code makes them
pub stand_from_lanes : (d : List ℕ) (i n : ℕ) → i + n ≤ length d → n ≤ 64
    → ((k : ℕ) → Fits w8 (get_or d k 0))
    → OnTrue
    (mask_l
    (map (top 7)
    (zip2 bit_or
    (zip2 bit_or
    (zip2 bit_or (zip2 hit (chunk i n d) (replicate n 34))
    (zip2 hit (chunk i n d) (replicate n 92)))
    (zip2 below (chunk i n d) (replicate n 32)))
    (zip2 at_most (replicate n 127) (chunk i n d)))) % 2 ^ 64 == 0)
    (ArePlainBetween d i (i + n))
stand_from_lanes d i n room few fits =
    let v = chunk i n d in
    let long = length-chunk i n d room in
    on_true _ _
    (λ none. all_stand d i n _ room few fits none _
    (either _ _ v
    (either _ _ v
    (either _ _ v (zip2_splat hit v n 34 long) (zip2_splat hit v n 92 long))
    (zip2_splat below v n 32 long)) (zip2_splat_left at_most 127 n v long)) refl)

plain_from : (d : List ℕ) → ArePlainBetween d 0 (length d) → is_plain_text d ≡ true
plain_from [] h = refl
plain_from (x ∷ xs) h =
    let first = not-true (is_escaped x) (h 0 (omega arith) (omega arith)) in
    ap (λ (b : Bool). cond b false (is_plain_text xs)) first
    ∙ plain_from xs (λ k p q. h (suc k) (omega arith) (omega arith))

pub plain_if : (b : Bool) (d : List ℕ) → OnTrue b (ArePlainBetween d 0 (length d))
    → OnTrue b (is_plain_text d ≡ true)
plain_if true d h = plain_from d h
plain_if false d h = tt
