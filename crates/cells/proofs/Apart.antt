-- Arrays of a directory share no cells, and a directory keeps the arrays that it has.
use Rattle.std.proofs.Common.{◌≡◌, ℕ, zero, suc, ◌+◌, ◌≤◌, inl, inr, List, [], ◌∷◌, ◌++◌}
use Rattle.std.proofs.Common.{get_or, refl, sym, ap, subst, ◌∙◌, arith}
use Rattle.std.proofs.Common.{Bool, true, false, Option, Some, None}
use Rattle.std.specs.Prelude.{IsSome, Contains, slice_get, if◌then◌else◌}
use Rattle.std.specs.Str.{bytes_eq}
use Rattle.std.proofs.lemmas.List.Elements.{Contains-get_or, Contains-append_right}
use Rattle.std.proofs.lemmas.Option.{slice_get-get_or, same_Some}
use Rattle.std.proofs.lemmas.Slice.Eq.{bytes_eq-Decides}
use Rattle.cells.specs.declared.array.CellArray.{CellArray}
use Rattle.cells.specs.declared.array.CellWidth.{CellWidth}
use Rattle.cells.specs.Apart.{ArraysLieApart, QuotasAreWide, NamedArraysAreThere}
use Rattle.cells.specs.Apart.{NumberedArraysAreNamed, ArraysPreserved}
use Rattle.cells.specs.Arrays.{first_cell}
use Rattle.cells.specs.Directory.{HasDistinctNames, array_named, HasArray}
use Rattle.cells.proofs.OneWay.{place_of}
use Rattle.cells.proofs.Shapes.{apart_in, array_in, placed}

-- ---- their cells

pub lie_apart : ArraysLieApart
lie_apart arrays a b cell known first second in_a in_b =
    let here = place_of arrays a first in
    let there = place_of arrays b second in
    elim (apart_in arrays here.0 there.0 a b known here.1 there.1) [
      | inl same ↦ same
      | inr apart ↦ absurd (apart cell in_a in_b)
    ]

some_of : (o : Option ℕ) → IsSome o → (q : ℕ) × (o ≡ Some q)
some_of None is = absurd cc
some_of (Some q) is = (q, refl)

pub are_wide : QuotasAreWide
are_wide arrays a cell known there has in_a =
    let place = place_of arrays a there in
    let is = array_in arrays place.0 a known place.1 in
    let quota = some_of a.quota has in
    let wide = (is.ranges.quota_is quota.0 quota.1).width in
    let to : a.base + a.length ≤ 4096 =
    subst (λ (w : CellWidth). a.base + a.length ≤ first_cell w + 4096) wide is.to in
    omega (arith, to, in_a.1)

-- ---- by their names

-- the array that a name finds in a list with a first array
found_by : (name : List ℕ) (b : CellArray) (rest : List CellArray) (t : Bool)
    → bytes_eq b.name name ≡ t
    → array_named name (b ∷ rest) ≡ (if t then Some b else array_named name rest)
found_by name b rest t is =
    ap (λ (t : Bool). if t then Some b else array_named name rest) is

there_by : (name : List ℕ) (arrays : List CellArray) (a : CellArray)
    → array_named name arrays ≡ Some a → Contains arrays a
there_by name [] a is = absurd cc
there_by name (b ∷ rest) a is =
    by_name (bytes_eq b.name name) refl (λ later. there_by name rest a later)
  where
    by_name : (t : Bool) → bytes_eq b.name name ≡ t
        → (array_named name rest ≡ Some a → Contains rest a) → Contains (b ∷ rest) a
    by_name true e go =
        let same : b ≡ a = same_Some b a (sym (found_by name b rest true e) ∙ is) in
        subst (Contains (b ∷ rest)) same (Contains-get_or (b ∷ rest) 0 b (omega arith))
    by_name false e go =
        Contains-append_right (b ∷ []) rest a (go (sym (found_by name b rest false e) ∙ is))

pub named_there : NamedArraysAreThere
named_there arrays a has = there_by a.name arrays a has

rest_apart : (b : CellArray) (rest : List CellArray) → HasDistinctNames (b ∷ rest)
    → HasDistinctNames rest
rest_apart b rest apart i j x y at_i at_j same =
    let one = apart (suc i) (suc j) x y at_i at_j same in
    omega (arith, one)

named_at : (arrays : List CellArray) (m : ℕ) (a : CellArray) → HasDistinctNames arrays
    → slice_get arrays m ≡ Some a → HasArray arrays a
named_at [] m a apart at = absurd cc
named_at (b ∷ rest) zero a apart at =
    let same : b ≡ a = same_Some b a at in
    let own = (bytes_eq-Decides b.name a.name).1 (ap (λ (c : CellArray). c.name) same) in
    found_by a.name b rest true own ∙ ap (λ (c : CellArray). Some c) same
named_at (b ∷ rest) (suc m) a apart at =
    by_name (bytes_eq b.name a.name) refl (named_at rest m a (rest_apart b rest apart) at)
  where
    by_name : (t : Bool) → bytes_eq b.name a.name ≡ t → HasArray rest a → HasArray (b ∷ rest) a
    by_name true e later =
        let one = apart 0 (suc m) b a refl at ((bytes_eq-Decides b.name a.name).0 e) in
        absurd (omega (arith, one))
    by_name false e later = found_by a.name b rest false e ∙ later

pub numbered_named : NumberedArraysAreNamed
numbered_named directory numbers arrays apart are k d within =
    let a = get_or arrays k d in
    let there = placed directory numbers arrays are k a (slice_get-get_or arrays k d within) in
    named_at directory there.0 a apart there.1

-- ---- in longer directories

found_still : (name : List ℕ) (old more : List CellArray) (a : CellArray)
    → array_named name old ≡ Some a → array_named name (old ++ more) ≡ Some a
found_still name [] more a is = absurd cc
found_still name (b ∷ old) more a is =
    by_name (bytes_eq b.name name) refl (λ later. found_still name old more a later)
  where
    by_name : (t : Bool) → bytes_eq b.name name ≡ t
        → (array_named name old ≡ Some a → array_named name (old ++ more) ≡ Some a)
        → array_named name (b ∷ old ++ more) ≡ Some a
    by_name true e go =
        found_by name b (old ++ more) true e ∙ sym (found_by name b old true e) ∙ is
    by_name false e go =
        found_by name b (old ++ more) false e ∙ go (sym (found_by name b old false e) ∙ is)

pub stay : ArraysPreserved
stay old new a grown has =
    subst (λ (arrays : List CellArray). HasArray arrays a) grown.1
    (found_still a.name old grown.0 a has)
