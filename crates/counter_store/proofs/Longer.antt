-- A directory that extends another has no cell with more places.
use Rattle.std.proofs.Common.{◌≡◌, ℕ, ◌-◌, ◌^◌, ◌≤◌, Bool, true, false, List, [], ◌∷◌, ◌++◌}
use Rattle.std.proofs.Common.{Option, Some, None, length, refl, sym, subst, ◌∙◌, arith}
use Rattle.std.specs.Prelude.{All, IsFalse, IsTrue, if◌then◌else◌, nat_lt, slice_index}
use Rattle.std.proofs.Math.ListN.{get_or-eq_default}
use Rattle.std.proofs.lemmas.Bool.{ltb-true, ltb-false, true≢false}
use Rattle.std.proofs.lemmas.List.Elements.{All-head, All-tail}
use mathlib.Core.List.{IsPrefix}
use Rattle.cells.specs.declared.array.CellArray.{CellArray}
use Rattle.cells.specs.Arrays.{HasRanges}
use Rattle.cells.specs.Directory.{IsDirectory}
use Rattle.counter_store.specs.Ledger.{AreNotLower}
use Rattle.counter_store.specs.Places.{ArePlaces, has_cell, places_in, places_of}

abbrev IsInRange : CellArray → Type 0
IsInRange a = HasRanges a.width a.length a.quota

quota_small : (a : CellArray) → IsInRange a → (q : Option ℕ) → a.quota ≡ q
    → places_of q ≤ 2 ^ 64 - 1
quota_small a ranges None is = omega arith
quota_small a ranges (Some quota) is =
    let most = (ranges.quota_is quota is).to in
    omega (arith, most)

small : (arrays : List CellArray) (cell : ℕ) → All IsInRange arrays
    → places_in arrays cell ≤ 2 ^ 64 - 1
small [] cell all = omega arith
small (a ∷ arrays) cell all =
    by_array (has_cell a cell) (quota_small a (All-head IsInRange a arrays all) a.quota refl)
    (small arrays cell (All-tail IsInRange a arrays all))
  where
    by_array : (t : Bool) → places_of a.quota ≤ 2 ^ 64 - 1 → places_in arrays cell ≤ 2 ^ 64 - 1
        → (if t then places_of a.quota else places_in arrays cell) ≤ 2 ^ 64 - 1
    by_array true first rest = first
    by_array false first rest = rest

no_more : (arrays rest : List CellArray) (cell : ℕ) → All IsInRange (arrays ++ rest)
    → places_in (arrays ++ rest) cell ≤ places_in arrays cell
no_more [] rest cell all = small rest cell all
no_more (a ∷ arrays) rest cell all =
    by_array (has_cell a cell)
    (no_more arrays rest cell (All-tail IsInRange a (arrays ++ rest) all))
  where
    same : (n : ℕ) → n ≤ n
    same n = omega arith

    by_array : (t : Bool) → places_in (arrays ++ rest) cell ≤ places_in arrays cell
        → (if t then places_of a.quota else places_in (arrays ++ rest) cell)
        ≤ (if t then places_of a.quota else places_in arrays cell)
    by_array true less = same (places_of a.quota)
    by_array false less = less

beyond : (places : List ℕ) (cell : ℕ) → length places ≤ cell → slice_index places cell ≡ 0
beyond places cell le = get_or-eq_default places 0 le

pub longer_has_no_more : (old new : List CellArray) (before places : List ℕ) → IsPrefix old new
    → IsDirectory new → ArePlaces old before → ArePlaces new places → AreNotLower places before
longer_has_no_more old new before places prefix directory was are cell =
    by_cell (nat_lt cell 4096) refl
  where
    fewer : places_in new cell ≤ places_in old cell
    fewer =
        subst (λ (arrays : List CellArray). places_in arrays cell ≤ places_in old cell) prefix.1
        (no_more old prefix.0 cell (subst (All IsInRange) (sym prefix.1) directory.ranges))

    by_cell : (t : Bool) → nat_lt cell 4096 ≡ t
        → slice_index places cell ≤ slice_index before cell
    by_cell true e =
        let wide = ltb-true cell 4096 e in
        let old_is = was.each cell wide in
        let new_is = are.each cell wide in
        let less = fewer in
        omega (arith, old_is, new_is, less)
    by_cell false e =
        let count = are.count in
        let above = ltb-false cell 4096 e in
        let none = beyond places cell (omega (arith, count, above)) in
        omega (arith, none)

-- if a test of that fails, the directory doesn't go on from the other
pub no_prefix : (old new : List CellArray) (before places before' places' : List ℕ) (result : Bool)
    → IsDirectory new → ArePlaces old before → ArePlaces new places → places' ≡ places
    → before' ≡ before
    → (((cell : ℕ) → slice_index places' cell ≤ slice_index before' cell) → IsTrue result)
    → IsFalse result → IsPrefix old new → old ≡ new
no_prefix old new before places before' places' result directory was are places_are before_is only
    fails prefix =
    absurd (true≢false (sym holds ∙ fails))
  where
    holds : result ≡ true
    holds =
        only (λ cell.
        subst (λ (b : List ℕ). slice_index places' cell ≤ slice_index b cell) (sym before_is)
        (subst (λ (p : List ℕ). slice_index p cell ≤ slice_index before cell) (sym places_are)
        (longer_has_no_more old new before places prefix directory was are cell)))
