-- A place below a ceiling is below its cell's number.
use Rattle.std.proofs.Common.{◌≡◌, ℕ, ◌+◌, ◌-◌, ◌^◌, ◌<◌, ◌≤◌, max, min, Bool, true, false}
use Rattle.std.proofs.Common.{List, [], ◌∷◌, Option, refl, ap, subst, sym, ◌∙◌, arith}
use Rattle.std.specs.Prelude.{◌==◌, nat_le, nat_lt, if◌then◌else◌, All, Contains, IsSome}
use Rattle.std.specs.Prelude.{slice_index}
use Rattle.std.proofs.lemmas.Bool.{leb-true, leb-false, le-leb, eqb-true}
use Rattle.std.proofs.lemmas.Bool.Decides.{Decides-and, Decides-ltb, not_from_Decides}
use Rattle.std.proofs.lemmas.List.Elements.{All-nil, All-cons, All-head, All-tail, All-weaker}
use Rattle.std.proofs.lemmas.List.Elements.{All-contains, All-contains_itself}
use Rattle.std.specs.Bool.{Decides}
use mathlib.Core.Logic.{⊎_elim, ◌⊎◌, inl, inr}
use Rattle.cells.specs.declared.array.CellArray.{CellArray}
use Rattle.cells.specs.Apart.{ArraysLieApart, QuotasAreWide}
use Rattle.cells.specs.Arrays.{HasCell, HasRanges}
use Rattle.cells.specs.Directory.{IsDirectory}
use Rattle.ceilings.specs.declared.rule.Raised.{Raised}
use Rattle.ceilings.specs.Rule.{raised_in}
use Rattle.kept_cells.specs.Tickets.{limit_word}
use Rattle.counter_store.specs.Ledger.{IsBacked}
use Rattle.counter_store.specs.Places.{has_cell, places_in, places_of}
use Rattle.counter_store.specs.Quotas.{PlacesAreStored}

both_below : (p a b v : ℕ) → min p a ≤ v → min p b ≤ v → min p (max a b) ≤ v
both_below p a b v first rest = omega (arith, first, rest)

most : (arrays : List CellArray) (numbers : List ℕ) (cell : ℕ) (raised : List Raised)
    → cell < 4096 → All (IsBacked arrays numbers) raised
    → min (places_in arrays cell) (raised_in cell raised) ≤ slice_index numbers cell
most arrays numbers cell [] wide all = omega arith
most arrays numbers cell (s ∷ raised) wide all =
    by_cell (s.cell == cell) refl (All-head (IsBacked arrays numbers) s raised all).ceiling
    (most arrays numbers cell raised wide (All-tail (IsBacked arrays numbers) s raised all))
  where
    by_cell : (t : Bool) → (s.cell == cell) ≡ t
        → (s.cell < 4096 → min (places_in arrays s.cell) s.number ≤ slice_index numbers s.cell)
        → min (places_in arrays cell) (raised_in cell raised) ≤ slice_index numbers cell
        → min (places_in arrays cell)
        (if t then max s.number (raised_in cell raised) else raised_in cell raised)
        ≤ slice_index numbers cell
    by_cell true e first rest =
        both_below (places_in arrays cell) s.number (raised_in cell raised)
        (slice_index numbers cell)
        (subst (λ (c : ℕ). c < 4096 → min (places_in arrays c) s.number ≤ slice_index numbers c)
        (eqb-true s.cell cell e) first wide) rest
    by_cell false e first rest = rest

-- a limit that was raised is above all places
above_all : (arrays : List CellArray) (numbers : List ℕ) (cell : ℕ) (raised : List Raised)
    → places_in arrays cell ≤ 2 ^ 64 - 1 → All (IsBacked arrays numbers) raised
    → places_in arrays cell + raised_in (limit_word cell) raised ≤ 2 ^ 64 - 1
above_all arrays numbers cell [] small all = omega (arith, small)
above_all arrays numbers cell (s ∷ raised) small all =
    by_word (s.cell == limit_word cell) refl
    (All-head (IsBacked arrays numbers) s raised all).limit
    (above_all arrays numbers cell raised small
    (All-tail (IsBacked arrays numbers) s raised all))
  where
    both : (p a b : ℕ) → p + a ≤ 2 ^ 64 - 1 → p + b ≤ 2 ^ 64 - 1 → p + max a b ≤ 2 ^ 64 - 1
    both p a b first rest = omega (arith, first, rest)

    by_word : (t : Bool) → (s.cell == limit_word cell) ≡ t
        → ((c : ℕ) → s.cell ≡ limit_word c → places_in arrays c + s.number ≤ 2 ^ 64 - 1)
        → places_in arrays cell + raised_in (limit_word cell) raised ≤ 2 ^ 64 - 1
        → places_in arrays cell
        + (if t then max s.number (raised_in (limit_word cell) raised)
        else raised_in (limit_word cell) raised)
        ≤ 2 ^ 64 - 1
    by_word true e first rest =
        both (places_in arrays cell) s.number (raised_in (limit_word cell) raised)
        (first cell (eqb-true s.cell (limit_word cell) e)) rest
    by_word false e first rest = rest

-- the cell's places are those of the only array that has it, or none has it
only_places : (a : CellArray) (cell : ℕ) (arrays : List CellArray)
    → All (λ b. HasCell b cell → b ≡ a) arrays
    → (places_in arrays cell ≡ places_of a.quota) ⊎ All (λ b. ¬ HasCell b cell) arrays
only_places a cell [] all = inr (All-nil (λ b. ¬ HasCell b cell))
only_places a cell (b ∷ arrays) all =
    by_array (has_cell b cell) refl
    (All-head (λ (x : CellArray). HasCell x cell → x ≡ a) b arrays all)
    (only_places a cell arrays
    (All-tail (λ (x : CellArray). HasCell x cell → x ≡ a) b arrays all))
  where
    decides : Decides (has_cell b cell) (HasCell b cell)
    decides =
        Decides-and (nat_le b.base cell) (nat_lt cell (b.base + b.length))
        (leb-true b.base cell, le-leb b.base cell) (Decides-ltb cell (b.base + b.length))

    by_array : (t : Bool) → has_cell b cell ≡ t → (HasCell b cell → b ≡ a)
        → (places_in arrays cell ≡ places_of a.quota) ⊎ All (λ x. ¬ HasCell x cell) arrays
        → ((if t then places_of b.quota else places_in arrays cell) ≡ places_of a.quota)
        ⊎ All (λ x. ¬ HasCell x cell) (b ∷ arrays)
    by_array true e same rest =
        inl (ap (λ (x : CellArray). places_of x.quota) (same (decides.0 e)))
    by_array false e same rest =
        ⊎_elim (λ is. inl is)
        (λ none. inr (All-cons (λ x. ¬ HasCell x cell) b arrays
        (not_from_Decides (has_cell b cell) decides e) none)) rest

places_are : ArraysLieApart → (arrays : List CellArray) (a : CellArray) (cell : ℕ)
    → IsDirectory arrays → Contains arrays a → HasCell a cell
    → places_in arrays cell ≡ places_of a.quota
places_are apart arrays a cell directory there has =
    ⊎_elim (λ is. is)
    (λ none. absurd (All-contains (λ x. ¬ HasCell x cell) arrays a none there has))
    (only_places a cell arrays
    (All-weaker (Contains arrays) (λ (b : CellArray). HasCell b cell → b ≡ a)
    (λ b also has'. apart arrays b a cell directory also there has' has)
    arrays (All-contains_itself arrays)))

-- a place that isn't below the ceiling would be past the limit, and so no place
below_ceiling : (place quota ceiling room : ℕ) → quota + room ≤ 2 ^ 64 - 1 → place < quota
    → (ceiling ≤ place → 2 ^ 64 - 1 ≤ place + room) → place < ceiling
below_ceiling place quota ceiling room limit less covered =
    by_test (nat_le ceiling place) refl
  where
    no_place : 2 ^ 64 - 1 ≤ place + room → ⊥
    no_place past = omega (arith, limit, less, past)

    by_test : (t : Bool) → nat_le ceiling place ≡ t → place < ceiling
    by_test true e = absurd (no_place (covered (leb-true ceiling place e)))
    by_test false e = leb-false ceiling place e

pub stored : ArraysLieApart → QuotasAreWide → PlacesAreStored
stored apart wide arrays numbers raised a cell quota place directory there has is backed less
    covered =
    let some = subst (λ (q : Option ℕ). IsSome q) (sym is) refl in
    let low = wide arrays a cell directory there some has in
    let ranges = All-contains (λ (x : CellArray). HasRanges x.width x.length x.quota) arrays a
    directory.ranges there in
    let small = (ranges.quota_is quota is).to in
    let places = places_are apart arrays a cell directory there has ∙ ap places_of is in
    let number = most arrays numbers cell raised low backed in
    let limit = above_all arrays numbers cell raised (omega (arith, places, small)) backed in
    let below =
    below_ceiling place quota (raised_in cell raised) (raised_in (limit_word cell) raised)
    (omega (arith, places, limit)) less covered in
    omega (arith, places, number, less, below)
