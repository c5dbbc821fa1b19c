-- Tuples are added, and none is gone.
use Rattle.std.proofs.Common.{◌≡◌, ℕ, zero, suc, ◌+◌, ◌<◌, ◌≤◌, Bool, true, false, List, [], ◌∷◌}
use Rattle.std.proofs.Common.{◌++◌, length, map, set, get_or, Contains, refl, sym, ap, ap₂, subst}
use Rattle.std.proofs.Common.{◌∙◌, arith, below_more, slice_get, take, Some, ◌^◌}
use Rattle.std.proofs.lemmas.List.{map-append, take_more}
use Rattle.std.proofs.lemmas.List.Elements.{Contains-append_left, Contains-push}
use Rattle.diff_space.specs.declared.combination.Combination.{Combination}
use Rattle.diff_space.specs.declared.family.Family.{Family}
use Rattle.diff_space.specs.Coordinates.{Dimension}
use Rattle.diff_space.specs.Families.{AreFew, HasCombination, cell_or, cells_by, combination}
use Rattle.diff_space.specs.Families.{GrowsTo, HasAdded}
use Rattle.diff_space.specs.Groups.{Group, HasTuple, Tuple, all_cells}
use Rattle.diff_space.proofs.Tests.{all_at}

pub there : (tuples : List Tuple) (cells : List ℕ) → Contains (all_cells tuples) cells
    → HasAdded tuples tuples cells
there tuples cells has = record { has = has; kept = λ others before. before }

pub pushed : (tuples : List Tuple) (t : Tuple) → HasAdded tuples (tuples ++ t ∷ []) t.cells
pushed tuples t =
    let is = map-append (λ (u : Tuple). u.cells) tuples (t ∷ []) in record {
      has = subst (λ (all : List (List ℕ)). Contains all t.cells) (sym is)
          (Contains-push (all_cells tuples) t.cells);
      kept = λ others before. subst (λ (all : List (List ℕ)). Contains all others) (sym is)
          (Contains-append_left (all_cells tuples) (t.cells ∷ []) others before);
    }

pub first_has : (t : Tuple) (ts : List Tuple) (cells : List ℕ) → t.cells ≡ cells
    → Contains (all_cells (t ∷ ts)) cells
first_has t ts cells is = (0, omega arith, is)

pub rest_has : (t : Tuple) (ts : List Tuple) (cells : List ℕ) → Contains (all_cells ts) cells
    → Contains (all_cells (t ∷ ts)) cells
rest_has t ts cells h = (suc h.0, (let below = h.1 in omega arith), h.2)

pub has_at : (ts : List Tuple) (k : ℕ) (t d : Tuple) → k < length ts → t ≡ get_or ts k d
    → Contains (all_cells ts) t.cells
has_at [] k t d within is = absurd (omega arith)
has_at (u ∷ us) zero t d within is = first_has u us t.cells (sym (ap (λ (v : Tuple). v.cells) is))
has_at (u ∷ us) (suc k) t d within is =
    rest_has u us t.cells (has_at us k t d (omega arith) is)

-- a tuple gets a bucket, and keeps its cells
pub noted : (tuples : List Tuple) (k : ℕ) (t d : Tuple) → k < length tuples
    → t.cells ≡ (get_or tuples k d).cells → all_cells (set tuples k t) ≡ all_cells tuples
noted [] k t d within same = absurd (omega arith)
noted (u ∷ us) zero t d within same = ap (λ (c : List ℕ). c ∷ all_cells us) same
noted (u ∷ us) (suc k) t d within same =
    ap (λ (all : List (List ℕ)). u.cells ∷ all) (noted us k t d (omega arith) same)

pub same_cells : (old new last : List Tuple) (cells : List ℕ) → HasAdded old new cells
    → all_cells last ≡ all_cells new → HasAdded old last cells
same_cells old new last cells h same = record {
  has = subst (λ (all : List (List ℕ)). Contains all cells) (sym same) h.has;
  kept = λ others before.
      subst (λ (all : List (List ℕ)). Contains all others) (sym same) (h.kept others before);
}

-- ---- groups grow

pub stays : (g : Group) → GrowsTo g g
stays g = record { dimensions = refl; tuples = λ cells before. before }

pub further : (a b c : Group) → GrowsTo a b → GrowsTo b c → GrowsTo a c
further a b c first next = record {
  dimensions = next.dimensions ∙ first.dimensions;
  tuples = λ cells before. next.tuples cells (first.tuples cells before);
}

-- ---- combinations

module _ (f : Family) (ds : List Dimension) where
  pub has_still : (old new : Group) (c : Combination) → GrowsTo old new
      → HasCombination f ds old c → HasCombination f ds new c
  has_still old new c grows has = record {
    tuple = λ fit.
        subst (λ (members : List ℕ). HasTuple new (cells_by ds members c)) (sym grows.dimensions)
        (grows.tuples (cells_by ds old.dimensions c) (has.tuple fit));
  }

  pub added : (old new : Group) (c : Combination) (cells : List ℕ) → GrowsTo old new
      → HasTuple new cells → cells ≡ cells_by ds old.dimensions c → HasCombination f ds new c
  added old new c cells grows has is = record {
    tuple = λ fit.
        subst (HasTuple new)
        (is ∙ ap (λ (members : List ℕ). cells_by ds members c) (sym grows.dimensions)) has;
  }

  pub next_text : (old new : Group) (number text : ℕ) → GrowsTo old new
      → ((k : ℕ) → k < text → (is_known : Bool)
      → HasCombination f ds old (combination number is_known k))
      → ((is_known : Bool) → HasCombination f ds new (combination number is_known text))
      → (k : ℕ) → k < text + 1 → (is_known : Bool)
      → HasCombination f ds new (combination number is_known k)
  next_text old new number text grows before here =
      below_more
      (λ (k : ℕ). (is_known : Bool) → HasCombination f ds new (combination number is_known k)) text
      (λ k below is_known. has_still old new (combination number is_known k) grows
      (before k below is_known))
      here

  pub next_number : (old new : Group) (number most : ℕ) → GrowsTo old new
      → ((k : ℕ) → k < number → (text : ℕ) → text ≤ most → (is_known : Bool)
      → HasCombination f ds old (combination k is_known text))
      → ((text : ℕ) → text ≤ most → (is_known : Bool)
      → HasCombination f ds new (combination number is_known text))
      → (k : ℕ) → k < number + 1 → (text : ℕ) → text ≤ most → (is_known : Bool)
      → HasCombination f ds new (combination k is_known text)
  next_number old new number most grows before here =
      below_more
      (λ (k : ℕ). (text : ℕ) → text ≤ most → (is_known : Bool)
      → HasCombination f ds new (combination k is_known text)) number
      (λ k below text within is_known.
      has_still old new (combination k is_known text) grows (before k below text within is_known))
      here

  pub of_two : (old new : Group) (number text : ℕ) → GrowsTo old new
      → HasCombination f ds old (combination number false text)
      → HasCombination f ds new (combination number true text)
      → (is_known : Bool) → HasCombination f ds new (combination number is_known text)
  of_two old new number text grows if_unknown if_known true = if_known
  of_two old new number text grows if_unknown if_known false =
      has_still old new (combination number false text) grows if_unknown

-- ---- cells

pub few_at : (ds : List Dimension) (k : ℕ) (d : Dimension) → AreFew ds → slice_get ds k ≡ Some d
    → length d.starts < 2 ^ 16
few_at ds k d few at =
    all_at (λ (e : Dimension). length e.starts < 2 ^ 16) ds k d at few.each

pub cells_more : (ds : List Dimension) (c : Combination) (members : List ℕ) (k : ℕ) (cells : List ℕ)
    (cell : ℕ) → k < length members → cells ≡ cells_by ds (take k members) c
    → cell ≡ cell_or (slice_get ds (get_or members k 0)) c
    → cells ++ cell ∷ [] ≡ cells_by ds (take (k + 1) members) c
cells_more ds c members k cells cell within before here =
    let one = λ (m : ℕ). cell_or (slice_get ds m) c in
    ap₂ (λ (xs : List ℕ) (x : ℕ). xs ++ x ∷ []) before here
    ∙ sym (map-append one (take k members) (get_or members k 0 ∷ []))
    ∙ ap (map one) (sym (take_more members k 0 within))
