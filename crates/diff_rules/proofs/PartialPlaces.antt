-- A place that agrees with a partial place agrees with it after one more of its segments, and has
-- its segments in each group.
use Rattle.std.proofs.Common.{◌≡◌, ◌∙◌, ℕ, ◌<◌, List, [], ◌∷◌, length}
use Rattle.std.proofs.Common.{⊎_elim, refl, ap, sym}
use Rattle.std.specs.Prelude.{true, Option, Some, None}
use Rattle.std.specs.Prelude.{slice_index, slice_set}
use Rattle.std.proofs.lemmas.Bool.{and_from, cases_eq, cases_lt, eq-eqb}
use Rattle.std.proofs.lemmas.List.{get_or-set_other, get_or-set_same}
use Rattle.std.proofs.lemmas.List.{set_past}
use Rattle.std.proofs.lemmas.Option.{same_Some}
use Rattle.diff_space.specs.Groups.{cells_at}
use Rattle.diff_rules.specs.Classes.{Agrees}
use Rattle.diff_rules.specs.Search.{fits}
use Rattle.diff_rules.specs.Search.{fits_segment}
use Rattle.diff_rules.specs.Truths.{PartialPlace, partial_at}

set_at : (place : List ℕ) (partial : PartialPlace) (d segment at c : ℕ) → Agrees place partial
    → slice_index place d ≡ segment → d < length partial
    → partial_at (slice_set partial d (Some segment)) d ≡ Some c → slice_index place d ≡ c
set_at place partial d segment at c agrees is within h =
    is ∙ same_Some segment c (sym (get_or-set_same partial d (Some segment) None within) ∙ h)

pub agrees_more : (place : List ℕ) (partial : PartialPlace) (d segment : ℕ) → Agrees place partial
    → slice_index place d ≡ segment → Agrees place (slice_set partial d (Some segment))
agrees_more place partial d segment agrees is = record {
  each = λ at c h. ⊎_elim
      (λ (same : at ≡ d). ⊎_elim
      (λ (within : d < length partial). ap (slice_index place) same
      ∙ set_at place partial d segment at c agrees is within
      (ap (partial_at (slice_set partial d (Some segment))) (sym same) ∙ h))
      (λ past. agrees.each at c
      (ap (λ (k : PartialPlace). partial_at k at) (sym (set_past partial d (Some segment) past))
      ∙ h))
      (cases_lt d (length partial)))
      (λ apart. agrees.each at c
      (sym (get_or-set_other partial d at (Some segment) None apart) ∙ h))
      (cases_eq at d);
}

-- ---- the groups' tuples

fits_partial : (o : Option ℕ) (segment : ℕ) → ((c : ℕ) → o ≡ Some c → segment ≡ c)
    → fits_segment o segment ≡ true
fits_partial None segment is = refl
fits_partial (Some c) segment is = eq-eqb c segment (sym (is c refl))

pub fits_place : (place : List ℕ) (partial : PartialPlace) → Agrees place partial → (ds : List ℕ)
    → fits ds (cells_at place ds) partial ≡ true
fits_place place partial agrees [] = refl
fits_place place partial agrees (d ∷ ds) =
    and_from (fits_segment (partial_at partial d) (slice_index place d))
    (fits ds (cells_at place ds) partial)
    (fits_partial (partial_at partial d) (slice_index place d) (agrees.each d))
    (fits_place place partial agrees ds)
