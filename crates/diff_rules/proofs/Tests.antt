-- A test of a plan on a partial place decides as the rule's test does.
use Rattle.std.proofs.Common.{◌≡◌, ◌∙◌, ℕ, List, ◌∷◌, refl, ap, sym, subst}
use Rattle.std.proofs.Common.{arith}
use Rattle.std.specs.Prelude.{Bool, true, false, Option, Some, None, if◌then◌else◌}
use Rattle.std.specs.Prelude.{nat_le, nat_lt, option_map, slice_get, slice_index}
use Rattle.std.specs.Ordering.{nat_cmp}
use Rattle.std.proofs.lemmas.Bool.{le-ltb, leb-true, lt-ltb, ltb-true}
use Rattle.std.proofs.lemmas.Option.{get_or_from_slice_get, slice_get-map}
use Rattle.attrs.specs.Attributes.{Attributes}
use Rattle.cells.specs.Arrays.{AppShape}
use Rattle.rule_lang.specs.Meaning.{Behaviour, allows, add_one_then, cell_used, test_holds}
use Rattle.rule_lang.specs.Meaning.{test_then}
use Rattle.rule_lang.specs.declared.test.Test.{Test}
use Rattle.diff_space.specs.declared.plan_test.PlanTest.{PlanTest}
use Rattle.diff_space.specs.declared.plan_test.PlanTest.TheVariants.{Constant, Compares, Takes}
use Rattle.diff_space.specs.Coordinates.{Dimension, begin_of, cell_in, last_in, number_of}
use Rattle.diff_space.specs.Coordinates.{place_of}
use Rattle.diff_space.specs.Machines.{State, chooses_in, left_in, reply_after, takes_of}
use Rattle.diff_space.specs.Plans.{DecidesAs, IsInCell}
use Rattle.diff_rules.specs.declared.truth.Truth.{Truth}
use Rattle.diff_rules.specs.declared.truth.Truth.TheVariants.{Holds, Fails, Needs, Unclear}
use Rattle.diff_rules.specs.Classes.{Agrees}
use Rattle.diff_rules.specs.Stack.{taken_by}
use Rattle.diff_rules.specs.Truths.{PartialPlace, compare_truth, decided, partial_at, take_truth}
use Rattle.diff_rules.specs.Truths.{truth_at, truth_of}

-- a choice is that of the continuation that a truth decides, if it decides one
abbrev pub Goes : (left : ℕ → ℕ) → Truth → (taken : List ℕ) → (met unmet : Behaviour)
    → (choice : ℕ) → Type 0
Goes left Holds taken met unmet choice = choice ≡ chooses_in left taken met
Goes left Fails taken met unmet choice = choice ≡ chooses_in left taken unmet
Goes left (Needs at) taken met unmet choice = Unit {0}
Goes left Unclear taken met unmet choice = Unit {0}

decided_goes : (left : ℕ → ℕ) (b : Bool) (taken : List ℕ) (met unmet : Behaviour)
    → Goes left (decided b) taken met unmet (chooses_in left taken (if b then met else unmet))
decided_goes left true taken met unmet = refl
decided_goes left false taken met unmet = refl

take_goes : (left : ℕ → ℕ) (taken : List ℕ) (met unmet : Behaviour) (more fewer granted : Bool)
    → (more ≡ true → granted ≡ true) → (fewer ≡ true → granted ≡ false)
    → Goes left (if more then Holds else if fewer then Fails else Unclear) taken met unmet
    (chooses_in left taken (if granted then met else unmet))
take_goes left taken met unmet true fewer granted if_more if_fewer =
    ap (λ (b : Bool). chooses_in left taken (if b then met else unmet)) (if_more refl)
take_goes left taken met unmet false true granted if_more if_fewer =
    ap (λ (b : Bool). chooses_in left taken (if b then met else unmet)) (if_fewer refl)
take_goes left taken met unmet false false granted if_more if_fewer = tt

-- ---- the segment of a dimension, if there is one

pub place_at : (ds : List Dimension) (a : Attributes) (g : State) (d : Dimension) (at : ℕ)
    → slice_get ds at ≡ Some d → slice_index (place_of ds a g) at ≡ cell_in d a g
place_at ds a g d at there =
    get_or_from_slice_get (place_of ds a g) at (cell_in d a g) 0
    (slice_get-map (λ (e : Dimension). cell_in e a g) ds at
    ∙ ap (option_map (λ (e : Dimension). cell_in e a g)) there)

by_segment : (P : Truth → Type 0) (d : Dimension) (segment : ℕ) (o : Option ℕ) (at : ℕ)
    (truth : Dimension → ℕ → Truth) → ((c : ℕ) → o ≡ Some c → segment ≡ c) → P (Needs at)
    → P (truth d segment) → P (truth_at (Some d) o at truth)
by_segment P d segment None at truth is needs here = needs
by_segment P d segment (Some c) at truth is needs here =
    subst (λ (n : ℕ). P (truth d n)) (is c refl) here

module _ (Is : Attributes → State → Type 0) (ds : List Dimension) (s : AppShape)
    (a : Attributes) (g : State) (partial : PartialPlace) (within : Is a g)
    (agrees : Agrees (place_of ds a g) partial) where
  at_segment : (P : Truth → Type 0) (d : Dimension) (at : ℕ) (truth : Dimension → ℕ → Truth)
      → slice_get ds at ≡ Some d → P (Needs at) → P (truth d (cell_in d a g))
      → P (truth_at (slice_get ds at) (partial_at partial at) at truth)
  at_segment P d at truth there needs here =
      subst (λ (o : Option Dimension). P (truth_at o (partial_at partial at) at truth)) (sym there)
      (by_segment P d (cell_in d a g) (partial_at partial at) at truth
      (λ c is. sym (place_at ds a g d at there) ∙ agrees.each at c is) needs here)

  plain_goes : (t : Test) (b : Bool) (taken : List ℕ) (met unmet : Behaviour)
      → cell_used s t ≡ None → test_holds a s 0 t ≡ b
      → Goes (left_in g s) (decided b) taken met unmet
      (chooses_in (left_in g s) taken (test_then a s t met unmet))
  plain_goes t b taken met unmet none is =
      subst (λ (k : ℕ). Goes (left_in g s) (decided b) taken met unmet k)
      (sym (ap (λ (o : Option ℕ). chooses_in (left_in g s) taken
      (add_one_then o (λ reply. if test_holds a s reply t then met else unmet))) none
      ∙ ap (λ (x : Bool). chooses_in (left_in g s) taken (if x then met else unmet)) is))
      (decided_goes (left_in g s) b taken met unmet)

  -- a take, after these
  taken_is : (t : Test) (cell : ℕ) (granted : Bool) (taken : List ℕ) (met unmet : Behaviour)
      → cell_used s t ≡ Some cell
      → test_holds a s (reply_after (left_in g s cell) (takes_of cell taken)) t ≡ granted
      → chooses_in (left_in g s) taken (test_then a s t met unmet)
      ≡ chooses_in (left_in g s) (cell ∷ taken) (if granted then met else unmet)
  taken_is t cell granted taken met unmet asked is =
      ap (λ (o : Option ℕ). chooses_in (left_in g s) taken
      (add_one_then o (λ reply. if test_holds a s reply t then met else unmet))) asked
      ∙ ap (λ (x : Bool). chooses_in (left_in g s) (cell ∷ taken) (if x then met else unmet)) is

  take_truth_goes : (d : Dimension) (here number cell : ℕ) (taken : List ℕ)
      (met unmet : Behaviour) → IsInCell d here number
      → Goes (left_in g s) (take_truth d here (takes_of cell taken)) (cell ∷ taken) met unmet
      (chooses_in (left_in g s) (cell ∷ taken)
      (if nat_lt (takes_of cell taken) number then met else unmet))
  take_truth_goes d here number cell taken met unmet inside =
      let before = takes_of cell taken in
      take_goes (left_in g s) (cell ∷ taken) met unmet (nat_lt before (begin_of d here))
      (nat_le (last_in d here) before) (nat_lt before number)
      (λ h. lt-ltb before number (let low = ltb-true before (begin_of d here) h in
      let from = inside.from in omega (arith, low, from)))
      (λ h. le-ltb before number (let high = leb-true (last_in d here) before h in
      let to = inside.to in omega (arith, high, to)))

  pub test_goes : (t : Test) (p : PlanTest) → DecidesAs Is ds s t p
      → (taken : List ℕ) (met unmet : Behaviour)
      → Goes (left_in g s) (truth_of ds partial taken p) (taken_by p taken) met unmet
      (chooses_in (left_in g s) taken (test_then a s t met unmet))
  test_goes t (Constant b) is taken met unmet =
      plain_goes t b taken met unmet is.no_cell (is.holds a g within)
  test_goes t (Compares at r n) is taken met unmet =
      let d = is.dimension in
      at_segment (λ z. Goes (left_in g s) z taken met unmet
      (chooses_in (left_in g s) taken (test_then a s t met unmet))) d at
      (λ e segment. compare_truth e segment r n) is.is_at tt
      (plain_goes t (allows r (nat_cmp (begin_of d (cell_in d a g)) n)) taken met unmet is.no_cell
      (is.holds a g within))
  test_goes t (Takes at cell) is taken met unmet =
      let d = is.dimension in
      let before = takes_of cell taken in
      at_segment (λ z. Goes (left_in g s) z (cell ∷ taken) met unmet
      (chooses_in (left_in g s) taken (test_then a s t met unmet))) d at
      (λ e c. take_truth e c before) is.is_at tt
      (subst (λ (k : ℕ). Goes (left_in g s) (take_truth d (cell_in d a g) before) (cell ∷ taken)
      met unmet k) (sym (taken_is t cell (nat_lt before (number_of d a g)) taken met unmet
      is.its_cell (is.holds a g within before)))
      (take_truth_goes d (cell_in d a g) (number_of d a g) cell taken met unmet
      (is.in_cell a g within)))
