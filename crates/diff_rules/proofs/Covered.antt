-- The search covers all machines in all states: a machine that agrees with a partial place also
-- has a segment of each other dimension.
use Rattle.std.proofs.Common.{◌≡◌, ℕ, ◌+◌, ◌<◌, ◌≤◌, List, [], ◌∷◌, ◌++◌, length}
use Rattle.std.proofs.Common.{Bor}
use Rattle.std.proofs.Common.{inl, inr, ⊎_elim, refl, sym, subst, arith}
use Rattle.std.specs.Prelude.{◌⊎◌, All, Bool, Option, true, false, Some}
use Rattle.std.specs.Prelude.{nat_le, slice_get, slice_index, slice_set}
use Rattle.std.specs.Slice.{IsItemAt}
use Rattle.std.proofs.lemmas.Bool.{cases_eq, false≢true}
use Rattle.std.proofs.lemmas.List.Elements.{Contains-append_left, Contains-push}
use Rattle.std.proofs.lemmas.List.Elements.{Contains-push_cases, All-weaker}
use Rattle.std.proofs.lemmas.List.Sums.{count_by-le-length}
use Rattle.std.proofs.lemmas.Option.{get_or_from_slice_get, slice_get_read}
use Rattle.std.proofs.lemmas.Option.{slice_get_within}
use Rattle.diff_space.specs.Coordinates.{Dimension, number_of, place_of}
use Rattle.diff_space.specs.Groups.{Group, HasTuple, IsGroup, cells_at}
use Rattle.diff_space.specs.Lines.{IsLine}
use Rattle.diff_space.specs.Machines.{Side}
use Rattle.diff_space.specs.Numbers.{are_rising, cell_at}
use Rattle.diff_space.specs.Scopes.{IsWithin, Scope}
use Rattle.diff_space.specs.Spaces.{IsSpaceOf, Space}
use Rattle.diff_rules.specs.declared.plan_run.PairRun.TheVariants as pair
use Rattle.diff_rules.specs.declared.plan_run.PlanRun.{PlanRun}
use Rattle.diff_rules.specs.declared.plan_run.PlanRun.TheVariants.{Gives, Needs, Unclear}
use Rattle.diff_rules.specs.Classes.{Agrees, PlaceClass, Covers}
use Rattle.diff_rules.specs.Search.{LosesNoMachine, IsPending, HasTuples}
use Rattle.diff_rules.specs.Search.{is_possible, pair_run}
use Rattle.diff_rules.specs.Stack.{plan_run}
use Rattle.diff_rules.specs.Truths.{PartialPlace}
use Rattle.diff_rules.proofs.PartialPlaces.{agrees_more}
use Rattle.diff_rules.proofs.PlanRuns.{run_is}
use Rattle.diff_rules.proofs.Tests.{place_at}

-- ---- what is left

pub has_same : (left new : List PartialPlace) (place : List ℕ) → new ≡ left → IsPending left place
    → IsPending new place
has_same left new place is has = subst (λ (ks : List PartialPlace). IsPending ks place) (sym is) has

pub has_more : (left : List PartialPlace) (k : PartialPlace) (place : List ℕ) → IsPending left place
    → IsPending (left ++ k ∷ []) place
has_more left k place has = record {
  partial = has.partial;
  there = Contains-append_left left (k ∷ []) has.partial has.there;
  agrees = has.agrees;
}

pub has_newest : (left : List PartialPlace) (k : PartialPlace) (place : List ℕ) → Agrees place k
    → IsPending (left ++ k ∷ []) place
has_newest left k place agrees =
    record { partial = k; there = Contains-push left k; agrees = agrees }

-- the partial place with one more segment is left, if some machine may have it
pub is_added : (left : List PartialPlace) (partial more : PartialPlace) (d segment : ℕ)
    → more ≡ slice_set partial d (Some segment) → (place : List ℕ) → Agrees place partial
    → slice_index place d ≡ segment → IsPending (left ++ more ∷ []) place
is_added left partial more d segment is place agrees here =
    has_newest left more place (subst (λ (k : PartialPlace). Agrees place k) (sym is)
    (agrees_more place partial d segment agrees here))

-- it is left, or agrees with the newest
newest_or_left : (left : List PartialPlace) (k : PartialPlace) (place : List ℕ)
    → IsPending (left ++ k ∷ []) place → IsPending left place ⊎ Agrees place k
newest_or_left left k place has = elim (Contains-push_cases left k has.partial has.there) [
  | inl older ↦ inl (record { partial = has.partial; there = older; agrees = has.agrees })
  | inr same ↦ inr (subst (λ (partial : PartialPlace). Agrees place partial) (sym same) has.agrees)
]

pub has_nothing : (place : List ℕ) → IsPending [] place → ⊥
has_nothing place has = let h = has.there.1 in absurd (omega (arith, h))

-- ---- the segments of a dimension

-- places that were left are left, and so is the partial place with each
-- possible segment from `from` on
pub record IsSplit (possible : Option (List Bool)) (partial : PartialPlace) (d segments from : ℕ)
    (old new : List PartialPlace)
    : Type 0 where
  pub kept : (place : List ℕ) → IsPending old place → IsPending new place
  pub all : (place : List ℕ) → Agrees place partial
      → is_possible possible (slice_index place d) ≡ true
      → from ≤ slice_index place d → slice_index place d < segments → IsPending new place

pub split_none : (possible : Option (List Bool)) (partial : PartialPlace) (d segments : ℕ)
    (old : List PartialPlace)
    → IsSplit possible partial d segments segments old old
split_none possible partial d segments old = record {
  kept = λ place has. has;
  all = λ place agrees may from to. absurd (omega (arith, from, to));
}

above : (m next n : ℕ) → next ≡ m + 1 → m ≤ n → (n ≡ m → ⊥) → next ≤ n
above m next n one low apart = omega (arith, one, low, apart)

pub split_one : (possible : Option (List Bool)) (partial : PartialPlace) (d segments from next : ℕ)
    (old mid new : List PartialPlace) → next ≡ from + 1
    → IsSplit possible partial d segments next old mid
    → ((place : List ℕ) → IsPending mid place → IsPending new place)
    → ((place : List ℕ) → Agrees place partial → is_possible possible (slice_index place d) ≡ true
    → slice_index place d ≡ from → IsPending new place)
    → IsSplit possible partial d segments from old new
split_one possible partial d segments from next old mid new one is kept here = record {
  kept = λ place has. kept place (is.kept place has);
  all = λ place agrees may low high. ⊎_elim
      (λ (same : slice_index place d ≡ from). here place agrees may same)
      (λ apart. kept place (is.all place agrees may
      (above from next (slice_index place d) one low apart) high))
      (cases_eq (slice_index place d) from);
}

-- ---- one more segment of a dimension

segment_within : (last : ℕ) (starts : List ℕ) (n : ℕ) → are_rising last starts ≡ true
    → cell_at starts n < length starts
segment_within last [] n rises = absurd (false≢true rises)
segment_within last (start ∷ starts) n rises =
    let most = count_by-le-length (λ (e : ℕ). nat_le e n) (start ∷ starts) in omega (arith, most)

pub got_at : (ds : List Dimension) (at : ℕ) (d : Bor Dimension) → IsItemAt ds at (Some d)
    → slice_get ds at ≡ Some d.now
got_at ds at d found = slice_get_read ds (length ds) at d.now refl found.3.0 found.1

line_at : (x : Scope) (ds : List Dimension) (at : ℕ) (d : Dimension) → All (IsLine x) ds
    → slice_get ds at ≡ Some d → IsLine x d
line_at x ds at d lines there =
    subst (λ (e : Dimension). IsLine x e) (get_or_from_slice_get ds at d d there)
    (lines at d (slice_get_within ds at d there))

module _ (space : Space) (classes : List PlaceClass) (left : List PartialPlace)
    (partial : PartialPlace) where
  pub split_loses_none : (new : List PartialPlace) (d : ℕ) (of : Dimension)
      → slice_get space.dimensions d ≡ Some of
      → ((place : List ℕ) → IsPending left place → IsPending new place)
      → ((place : List ℕ) → Agrees place partial → HasTuples space.groups place
      → slice_index place d < length of.starts → IsPending new place)
      → LosesNoMachine space classes (left ++ partial ∷ []) classes new
  split_loses_none new d of there kept all x old new_side is a g within (inl i) = inl i
  split_loses_none new d of there kept all x old new_side is a g within (inr has) =
      let place = place_of space.dimensions a g in
      let line = line_at x space.dimensions d of is.lines there in
      let bound = subst (λ (c : ℕ). c < length of.starts)
      (sym (place_at space.dimensions a g of d there))
      (segment_within of.last of.starts (number_of of a g) line.rises) in
      let tuples = All-weaker (IsGroup (IsWithin x) space.dimensions)
      (λ (h : Group). HasTuple h (cells_at place h.dimensions))
      (λ h group. group a g within) space.groups is.groups in
      elim (newest_or_left left partial place has) [
        | inl older ↦ inr (kept place older)
        | inr agrees ↦ inr (all place agrees tuples bound)
      ]

  both_give : (c e : PlanRun) (now next : ℕ) → pair_run c e ≡ pair.Both now next
      → (c ≡ Gives now) × (e ≡ Gives next)
  both_give (Gives n) (Gives m) now next is = (cc, cc)
  both_give (Gives n) (Needs at) now next is = absurd cc
  both_give (Gives n) Unclear now next is = absurd cc
  both_give (Needs at) e now next is = absurd cc
  both_give Unclear e now next is = absurd cc

  pub class_loses_none : (now next : ℕ)
      → pair_run (plan_run space.dimensions partial [] space.old)
      (plan_run space.dimensions partial [] space.new) ≡ pair.Both now next
      → LosesNoMachine space classes (left ++ partial ∷ [])
      (classes ++ record { partial = partial; current = now; next = next } ∷ []) left
  class_loses_none now next gives x old new is a g within (inl i) = inl (record {
    one = i.one;
    there = Contains-append_left classes _ i.one i.there;
    is_in = i.is_in;
  })
  class_loses_none now next gives x old new is a g within (inr has) =
      let both = both_give _ _ now next gives in
      let ds = space.dimensions in
      elim (newest_or_left left partial (place_of ds a g) has) [
        | inl older ↦ inr older
        | inr agrees ↦ inl (record {
          one = record { partial = partial; current = now; next = next };
          there = Contains-push classes _;
          is_in = record {
            agrees = agrees;
            current_is = run_is (IsWithin x) ds a g partial within agrees old space.old now
                is.old_plan both.0;
            next_is = run_is (IsWithin x) ds a g partial within agrees new space.new next
                is.new_plan both.1;
          };
        })
      ]

-- ---- the whole search

pub loses_none_then : (space : Space) (classes more last : List PlaceClass)
    (left mid new : List PartialPlace)
    → LosesNoMachine space classes left more mid → LosesNoMachine space more mid last new
    → LosesNoMachine space classes left last new
loses_none_then space classes more last left mid new one two x old new_side is a g within
    before =
    two x old new_side is a g within (one x old new_side is a g within before)

pub covered : (x : Scope) (old new : Side) (space : Space) (classes : List PlaceClass)
    (first : PartialPlace)
    → IsSpaceOf x old new space → ((place : List ℕ) → Agrees place first)
    → LosesNoMachine space [] (first ∷ []) classes [] → Covers x old new space classes
covered x old new space classes first is agrees finds a g within =
    let place = place_of space.dimensions a g in
    elim (finds x old new is a g within (inr (has_newest [] first place (agrees place)))) [
      | inl one ↦ one
      | inr has ↦ absurd (has_nothing place has)
    ]
