-- Whether a test of a plan holds for each machine in each state that agrees with a partial place.
use Rattle.std.specs.Prelude.{ℕ, List, Option, Some, None, slice_get, slice_index_or}
use Rattle.std.specs.Prelude.{Bool, true, false, nat_le, nat_lt, if◌then◌else◌}
use Rattle.std.specs.Ordering.{nat_cmp}
use Rattle.rule_lang.specs.Meaning.{allows}
use Rattle.rule_lang.specs.declared.test.Comparison.{Comparison}
use Rattle.diff_space.specs.declared.plan_test.PlanTest.{PlanTest}
use Rattle.diff_space.specs.declared.plan_test.PlanTest.TheVariants.{Constant, Compares, Takes}
use Rattle.diff_space.specs.Coordinates.{Dimension, begin_of, last_in}
use Rattle.diff_space.specs.Machines.{takes_of}
use Rattle.diff_rules.specs.declared.truth.Truth.{Truth}
use Rattle.diff_rules.specs.declared.truth.Truth.TheVariants.{Holds, Fails, Needs, Unclear}

-- for each dimension its segment, or `None` if that isn't known
abbrev pub PartialPlace : Type 0
PartialPlace = List (Option ℕ)

-- the segment of a dimension, if there is one
abbrev pub partial_at : PartialPlace → (at : ℕ) → Option ℕ
partial_at partial at = slice_index_or partial at None

-- what a truth value says
abbrev pub decided : Bool → Truth
decided true = Holds
decided false = Fails

-- the result of `not`
abbrev pub negated : Truth → Truth
negated Holds = Fails
negated Fails = Holds
negated (Needs at) = Needs at
negated Unclear = Unclear

-- one more take of a cell, after `before` takes of it. The number of takes that the cell grants is
-- in this segment of its dimension
abbrev pub take_truth : Dimension → (segment before : ℕ) → Truth
take_truth d segment before =
    if nat_lt before (begin_of d segment) then Holds
    else if nat_le (last_in d segment) before then Fails else Unclear

-- all numbers of a segment compare as its first one does
abbrev pub compare_truth : Dimension → (segment : ℕ) → Comparison → (number : ℕ) → Truth
compare_truth d segment r n = decided (allows r (nat_cmp (begin_of d segment) n))

-- the truth by a dimension and its segment, if both are there
abbrev pub truth_at : Option Dimension → Option ℕ → (at : ℕ) → (Dimension → ℕ → Truth) → Truth
truth_at None segment at truth = Unclear
truth_at (Some d) None at truth = Needs at
truth_at (Some d) (Some segment) at truth = truth d segment

-- `taken` are the cells to which the run has added
abbrev pub truth_of : List Dimension → PartialPlace → (taken : List ℕ) → PlanTest → Truth
truth_of ds partial taken (Constant b) = decided b
truth_of ds partial taken (Compares at r n) =
    truth_at (slice_get ds at) (partial_at partial at) at (λ d segment. compare_truth d segment r n)
truth_of ds partial taken (Takes at of) =
    truth_at (slice_get ds at) (partial_at partial at) at
    (λ d segment. take_truth d segment (takes_of of taken))
