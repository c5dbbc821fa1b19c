-- How the code runs a plan on a partial place: over a stack of parts of a condition, and the cells
-- to which the run has added, the newest first. No promise uses this.
use Rattle.std.specs.Prelude.{ℕ, List, [], ◌∷◌, length, drop, ◌-◌, Option, Some, None}
use Rattle.std.specs.Prelude.{Bool, true, false, option_and_then, if◌then◌else◌}
use Rattle.diff_space.specs.declared.plan.PlanStep.{PlanStep}
use Rattle.diff_space.specs.declared.plan.PlanStep.TheVariants as step
use Rattle.diff_space.specs.declared.plan.PlanStatement.{PlanStatement}
use Rattle.diff_space.specs.declared.plan.PlanStatement.TheVariants.{Count, When}
use Rattle.diff_space.specs.declared.plan_test.PlanTest.{PlanTest}
use Rattle.diff_space.specs.declared.plan_test.PlanTest.TheVariants.{Takes}
use Rattle.diff_space.specs.Coordinates.{Dimension}
use Rattle.diff_rules.specs.declared.condition.PartTruth.{PartTruth}
use Rattle.diff_rules.specs.declared.plan_run.PlanRun.{PlanRun}
use Rattle.diff_rules.specs.declared.plan_run.PlanRun.TheVariants as run
use Rattle.diff_rules.specs.declared.truth.Truth.{Truth}
use Rattle.diff_rules.specs.declared.truth.Truth.TheVariants.{Holds, Fails, Needs, Unclear}
use Rattle.diff_rules.specs.Truths.{PartialPlace, negated, truth_of}

-- a stack of parts, and the cells to which the run has added
pub record Stacked : Type 0 where
  pub parts : List PartTruth
  pub taken : List ℕ

-- the record of both
abbrev pub stacked : List PartTruth → (taken : List ℕ) → Stacked
stacked parts taken = record { parts = parts; taken = taken }

-- whether it holds, and how many takes the run had before it
abbrev pub part : Truth → (start : ℕ) → PartTruth
part truth start = record { truth = truth; start = start }

-- only the first `count` takes of a run
abbrev pub first_takes : (count : ℕ) → (taken : List ℕ) → List ℕ
first_takes count taken = drop (length taken - count) taken

-- the cells after a test: a take adds to its cell
abbrev pub taken_by : PlanTest → (taken : List ℕ) → List ℕ
taken_by (Takes at of) taken = of ∷ taken
taken_by t taken = taken

-- the newest part is negated, if there is one
abbrev pub not_newest : List PartTruth → (taken : List ℕ) → Option Stacked
not_newest (p ∷ ps) taken = Some (stacked (part (negated p.truth) p.start ∷ ps) taken)
not_newest [] taken = None

-- the second part counts if the first has this truth
abbrev pub goes_on : (on first : Truth) → Bool
goes_on Holds Holds = true
goes_on Fails Fails = true
goes_on on first = false

-- if the second part doesn't count, its takes are undone
abbrev pub join_two : (on : Truth) → List PartTruth → (taken : List ℕ) → Option Stacked
join_two on (second ∷ first ∷ ps) taken =
    if goes_on on first.truth then Some (stacked (part second.truth first.start ∷ ps) taken)
    else Some (stacked (first ∷ ps) (first_takes second.start taken))
join_two on ps taken = None

-- the run after a `when`: it ends with its outcome, or continues
abbrev pub run_after : Truth → (outcome : ℕ) → (rest : PlanRun) → PlanRun
run_after Holds outcome rest = run.Gives outcome
run_after Fails outcome rest = rest
run_after (Needs at) outcome rest = run.Needs at
run_after Unclear outcome rest = run.Unclear

-- the steps of a condition leave one part
abbrev pub run_when : List PartTruth → (outcome : ℕ) → (rest : PlanRun) → PlanRun
run_when (p ∷ []) outcome rest = run_after p.truth outcome rest
run_when ps outcome rest = run.Unclear

-- the run after the steps of a condition, if they leave one part
abbrev pub run_after_steps : Option Stacked → (outcome : ℕ) → (rest : List ℕ → PlanRun) → PlanRun
run_after_steps (Some st) outcome rest = run_when st.parts outcome (rest st.taken)
run_after_steps None outcome rest = run.Unclear

module _ (ds : List Dimension) (partial : PartialPlace) where
  -- the stack after one step
  abbrev pub stepped : PlanStep → List PartTruth → (taken : List ℕ) → Option Stacked
  stepped (step.Test t) ps taken =
      Some (stacked (part (truth_of ds partial taken t) (length taken) ∷ ps) (taken_by t taken))
  stepped step.Not ps taken = not_newest ps taken
  stepped step.And ps taken = join_two Holds ps taken
  stepped step.Or ps taken = join_two Fails ps taken

  -- the stack after these steps
  abbrev pub after_steps : List PartTruth → (taken : List ℕ) → List PlanStep → Option Stacked
  after_steps ps taken [] = Some (stacked ps taken)
  after_steps ps taken (s ∷ ss) =
      option_and_then (λ st. after_steps st.parts st.taken ss) (stepped s ps taken)

  -- how a plan's run ends
  abbrev pub plan_run : (taken : List ℕ) → List PlanStatement → PlanRun
  plan_run taken [] = run.Gives 0
  plan_run taken (Count cell ∷ rest) = plan_run (cell ∷ taken) rest
  plan_run taken (When steps outcome ∷ rest) =
      run_after_steps (after_steps [] taken steps) outcome (λ more. plan_run more rest)
