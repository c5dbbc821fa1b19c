-- The cost of evaluating a rule, in units, and what is left of a budget.
use Rattle.std.specs.Prelude.{ℕ, ◌-◌, ◌*◌, List, length, nat_le, Option, Some, None}
use Rattle.std.specs.Prelude.{if◌then◌else◌}
use Rattle.std.specs.List.{sum_by}
use Rattle.rule_lang.specs.declared.rule.Statement.{Statement}
use Rattle.rule_lang.specs.declared.rule.Statement.TheVariants.{Count, When}

-- a `count` is one step, and a `when` has those of its condition
abbrev pub step_count : Statement → ℕ
step_count (Count name index) = 1
step_count (When steps release) = length steps

-- a rule costs one unit for each step of its statements, at each spot and for each release
abbrev pub budget_taken : (versions : ℕ) → List Statement → ℕ
budget_taken versions rule = versions * sum_by step_count rule

-- `None` if the budget is too small
abbrev pub budget_less : (taken budget : ℕ) → Option ℕ
budget_less taken budget = if nat_le taken budget then Some (budget - taken) else None
