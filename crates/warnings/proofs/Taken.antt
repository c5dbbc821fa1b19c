-- The budget, spent statement by statement.
use Rattle.std.proofs.Common.{◌≡◌, ℕ, ◌+◌, ◌*◌, ◌-◌, ◌<◌, List, ◌∷◌, Option, Some, ◌∙◌}
use Rattle.std.proofs.Common.{length, take, drop, get_or, sym, ap, arith}
use Rattle.std.specs.Prelude.{option_and_then}
use Rattle.std.proofs.lemmas.List.Sums.{sum_by-cons}
use Rattle.rule_lang.specs.declared.rule.Statement.{Statement}
use Rattle.warnings.specs.Budget.{budget_less, budget_taken, step_count}
use Rattle.warnings.proofs.Reported.{first_rest}

in_parts : (a b budget : ℕ)
    → budget_less (a + b) budget ≡ option_and_then (budget_less b) (budget_less a budget)
in_parts a b budget = grind arith

taken_next : (versions : ℕ) (st : Statement) (rest : List Statement)
    → budget_taken versions (st ∷ rest) ≡ versions * step_count st + budget_taken versions rest
taken_next versions st rest = grind (arith, sum_by-cons step_count st rest)

-- what is left after the first of the remaining statements
module _ (versions budget : ℕ) (left : List Statement) (st : Statement) (behind : Option ℕ)
    (some : 0 < length left) (is : st ≡ get_or left 0 st)
    (one : behind ≡ budget_less (versions * step_count st) budget) where
  abbrev others : List Statement
  others = take (length left - 1) (drop 1 left)

  all_behind : budget_less (budget_taken versions left) budget
      ≡ option_and_then (budget_less (budget_taken versions others)) behind
  all_behind =
      ap (λ sts. budget_less (budget_taken versions sts) budget) (first_rest left st some is)
      ∙ ap (λ n. budget_less n budget) (taken_next versions st others)
      ∙ in_parts (versions * step_count st) (budget_taken versions others) budget
      ∙ ap (option_and_then (budget_less (budget_taken versions others))) (sym one)

  pub budget_next : (budget_left : ℕ) (first : Option ℕ) → behind ≡ Some budget_left
      → budget_less (budget_taken versions left) budget ≡ first
      → budget_less (budget_taken versions others) budget_left ≡ first
  budget_next budget_left first went before =
      sym (all_behind ∙ ap (option_and_then (budget_less (budget_taken versions others))) went)
      ∙ before
