-- The cost of a rule, which bounds the slots of its program: 8, plus 8 for each statement, plus 48
-- for each test. `otherwise none` isn't counted.
use Rattle.std.specs.Prelude.{ℕ, ◌+◌, ◌*◌, List, [], ◌∷◌, length}
use Rattle.rule_lang.specs.declared.condition.Step.{Step}
use Rattle.rule_lang.specs.declared.condition.Step.TheVariants.{Test}
use Rattle.rule_lang.specs.declared.rule.Statement.{Statement}
use Rattle.rule_lang.specs.declared.rule.Statement.TheVariants.{Count, When}

abbrev pub tests_in : List Step → ℕ
tests_in [] = 0
tests_in (Test line t ∷ rest) = 1 + tests_in rest
tests_in (s ∷ rest) = tests_in rest

abbrev pub tests_of : List Statement → ℕ
tests_of [] = 0
tests_of (Count name index ∷ rest) = tests_of rest
tests_of (When steps release ∷ rest) = tests_in steps + tests_of rest

-- 8, plus 8 for each statement, plus 48 for each test
abbrev pub cost : List Statement → ℕ
cost rule = 8 + 8 * length rule + 48 * tests_of rule
