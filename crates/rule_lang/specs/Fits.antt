-- Whether a rule fits a shape: each array exists by its name, with a quota only for `take`, each
-- index is below its array's length, and the shape has each release.
use Rattle.std.specs.Prelude.{ℕ, Bool, true, false, ◌&&◌, not, nat_le, nat_lt}
use Rattle.std.specs.Prelude.{List, Option, Some, None, is_some}
use Rattle.std.specs.List.{list_all}
use Rattle.cells.specs.Arrays.{AppShape}
use Rattle.cells.specs.declared.array.CellArray.{CellArray}
use Rattle.rule_lang.specs.declared.condition.Step.{Step}
use Rattle.rule_lang.specs.declared.condition.Step.TheVariants as step
use Rattle.rule_lang.specs.declared.rule.Statement.{Statement}
use Rattle.rule_lang.specs.declared.rule.Statement.TheVariants.{Count, When}
use Rattle.rule_lang.specs.declared.test.Test as the_test
use Rattle.rule_lang.specs.declared.test.Test.TheVariants as test
use Rattle.rule_lang.specs.Shapes.{array_named}

-- the array exists, has a quota, and has the cell
abbrev pub can_take : Option CellArray → (index : ℕ) → Bool
can_take (Some a) index = is_some a.quota && nat_lt index a.length
can_take None index = false

-- the array exists, has no quota, and has the cell
abbrev pub can_count : Option CellArray → (index : ℕ) → Bool
can_count (Some a) index = not (is_some a.quota) && nat_lt index a.length
can_count None index = false

abbrev pub is_release : AppShape → ℕ → Bool
is_release s k = nat_le 1 k && nat_le k s.releases

abbrev pub test_fits : AppShape → the_test.Test → Bool
test_fits s (test.Take name index) = can_take (array_named name s.arrays) index
test_fits s t = true

abbrev pub step_fits : AppShape → Step → Bool
step_fits s (step.Test line t) = test_fits s t
step_fits s other = true

abbrev pub statement_fits : AppShape → Statement → Bool
statement_fits s (Count name index) = can_count (array_named name s.arrays) index
statement_fits s (When steps release) = list_all (step_fits s) steps && is_release s release

-- the shape has each array, index and release that a rule names
abbrev pub fits : AppShape → List Statement → Bool
fits s rule = list_all (statement_fits s) rule
