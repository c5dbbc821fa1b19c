-- The thresholds of a rule: its tests that the bucket, or the bucket under a salt, is below a
-- number.
use Rattle.std.specs.Prelude.{ℕ, List, [], map, flat_map, count_by, None}
use Rattle.std.specs.Prelude.{Bool, true, false}
use Rattle.rule_lang.specs.declared.condition.Step.{Step}
use Rattle.rule_lang.specs.declared.condition.Step.TheVariants as part
use Rattle.rule_lang.specs.declared.rule.Statement.{Statement}
use Rattle.rule_lang.specs.declared.rule.Statement.TheVariants.{Count, When}
use Rattle.rule_lang.specs.declared.test.Comparison.TheVariants.{Lt}
use Rattle.rule_lang.specs.declared.test.Test.{Test}
use Rattle.rule_lang.specs.declared.test.Test.TheVariants.{Bucket}

-- `bucket < N`, or `bucket(SALT) < N`
abbrev pub is_threshold : Test → Bool
is_threshold (Bucket salt None Lt number) = true
is_threshold test = false

-- a part of a condition is such a test
abbrev pub is_threshold_part : Step → Bool
is_threshold_part (part.Test line test) = is_threshold test
is_threshold_part operator = false

-- the parts of a statement's condition
abbrev pub parts_of : Statement → List Step
parts_of (Count array index) = []
parts_of (When parts release) = parts

-- how many thresholds a rule has
abbrev pub threshold_count : List Statement → ℕ
threshold_count rule = count_by is_threshold_part (flat_map parts_of rule)

-- ---- with another number

-- a test, with this number if it is a threshold
abbrev pub test_with : ℕ → Test → Test
test_with n (Bucket salt None Lt number) = Bucket salt None Lt n
test_with n test = test

-- the same of a part of a condition
abbrev pub part_with : ℕ → Step → Step
part_with n (part.Test line test) = part.Test line (test_with n test)
part_with n operator = operator

-- and of a statement
abbrev pub statement_with : ℕ → Statement → Statement
statement_with n (Count array index) = Count array index
statement_with n (When parts release) = When (map (part_with n) parts) release

-- the rule with this number in all its thresholds
abbrev pub rule_with : ℕ → List Statement → List Statement
rule_with n rule = map (statement_with n) rule
