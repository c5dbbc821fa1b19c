-- The numbers of a rule are in the ranges of its types.
use Rattle.std.specs.Prelude.{ℕ, ◌^◌, ◌<◌, List, [], ◌∷◌, Option, slice_index, IfSome}
use Rattle.rule_lang.specs.Literals.{IsLiteral}
use Rattle.rule_lang.specs.Trees.{IsCondition}
use Rattle.rule_lang.specs.declared.condition.Step.{Step}
use Rattle.rule_lang.specs.declared.condition.Step.TheVariants as step
use Rattle.rule_lang.specs.declared.rule.Statement.{Statement}
use Rattle.rule_lang.specs.declared.rule.Statement.TheVariants.{Count, When}
use Rattle.rule_lang.specs.declared.test.Test as the_test
use Rattle.rule_lang.specs.declared.test.Test.TheVariants as test

abbrev pub IsBucketInRange : (salt modulus : Option ℕ) → ℕ → Type 0
IsBucketInRange salt modulus n =
    IfSome salt (λ s. s < 2 ^ 64) × IfSome modulus (λ m. m < 2 ^ 32) × (n < 2 ^ 32)

abbrev pub IsInRange : the_test.Test → Type 0
IsInRange (test.Version r w) = (k : ℕ) → slice_index w k < 2 ^ 32
IsInRange (test.Bucket salt modulus r n) = IsBucketInRange salt modulus n
IsInRange (test.Today r n) = n < 2 ^ 32
IsInRange (test.Installed r n) = n < 2 ^ 32
IsInRange (test.Flag f) = Unit {0}
IsInRange (test.Attr n text) = IsLiteral text
IsInRange (test.Take name index) = Unit {0}

abbrev pub IsStepInRange : Step → Type 0
IsStepInRange (step.Test line t) = IsInRange t
IsStepInRange s = Unit {0}

abbrev pub AreInRange : List Step → Type 0
AreInRange [] = Unit {0}
AreInRange (s ∷ ss) = IsStepInRange s × AreInRange ss

abbrev pub IsStatementInRange : Statement → Type 0
IsStatementInRange (Count name index) = Unit {0}
IsStatementInRange (When steps release) = AreInRange steps

abbrev pub IsRuleInRange : List Statement → Type 0
IsRuleInRange [] = Unit {0}
IsRuleInRange (x ∷ xs) = IsStatementInRange x × IsRuleInRange xs

-- ---- the steps of each condition form one tree

abbrev pub IsMade : Statement → Type 0
IsMade (Count name index) = Unit {0}
IsMade (When steps release) = IsCondition steps

abbrev pub AreMade : List Statement → Type 0
AreMade [] = Unit {0}
AreMade (x ∷ xs) = IsMade x × AreMade xs
