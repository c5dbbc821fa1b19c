-- What the bytes of an app's file are.
use Rattle.std.specs.Prelude.{ℕ, List, Ok}
use Rattle.cells.specs.Arrays.{AppShape}
use Rattle.rule_lang.specs.Verdicts.{IsVerdict}
use Rattle.stage_text.specs.declared.rule_offers.RuleText.{RuleText}
use Rattle.stage_text.specs.declared.rule_offers.RuleText.TheVariants as file

-- a rule is the one that the bytes spell, for an app of this shape
abbrev pub IsRuleOf : AppShape → (bytes : List ℕ) → RuleText → Type 0
IsRuleOf shape bytes (file.Rule rule) = IsVerdict shape bytes (Ok rule)
IsRuleOf shape bytes (file.Other sentence) = Unit {0}
