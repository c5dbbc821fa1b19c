-- The fault of a text is the fault of the rule parser.
use Rattle.std.proofs.Common.{inl, inr, ℕ, List, IsUtf8}
use Rattle.cells.specs.Arrays.{AppShape}
use Rattle.rule_lang.specs.declared.rule_fault.RuleFault.{RuleFault}
use Rattle.rule_lang.specs.declared.rule_fault.RuleFault.TheVariants as rule
use Rattle.rule_lang.specs.Verdicts.{IsRuleFault}
use Rattle.acceptance.specs.Rule.{RefusesRule, no_rule}
use Rattle.acceptance.specs.declared.program_fault.RuleTextFault.TheVariants.{Text}

pub text_fault : (shape : AppShape) (bytes : List ℕ) (fault : RuleFault) → IsUtf8 bytes
    → IsRuleFault shape bytes fault → RefusesRule bytes shape (Text fault)
text_fault shape bytes (rule.At line kind) utf8 (inl memory) = absurd cc
text_fault shape bytes (rule.At line kind) utf8 (inr verdict) = no_rule utf8 verdict
text_fault shape bytes rule.Memory utf8 fault = utf8
