use Rattle.std.proofs.Common.{◌≡◌, ◌++◌, length, string_bytes}
use Rattle.rule_lang.specs.Meaning.{behaviour}
use Rattle.why_choice.specs.Ending.{ending_on}
use Rattle.why_choice.specs.RuleLines.{rule_text}
use Rattle.why_choice.proofs.rule_report.explain_statements.Given as goal

-- the text of the remaining statements completes the text, and on the current counters they give
-- the rule's result
abbrev pub invariant-loop-left : goal.invariant-loop-left
invariant-loop-left l =
    (string_bytes l.text ++ rule_text l.attrs l.shape l.counters l.left
    ≡ string_bytes l.initial.text ++ rule_text l.attrs l.shape l.initial.counters l.statements)
    × (ending_on l.counters (behaviour l.attrs l.shape l.left)
    ≡ ending_on l.initial.counters (behaviour l.attrs l.shape l.statements))

abbrev pub decreases-loop-left : goal.decreases-loop-left
decreases-loop-left l = length l.left
