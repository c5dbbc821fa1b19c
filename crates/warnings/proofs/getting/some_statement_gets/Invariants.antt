use Rattle.std.proofs.Common.{◌≡◌, length}
use Rattle.std.specs.List.{list_any}
use Rattle.warnings.specs.Evaluation.{rule_of}
use Rattle.warnings.specs.Getting.{statement_gets}
use Rattle.warnings.proofs.getting.some_statement_gets.Given as goal

-- the remaining statements decide
abbrev pub invariant-loop-left : goal.invariant-loop-left
invariant-loop-left l =
    list_any (statement_gets (rule_of l.evaluated) l.by l.version) l.left
    ≡ list_any (statement_gets (rule_of l.evaluated) l.by l.version) (rule_of l.evaluated).rule

abbrev pub decreases-loop-left : goal.decreases-loop-left
decreases-loop-left l = length l.left
