use Rattle.std.proofs.Common.{All, length}
use Rattle.folder_facts.specs.Offered.{IsQuotaIn}
use Rattle.folder_facts.proofs.quotas.push_condition.Given as goal

-- the quotas are the arrays' if those before were
abbrev pub invariant-loop-left : goal.invariant-loop-left
invariant-loop-left l = All (IsQuotaIn l.arrays) l.fn.quotas.items
    → All (IsQuotaIn l.arrays) l.quotas.items

abbrev pub decreases-loop-left : goal.decreases-loop-left
decreases-loop-left l = length l.left
