-- A rule that has more than one threshold.
use Rattle.std.proofs.Common.{◌≡◌, ℕ, ◌<◌, List, Ok, arith, ap, min, refl, ◌∙◌}
use Rattle.cells.specs.Arrays.{AppShape}
use Rattle.rule_lang.specs.Verdicts.{IsVerdict}
use Rattle.rule_lang.specs.declared.rule.Statement.{Statement}
use Rattle.stage_rules.specs.Raises.{HasThresholds}
use Rattle.stage_rules.specs.Thresholds.{threshold_count}

more_than_one : (count n : ℕ) → count ≡ min n 2 → 1 < count → 1 < n
more_than_one count n is more = grind arith

pub several : (shape : AppShape) (text : List ℕ) (rule same : List Statement) (count : ℕ)
    → IsVerdict shape text (Ok rule) → same ≡ rule → count ≡ min (threshold_count same) 2
    → 1 < count → (n : ℕ) × (1 < n) × HasThresholds shape text n
several shape text rule same count was is counted more = (
  threshold_count rule,
  more_than_one count (threshold_count rule)
      (counted ∙ ap (λ (r : List Statement). min (threshold_count r) 2) is) more,
  record { rule = rule; is = was; count_is = refl },
)
