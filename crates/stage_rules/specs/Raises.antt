-- A raise: the text of a rule with another number in its one threshold.
use Rattle.std.specs.Prelude.{◌≡◌, ℕ, ◌<◌, ◌≤◌, List, ◌++◌, length, decimal, true, Ok, Err}
use Rattle.std.specs.Str.{all_ascii_digits}
use Rattle.std.specs.Str.Parse.{digits_value}
use Rattle.cells.specs.Arrays.{AppShape}
use Rattle.rule_lang.specs.Verdicts.{IsVerdict}
use Rattle.rule_lang.specs.declared.rule.Statement.{Statement}
use Rattle.stage_rules.specs.Thresholds.{rule_with, threshold_count}
use Rattle.stage_rules.specs.declared.raise_fault.RaiseFault.{RaiseFault}
use Rattle.stage_rules.specs.declared.raise_fault.RaiseFault.TheVariants as fault

-- a text is cut around some of its digits
pub record IsCut (text before digits after : List ℕ) : Type 0 where
  pub some : 0 < length digits
  pub are_digits : all_ascii_digits digits ≡ true
  pub whole : text ≡ before ++ digits ++ after

-- the rule's thresholds all have this number
abbrev pub HasNumber : List Statement → ℕ → Type 0
HasNumber rule number = rule_with number rule ≡ rule

-- the old text is a rule with one threshold; the new text has other digits in one place, which was
-- the threshold's number, and is that rule with this number in its threshold
pub record IsRaised (shape : AppShape) (old new : List ℕ) (buckets : ℕ) : Type 0 where
  pub few : buckets ≤ 10000
  pub rule : List Statement
  pub was : IsVerdict shape old (Ok rule)
  pub one : threshold_count rule ≡ 1
  pub raised : IsVerdict shape new (Ok (rule_with buckets rule))
  pub before : List ℕ
  pub digits : List ℕ
  pub after : List ℕ
  pub cut : IsCut old before digits after
  pub number : HasNumber rule (digits_value 10 digits)
  pub new_is : new ≡ before ++ decimal buckets ++ after

-- the text is a rule with this number of thresholds
pub record HasThresholds (shape : AppShape) (text : List ℕ) (count : ℕ) : Type 0 where
  pub rule : List Statement
  pub is : IsVerdict shape text (Ok rule)
  pub count_is : threshold_count rule ≡ count

-- why a text isn't raised; about a failed allocation nothing is claimed
abbrev pub IsRaiseFault : AppShape → List ℕ → ℕ → RaiseFault → Type 0
IsRaiseFault shape text buckets fault.OutOfRange = 10000 < buckets
IsRaiseFault shape text buckets (fault.NoRule refused) = IsVerdict shape text (Err refused)
IsRaiseFault shape text buckets fault.NoThreshold = HasThresholds shape text 0
IsRaiseFault shape text buckets fault.SeveralThresholds =
    (count : ℕ) × (1 < count) × HasThresholds shape text count
IsRaiseFault shape text buckets fault.NoDigits = HasThresholds shape text 1
IsRaiseFault shape text buckets fault.Memory = Unit {0}
