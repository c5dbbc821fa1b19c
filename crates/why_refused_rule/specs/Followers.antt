-- What may follow the beginning of a rule, according to the language itself: each sample of a word
-- is tried on its own line after the beginning, and may follow if the verdict doesn't call it
-- misplaced.
use Rattle.std.specs.Prelude.{◌≡◌, ℕ, ◌+◌, List, [], ◌∷◌, ◌++◌, codes, Err, ◌==◌}
use Rattle.std.specs.Prelude.{Bool, true, false, not, nat_le, if◌then◌else◌}
use Rattle.cells.specs.Arrays.{AppShape}
use Rattle.why_refused_rule.specs.declared.follower.Sample.{Sample}
use Rattle.rule_lang.specs.declared.rule_fault.RuleFault.TheVariants.{At}
use Rattle.rule_lang.specs.declared.rule_fault.RuleFaultKind.TheVariants.{Shape}
use Rattle.rule_lang.specs.declared.rule.Statement.{Statement}
use Rattle.rule_lang.specs.Parts.{OrFault}
use Rattle.rule_lang.specs.Tokens.{Text}
use Rattle.rule_lang.specs.Verdicts.{IsVerdict}

abbrev pub line_feeds : Text → ℕ
line_feeds [] = 0
line_feeds (c ∷ rest) = if c == 10 then 1 + line_feeds rest else line_feeds rest

-- the line of a place, from 1, given by the bytes before it
abbrev pub line_at : Text → ℕ
line_at before = 1 + line_feeds before

-- the beginning, then a line with the sample, and an empty one
abbrev pub trial : Text → (sample : Text) → Text
trial before sample = before ++ codes "\n" ++ sample ++ codes "\n"

-- the sample's line in the trial; the text's end, which has no sample, is in the last line
abbrev pub trial_line : Text → (sample : Text) → ℕ
trial_line before [] = line_at before + 2
trial_line before (c ∷ cs) = line_at before + 1

-- a token is misplaced in a line up to `most`
abbrev pub stops_by : ℕ → OrFault (List Statement) → Bool
stops_by most (Err (At line Shape)) = nat_le line most
stops_by most v = false

pub record IsTried (s : AppShape) (before : Text) (sample : Sample) (may : Bool) : Type 0 where
  pub verdict : OrFault (List Statement)
  pub is : IsVerdict s (trial before sample.0.now) verdict
  pub may_is : may ≡ not (stops_by (trial_line before sample.0.now) verdict)

-- the sample, if it may follow
abbrev pub sample_if : Bool → Sample → List Sample
sample_if true sample = sample ∷ []
sample_if false sample = []

pub record AddsSample (s : AppShape) (before : Text) (sample : Sample) (old new : List Sample)
    : Type 0 where
  pub may : Bool
  pub tried : IsTried s before sample may
  pub added : new ≡ old ++ sample_if may sample

-- adds those samples of a list that may follow the beginning
pub data AddsSamples (s : AppShape) (before : Text)
    : List Sample → (old new : List Sample) → Type 0 where
  none : {old : List Sample} → AddsSamples s before [] old old
  next : {sample : Sample} {samples old between new : List Sample}
      → AddsSample s before sample old between → AddsSamples s before samples between new
      → AddsSamples s before (sample ∷ samples) old new
