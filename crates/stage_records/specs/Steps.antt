-- The steps of staging, as they are recorded: what a step did, and which files it replaced.
use Rattle.std.specs.Prelude.{ℕ, List, find, reverse, Option, Bool, not}
use Rattle.stage_records.specs.declared.step.StepAction.{StepAction}

-- a file that a step replaces: its name, its bytes before, if there was a file, and its bytes after
pub record ReplacedFile : Type 0 where
  pub name : List ℕ
  pub before : Option (List ℕ)
  pub after : List ℕ

-- a step, with its number from 1, its time in seconds since 1970, who took it, and why
pub record StagingStep : Type 0 where
  pub number : ℕ
  pub time : ℕ
  pub user : Option (List ℕ)
  pub because : Option (List ℕ)
  pub action : StepAction
  pub files : List ReplacedFile
  pub is_undone : Bool

-- the last step that isn't undone, which is the next to be undone
abbrev pub last_step : List StagingStep → Option StagingStep
last_step steps = find (λ step. not step.is_undone) (reverse steps)
