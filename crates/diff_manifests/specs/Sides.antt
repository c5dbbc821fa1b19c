-- Sides of a comparison by rows.
use Rattle.std.specs.Prelude.{◌≡◌, ℕ, List, Option, Some, true}
use Rattle.cells.specs.Arrays.{AppShape, IsShape}
use Rattle.load.specs.declared.judged.JudgedApp.{JudgedApp}
use Rattle.releases.specs.Release.{Release}
use Rattle.rule_lang.specs.Fits.{fits}
use Rattle.rule_lang.specs.declared.rule.Statement.{Statement}
use Rattle.diff_space.specs.Machines.{Side}
use Rattle.diff_manifests.specs.Apps.{side_in}

-- the side's rule fits its shape
pub record IsRuleSide (side : Side) : Type 0 where
  pub shape : IsShape side.shape
  pub fits : fits side.shape side.statements ≡ true

-- the side of a rule for this shape
pub record IsSideWith (shape : AppShape) (rule : List Statement) (contents : List ℕ) (side : Side)
    : Type 0 where
  pub side_is : side ≡ record { shape = shape; statements = rule; contents = contents }
  pub of_rule : IsRuleSide side

-- the side of an app, or of a manifest that lacks it
pub record IsSideBy (releases : List Release) (app : Option JudgedApp) (side : Side)
    : Type 0 where
  pub side_is : side_in releases app ≡ Some side
  pub of_rule : IsRuleSide side
