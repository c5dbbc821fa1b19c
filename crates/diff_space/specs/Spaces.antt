-- The space of two rules of an app: dimensions, groups, and a plan of each rule.
use Rattle.std.specs.Prelude.{List, All}
use Rattle.diff_space.specs.declared.plan.PlanStatement.{PlanStatement}
use Rattle.diff_space.specs.Coordinates.{Dimension}
use Rattle.diff_space.specs.Groups.{Group, IsGroup}
use Rattle.diff_space.specs.Lines.{IsLine}
use Rattle.diff_space.specs.Machines.{Side}
use Rattle.diff_space.specs.Plans.{IsPlanOf}
use Rattle.diff_space.specs.Scopes.{IsWithin, Scope}

pub record Space : Type 0 where
  pub dimensions : List Dimension
  pub groups : List Group
  pub old : List PlanStatement
  pub new : List PlanStatement

-- the plans decide as the rules do, each dimension is a line, and each group has the tuple of each
-- machine
pub record IsSpaceOf (x : Scope) (old new : Side) (space : Space) : Type 0 where
  pub old_plan : IsPlanOf (IsWithin x) space.dimensions old.shape old.contents old.statements
      space.old
  pub new_plan : IsPlanOf (IsWithin x) space.dimensions new.shape new.contents new.statements
      space.new
  pub lines : All (IsLine x) space.dimensions
  pub groups : All (IsGroup (IsWithin x) space.dimensions) space.groups
