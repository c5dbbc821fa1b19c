-- How two apps are found to be the same. No promise uses this.
use Rattle.std.specs.Prelude.{◌≡◌, ℕ, List, Some}
use Rattle.load.specs.Kept.{whole_file}
use Rattle.rule_lang.specs.declared.rule.Statement.{Statement}
use Rattle.load.specs.declared.judged.JudgedApp.{JudgedApp}

pub record HasSameFile (old new : JudgedApp) : Type 0 where
  pub bytes : List ℕ
  pub old_is : whole_file old.sources.kept ≡ Some bytes
  pub new_is : whole_file new.sources.kept ≡ Some bytes

pub record HasSameRule (old new : JudgedApp) : Type 0 where
  pub rule : List Statement
  pub old_is : old.rule ≡ Some rule
  pub new_is : new.rule ≡ Some rule
  pub shape_is : old.program.shape ≡ new.program.shape
