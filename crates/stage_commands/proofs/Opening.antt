-- Judged manifests may be compared.
use Rattle.load.specs.declared.judged.JudgedManifest.{JudgedManifest}
use Rattle.diff_manifests.specs.Opened.{AreKept}
use Rattle.diff_manifests.specs.declared.opened.OpenedBoth.{OpenedBoth}
use Rattle.stage_commands.specs.Compared.{AreAllJudged}

pub both_kept : (both : OpenedBoth) → AreAllJudged both.old → AreAllJudged both.new → AreKept both
both_kept both old new = record { old_apps = old; new_apps = new }

pub old_replaced : (both : OpenedBoth) (old : JudgedManifest) → AreKept both → AreAllJudged old
    → AreKept (record { old = old; new = both.new })
old_replaced both old kept judged = record { old_apps = judged; new_apps = kept.new_apps }
