-- When two manifests are the same, and the texts of refusals.
use Rattle.std.specs.Prelude.{ℕ, List, ◌++◌, codes, Bool, true, false, ◌&&◌, length, ◌==◌}
use Rattle.std.specs.List.{list_all}
use Rattle.std.specs.Str.{bytes_eq}
use Rattle.bounded_files.specs.Texts.{resource_text}
use Rattle.load.specs.Texts.{path_fault_text}
use Rattle.diff_manifests.specs.Arrays.{ArrayChange}
use Rattle.diff_manifests.specs.declared.diff_fault.DiffFault.{DiffFault}
use Rattle.diff_manifests.specs.declared.diff_fault.DiffFault.TheVariants as fault
use Rattle.diff_manifests.specs.declared.outcome.AppChange.{AppChange}
use Rattle.diff_manifests.specs.declared.outcome.AppChange.TheVariants.{Kept}
use Rattle.diff_manifests.specs.declared.outcome.AppOutcome.{AppOutcome}
use Rattle.diff_manifests.specs.declared.outcome.AppOutcome.TheVariants.{Same, Rows, NotCompared}
use Rattle.diff_manifests.specs.declared.app_diff.AppDiff.{AppDiff}

-- ---- refusals; B7: neither manifest has a cell; B8: neither has the app

abbrev pub diff_fault_text : DiffFault → List ℕ
diff_fault_text (fault.Resource why) = resource_text why
diff_fault_text (fault.Old why) = path_fault_text why ++ codes " in OLD"
diff_fault_text (fault.New why) = path_fault_text why ++ codes " in NEW"
diff_fault_text fault.Cell = codes "B7 Cell"
diff_fault_text fault.NoApp = codes "B8 App"

-- ---- what is the same

abbrev pub is_compared : AppOutcome → Bool
is_compared (NotCompared why) = false
is_compared outcome = true

-- every machine gets the same
abbrev pub is_unchanged : AppOutcome → Bool
is_unchanged Same = true
is_unchanged (Rows shown) = length shown.rows.items == 0
is_unchanged (NotCompared why) = false

abbrev pub is_silent_by : AppChange → AppOutcome → Bool
is_silent_by Kept outcome = is_unchanged outcome
is_silent_by change outcome = false

-- nothing is printed for the app
abbrev pub is_silent : AppDiff → Bool
is_silent d = is_silent_by d.change d.outcome

-- nothing is different; `old` and `new` are the servers' names
abbrev pub is_same : (old new : List ℕ) → List ArrayChange → List AppDiff → Bool
is_same old new changes diffs =
    bytes_eq old new && (length changes == 0) && list_all is_silent diffs
