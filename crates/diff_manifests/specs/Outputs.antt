-- What `diff` prints of two manifests, and why it prints nothing.
use Rattle.std.specs.Prelude.{◌≡◌, ℕ, List, Option, Some, None, option_copied}
use Rattle.std.specs.Prelude.{Bool, true, false, not}
use Rattle.std.specs.String.{string_bytes}
use Rattle.bounded_files.specs.declared.resource_fault.ResourceFault.TheVariants as resource
use Rattle.diff_space.specs.declared.bounds.CellBound.{CellBound}
use Rattle.json_value.specs.Bytes.{json_line}
use Rattle.cell_assignments.specs.Assignments.{Assignment}
use Rattle.diff_manifests.specs.Arrays.{ArrayChange, array_changes}
use Rattle.diff_manifests.specs.Counters.{are_declared, arrays_in, used_in}
use Rattle.diff_manifests.specs.Objects.{diff_object}
use Rattle.diff_manifests.specs.Reports.{AreAppDiffs, have_app, is_lossy}
use Rattle.diff_manifests.specs.Texts.{is_same}
use Rattle.diff_manifests.specs.declared.diff_fault.DiffFault.{DiffFault}
use Rattle.diff_manifests.specs.declared.diff_fault.DiffFault.TheVariants as fault
use Rattle.diff_manifests.specs.declared.opened.OpenedBoth.{OpenedBoth}
use Rattle.diff_manifests.specs.declared.output.DiffOptions.{DiffOptions}
use Rattle.diff_manifests.specs.declared.output.DiffOutput.{DiffOutput}
use Rattle.diff_manifests.specs.declared.app_diff.AppDiff.{AppDiff}

-- neither manifest has the app `only`
abbrev pub lacks_app : OpenedBoth → (only : Option (List ℕ)) → Bool
lacks_app both None = false
lacks_app both (Some appid) = not (have_app both appid)

abbrev pub changes_in : OpenedBoth → List ArrayChange
changes_in both = array_changes both.old.arrays.items both.new.arrays.items

-- a comparison as JSON, with the servers' names
abbrev pub json_of : (old new : List ℕ) → List ArrayChange → List AppDiff → (loses : Bool) → List ℕ
json_of old new changes diffs loses =
    json_line (diff_object old new changes diffs loses (is_same old new changes diffs))

-- as JSON, or as lines: no clause says how these look; rows compare them
abbrev pub IsTextOf : (json : Bool) → (old new : List ℕ) → List ArrayChange → List AppDiff
    → (loses : Bool) → List ℕ → Type 0
IsTextOf true old new changes diffs loses text = text ≡ json_of old new changes diffs loses
IsTextOf false old new changes diffs loses text = Unit {0}

-- a comparison of the apps, as a text; and whether it loses anything
pub record IsOutputOf (both : OpenedBoth) (used : List CellBound) (options : DiffOptions)
    (output : DiffOutput) : Type 0 where
  pub diffs : List AppDiff
  pub are_diffs : AreAppDiffs both options.from_day used (option_copied options.only) diffs
  pub text_is : IsTextOf options.json both.old.server both.new.server (changes_in both) diffs
      output.loses (string_bytes output.text)
  pub loses_is : output.loses ≡ is_lossy both diffs

-- with the cells of a server and the given ones
abbrev pub IsDiffOutput : OpenedBoth → (served given : List Assignment) → DiffOptions → DiffOutput
    → Type 0
IsDiffOutput both served given options output =
    IsOutputOf both (used_in both served given) options output

-- neither manifest has the app, or neither has a given cell; nothing is claimed for out of memory
abbrev pub IsDiffFault : OpenedBoth → (given : List Assignment) → DiffOptions → DiffFault → Type 0
IsDiffFault both given options fault.NoApp =
    lacks_app both (option_copied options.only) ≡ true
IsDiffFault both given options fault.Cell =
    (lacks_app both (option_copied options.only) ≡ false)
    × (are_declared (arrays_in both) given ≡ false)
IsDiffFault both given options (fault.Resource resource.Memory) = Unit {0}
IsDiffFault both given options why = ⊥
