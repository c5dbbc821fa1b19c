use Rattle.std.proofs.Common.{◌≡◌, ◌++◌, length, option_map}
use Rattle.serde_json.specs.View.{items_view}
use Rattle.stage_records.specs.Records as specs
use Rattle.stage_records.specs.Steps.{ReplacedFile}
use Rattle.std.proofs.Common.{List}
use Rattle.stage_records.proofs.record_reader.files_of.Given as goal

-- the files so far, and those of the values that are left
abbrev pub invariant-loop-left : goal.invariant-loop-left
invariant-loop-left l =
    option_map (λ (fs : List ReplacedFile). l.files.items ++ fs)
    (specs.files_of (items_view l.left))
    ≡ specs.files_of (items_view l.values)

abbrev pub decreases-loop-left : goal.decreases-loop-left
decreases-loop-left l = length l.left
