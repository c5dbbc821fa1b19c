use Rattle.std.proofs.Common.{◌≡◌, length}
use Rattle.std.specs.List.{list_any}
use Rattle.std.specs.Str.{bytes_eq}
use Rattle.stage_records.specs.Steps.{ReplacedFile}
use Rattle.stage_folder.proofs.distinct_names.has_name.Given as goal

-- what is left decides
abbrev pub invariant-loop-left : goal.invariant-loop-left
invariant-loop-left l =
    list_any (λ (file : ReplacedFile). bytes_eq file.name l.name) l.left
    ≡ list_any (λ (file : ReplacedFile). bytes_eq file.name l.name) l.files

abbrev pub decreases-loop-left : goal.decreases-loop-left
decreases-loop-left l = length l.left
