use Rattle.std.proofs.Common.{◌≡◌, length, map}
use Rattle.std.specs.List.{list_any}
use Rattle.stage_folder.specs.Names.{leads_out}
use Rattle.stage_folder.proofs.device_path.some_leads_out.Given as goal

-- what is left decides
abbrev pub invariant-loop-left : goal.invariant-loop-left
invariant-loop-left l =
    list_any leads_out (map (λ part. part.now) l.left)
    ≡ list_any leads_out (map (λ part. part.now) l.parts)

abbrev pub decreases-loop-left : goal.decreases-loop-left
decreases-loop-left l = length l.left
