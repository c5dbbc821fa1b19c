use Rattle.std.proofs.Common.{◌≡◌, length, map, string_bytes}
use Rattle.stage_rules.specs.InForce as specs
use Rattle.stage_rules.proofs.named_apps.is_named.Given as goal

-- what is left decides
abbrev pub invariant-loop-left : goal.invariant-loop-left
invariant-loop-left l =
    specs.is_named (map string_bytes l.left) l.appid
    ≡ specs.is_named (map string_bytes l.appids) l.appid

abbrev pub decreases-loop-left : goal.decreases-loop-left
decreases-loop-left l = length l.left
