use Rattle.std.proofs.Common.{◌≡◌}
use Rattle.std.specs.List.{list_any}
use Rattle.std.specs.Path.{components_remaining, path_components}
use Rattle.why_refused_manifest.specs.Inside.{leads_out}
use Rattle.why_refused_manifest.proofs.inside.is_inside.Given as goal

-- no part so far leads out
abbrev pub invariant-loop-part : goal.invariant-loop-part
invariant-loop-part l =
    list_any leads_out (path_components l.name)
    ≡ list_any leads_out (components_remaining l.part-iterator)
