-- What a stop says, and when it is a refusal.
use Rattle.std.specs.Prelude.{◌≡◌, Bool, true}
use Rattle.stage_servers.specs.declared.outcome.Stop.{Stop}
use Rattle.stage_servers.specs.declared.outcome.Stop.TheVariants as stop

-- it doesn't say that something may have changed
abbrev pub MayBeUnchanged : Stop → Type 0
MayBeUnchanged (stop.Failed reason) = ⊥
MayBeUnchanged other = Unit {0}

-- if it is a refusal, then this is so
abbrev pub IsRefusedOnlyIf : (so : Bool) → Stop → Type 0
IsRefusedOnlyIf so (stop.Refused reason) = so ≡ true
IsRefusedOnlyIf so other = Unit {0}
