-- Two runs of the world, one after the other, are one, and each run can be cut in two, so batches
-- of events compose.
use Rattle.std.specs.Prelude.{List, ◌++◌, length, take, drop}
use Rattle.world.specs.World.{WorldState}
use Rattle.world.specs.Happens.{Answer, Plays}
use Rattle.world.specs.declared.event.Event.{Event}

-- two batches, one after the other
pub record ArePlayedInTurn (w : WorldState) (es fs : List Event) (rs qs : List Answer)
    (v : WorldState) : Type 0 where
  pub between : WorldState
  pub first : Plays w es rs between
  pub second : Plays between fs qs v

-- two runs of the world, one after the other, are one
abbrev pub BatchesJoin : Type 0
BatchesJoin = (w v : WorldState) (es fs : List Event) (rs qs : List Answer)
    → ArePlayedInTurn w es fs rs qs v → Plays w (es ++ fs) (rs ++ qs) v

-- a run of the world can be cut after each event
abbrev pub BatchesPart : Type 0
BatchesPart = (w v : WorldState) (es fs : List Event) (rs : List Answer)
    → Plays w (es ++ fs) rs v
    → ArePlayedInTurn w es fs (take (length es) rs) (drop (length es) rs) v
