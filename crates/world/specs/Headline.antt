-- What is promised of a server's world: for one event, and for a list of events.
use Rattle.std.specs.Prelude.{ℕ, List, take}
use Rattle.world.specs.World.{WorldState}
use Rattle.world.specs.Happens.{Answer, Happens, Plays}
use Rattle.world.specs.Safe.{IsSafeWorld, IsOfItsRun}
use Rattle.world.specs.Represents.{Parts, WorldRepresents}
use Rattle.world.specs.declared.event.Event.{Event}

-- from every world that the parts represented, the event with its result leads to one that they
-- represent
abbrev pub IsApplied : Parts → Event → Answer → Parts → Type 0
IsApplied before event answer after = (w : WorldState) → WorldRepresents before w
    → (v : WorldState) × Happens w event answer v × WorldRepresents after v

-- the same for a list of events with their results: they are a run of the world
abbrev pub ArePlayed : Parts → List Event → List Answer → Parts → Type 0
ArePlayed before events answers after = (w : WorldState) → WorldRepresents before w
    → (v : WorldState) × Plays w events answers v × WorldRepresents after v

-- a world on the way: the first events lead to it, with some results, from a world that the parts
-- represent
pub record IsOnTheWay (parts : Parts) (events : List Event) (u : WorldState) : Type 0 where
  pub opening : WorldState
  pub represents : WorldRepresents parts opening
  pub count : ℕ
  pub answers : List Answer
  pub plays : Plays opening (take count events) answers u

-- in no world on the way does a run trap, take more instructions than its program has slots, or
-- choose anything but none or a release of its app in its own ruleset
abbrev pub AllWorldsAreSafe : Parts → List Event → Type 0
AllWorldsAreSafe parts events = (u : WorldState) → IsOnTheWay parts events u → IsSafeWorld u

-- a Finish on the way returns the result of its worker's own run: the number of a ruleset, and 0 or
-- the number of a release of the app with the run's appid there
abbrev pub EachFinishIsOfItsRun : Parts → List Event → Type 0
EachFinishIsOfItsRun parts events = (u v : WorldState) (event : Event) (answer : Answer)
    → IsOnTheWay parts events u → Happens u event answer v → IsOfItsRun u event answer
