-- Events with their results lead to one world, and never change which ruleset a number refers to.
use Rattle.std.specs.Prelude.{◌≡◌, ℕ, List, Some}
use Rattle.ruleset.specs.Rules.{Rules}
use Rattle.world.specs.World.{WorldState, ruleset_at}
use Rattle.world.specs.Happens.{Answer, Plays}
use Rattle.world.specs.Safe.{IsSafeWorld}
use Rattle.world.specs.declared.event.Event.{Event}

-- from a safe world they lead to only one world
abbrev pub HasOneCourse : Type 0
HasOneCourse = (w u v : WorldState) (events : List Event) (answers : List Answer)
    → IsSafeWorld w → Plays w events answers u → Plays w events answers v → u ≡ v

-- a number refers to the same ruleset for good
abbrev pub RulesetsPreserved : Type 0
RulesetsPreserved = (w v : WorldState) (events : List Event) (answers : List Answer) (number : ℕ)
    (rules : Rules) → Plays w events answers v
    → ruleset_at w.rulesets number ≡ Some rules → ruleset_at v.rulesets number ≡ Some rules
