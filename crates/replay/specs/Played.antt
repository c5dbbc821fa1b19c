-- The lines of a script, played in order: all their events are one run of the world.
use Rattle.std.specs.Prelude.{◌≡◌, List, [], ◌∷◌, ◌++◌, length, replicate, Bool, true, false, Some}
use Rattle.std.specs.List.{flat_map}
use Rattle.world.specs.Happens.{Answer, Plays}
use Rattle.world.specs.Headline.{ArePlayed}
use Rattle.world.specs.Represents.{Parts, WorldRepresents}
use Rattle.world.specs.World.{WorldState}
use Rattle.world.specs.declared.event.Event.{Event}
use Rattle.world.specs.declared.event.Event.TheVariants as event
use Rattle.replay.specs.Replies.{reply_to}
use Rattle.event_script.specs.declared.script_line.EventLine.{EventLine}
use Rattle.event_script.specs.declared.script_line.EventLine.TheVariants as line
use Rattle.replay.specs.declared.reply.Reply.{Reply}

-- ---- one line

-- whether the line is a Step with a count
abbrev pub is_counted : EventLine → Bool
is_counted (line.Step worker (Some count)) = true
is_counted requested = false

-- a Step with a count is that many Steps; any other line is its event once
abbrev pub repeated : EventLine → Event → List Event
repeated (line.Step worker (Some count)) e = replicate count (event.Step worker)
repeated requested e = e ∷ []

-- the events with some results are a run of the world, and the reply is the one for these results
pub record IsReplied (before : Parts) (counted : Bool) (events : List Event) (reply : Reply)
    (after : Parts) : Type 0 where
  pub answers : List Answer
  pub played : ArePlayed before events answers after
  pub reply_is : reply ≡ reply_to counted answers

abbrev pub IsLineReplied : Parts → EventLine → Event → Reply → Parts → Type 0
IsLineReplied before requested e reply after =
    IsReplied before (is_counted requested) (repeated requested e) reply after

-- ---- all lines, each with its event

abbrev pub all_events : List EventLine → List Event → List Event
all_events (requested ∷ lines) (e ∷ events) = repeated requested e ++ all_events lines events
all_events lines events = []

-- each line has a result for each of its events, and the reply for these
abbrev pub AreLinesReplied : List EventLine → List Event → List (List Answer) → List Reply → Type 0
AreLinesReplied [] [] [] [] = Unit {0}
AreLinesReplied (requested ∷ lines) (e ∷ events) (own ∷ answers) (reply ∷ replies) =
    (length own ≡ length (repeated requested e)) × (reply ≡ reply_to (is_counted requested) own)
    × AreLinesReplied lines events answers replies
AreLinesReplied lines events answers replies = ⊥

-- the events of all lines, in order, are a run of the world
pub record AreRepliesTo (w : WorldState) (lines : List EventLine) (events : List Event)
    (replies : List Reply) : Type 0 where
  pub answers : List (List Answer)
  pub after : WorldState
  pub run : Plays w (all_events lines events) (flat_map (λ own. own) answers) after
  pub lines_replied : AreLinesReplied lines events answers replies

-- this holds from every world that `before` represents
abbrev pub AreRepliesFrom : Parts → List EventLine → List Event → List Reply → Type 0
AreRepliesFrom before lines events replies = (w : WorldState) → WorldRepresents before w
    → AreRepliesTo w lines events replies
