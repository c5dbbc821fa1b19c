-- The events that the lines of a script request, in order: that of a swap line has the ruleset of
-- its manifest, whose arrays are declared in the directory that the lines before it left.
use Rattle.std.specs.Prelude.{◌≡◌, List, [], ◌∷◌}
use Rattle.std.specs.Arc.{arc_value}
use Rattle.attrs.specs.Attributes as attrs
use Rattle.cells.specs.declared.array.CellArray.{CellArray}
use Rattle.bounded_files.specs.Files.{KnownFiles}
use Rattle.bounded_files.specs.declared.resource_fault.ResourceFault.TheVariants.{Memory}
use Rattle.load.specs.Loaded.{IsLoadedFrom}
use Rattle.world.specs.declared.event.Event.{Event}
use Rattle.world.specs.declared.event.Event.TheVariants as event
use Rattle.replay.specs.Loaded.{GivesNoRuleset}
use Rattle.replay.specs.declared.replay_fault.ReplayFault.{ReplayFault}
use Rattle.replay.specs.declared.replay_fault.ReplayFault.TheVariants.{Resource}
use Rattle.event_script.specs.declared.script_line.EventLine.{EventLine}
use Rattle.event_script.specs.declared.script_line.EventLine.TheVariants as line

module _ (known : KnownFiles) where
  -- the event that a line requests in a world, a swap with the ruleset of its manifest
  abbrev pub IsEventOf : EventLine → List CellArray → Event → List CellArray → Type 0
  IsEventOf (line.Start worker appid bucket version) old (event.Start k sent) new =
      (k ≡ worker) × (arc_value sent ≡ attrs.plain appid version bucket) × (new ≡ old)
  IsEventOf (line.Step worker count) old e new = (e ≡ event.Step worker) × (new ≡ old)
  IsEventOf (line.Finish worker) old e new = (e ≡ event.Finish worker) × (new ≡ old)
  IsEventOf (line.Swap manifest) old (event.Swap rules) new =
      IsLoadedFrom known manifest old (arc_value rules) new
  IsEventOf requested old e new = ⊥

  -- the events of all lines
  abbrev pub AreEventsOf : List EventLine → List CellArray → List Event → List CellArray → Type 0
  AreEventsOf [] old [] new = new ≡ old
  AreEventsOf (requested ∷ lines) old (e ∷ events) new =
      (between : List CellArray) × IsEventOf requested old e between
      × AreEventsOf lines between events new
  AreEventsOf lines old events new = ⊥

  -- why a line has no event: its manifest is refused
  abbrev pub RefusesLine : EventLine → List CellArray → ReplayFault → Type 0
  RefusesLine (line.Swap manifest) old fault = GivesNoRuleset known manifest old fault
  RefusesLine requested old (Resource Memory) = Unit {0}
  RefusesLine requested old fault = ⊥

  -- the fault of the first line that is refused
  pub data RefusesLines : List EventLine → List CellArray → ReplayFault → Type 0 where
    no_memory : {lines : List EventLine} {old : List CellArray}
        → RefusesLines lines old (Resource Memory)
    this : {requested : EventLine} {lines : List EventLine} {old : List CellArray}
        {fault : ReplayFault} → RefusesLine requested old fault
        → RefusesLines (requested ∷ lines) old fault
    later : {requested : EventLine} {lines : List EventLine} {old : List CellArray} (e : Event)
        (between : List CellArray) {fault : ReplayFault} → IsEventOf requested old e between
        → RefusesLines lines between fault → RefusesLines (requested ∷ lines) old fault
