-- The result of a manifest and a script, given by their paths.
use Rattle.std.specs.Prelude.{ℕ, List, [], Some, None}
use Rattle.cells.specs.declared.array.CellArray.{CellArray}
use Rattle.bounded_files.specs.Files.{KnownFiles, Gives, most_bytes, within}
use Rattle.bounded_files.specs.declared.resource_fault.ResourceFault.TheVariants.{File, Memory}
use Rattle.load.specs.Loaded.{IsLoadedFrom}
use Rattle.ruleset.specs.Rules.{Rules}
use Rattle.world.specs.World.{opening_world}
use Rattle.world.specs.declared.event.Event.{Event}
use Rattle.replay.specs.LineEvents.{AreEventsOf, RefusesLines}
use Rattle.replay.specs.Loaded.{GivesNoRuleset}
use Rattle.replay.specs.Played.{AreRepliesTo}
use Rattle.event_script.specs.Script.{IsScript, IsScriptFault}
use Rattle.replay.specs.declared.replay_fault.ReplayFault.{ReplayFault}
use Rattle.replay.specs.declared.replay_fault.ReplayFault.TheVariants.{Resource, Script}
use Rattle.event_script.specs.declared.script_fault.ScriptFault.TheVariants.{Malformed}
use Rattle.event_script.specs.declared.script_line.EventLine.{EventLine}
use Rattle.replay.specs.declared.reply.Reply.{Reply}

-- the lines of the script at a path
pub record AreLinesOf (known : KnownFiles) (path : List ℕ) (lines : List EventLine) : Type 0 where
  pub bytes : List ℕ
  pub given : Gives (within most_bytes known) path (Some bytes)
  pub script : IsScript bytes lines

-- the file can't be read, or a line of its bytes is malformed
abbrev pub RefusesScript : KnownFiles → List ℕ → ReplayFault → Type 0
RefusesScript known path (Resource File) = Gives (within most_bytes known) path None
RefusesScript known path (Script (Malformed line)) =
    (bytes : List ℕ) × Gives (within most_bytes known) path (Some bytes)
    × IsScriptFault bytes (Malformed line)
RefusesScript known path (Resource Memory) = Unit {0}
RefusesScript known path fault = ⊥

module _ (known : KnownFiles) (manifest script : List ℕ) where
  -- the script is read, the manifest is loaded into an empty directory, and then those of the swap
  -- lines; the replies are those of 64 workers, whose first ruleset is the manifest's
  pub record IsReplay (replies : List Reply) : Type 0 where
    pub lines : List EventLine
    pub read : AreLinesOf known script lines
    pub first : Rules
    pub between : List CellArray
    pub loaded : IsLoadedFrom known manifest [] first between
    pub events : List Event
    pub after : List CellArray
    pub requested : AreEventsOf known lines between events after
    pub replied : AreRepliesTo (opening_world first 64) lines events replies

  -- the fault that counts: that of the script, or else of the manifest, or else of a swap line
  pub data IsReplayFault : ReplayFault → Type 0 where
    of_memory : IsReplayFault (Resource Memory)
    of_script : {fault : ReplayFault} → RefusesScript known script fault → IsReplayFault fault
    of_manifest : {fault : ReplayFault} (lines : List EventLine) → AreLinesOf known script lines
        → GivesNoRuleset known manifest [] fault → IsReplayFault fault
    of_swap : {fault : ReplayFault} (lines : List EventLine) (first : Rules)
        (between : List CellArray) → AreLinesOf known script lines
        → IsLoadedFrom known manifest [] first between → RefusesLines known lines between fault
        → IsReplayFault fault
