-- The lines of a machine that are kept of a log.
use Rattle.std.specs.Prelude.{◌≡◌, ℕ, List, All, Some, true}
use Rattle.json_value.specs.Bytes.{json_of}
use Rattle.serde_json.specs.Data.{Data}
use Rattle.why_log.specs.Machine.{is_of}
use Rattle.why_log.specs.declared.finding.FoundLine.{FoundLine}
use Rattle.why_log.specs.declared.finding.FoundLines.{FoundLines}
use Rattle.why_log.specs.declared.machine.Machine.{Machine}

abbrev pub IsJson : (line : List ℕ) → Data → Type 0
IsJson line event = json_of line ≡ Some event

abbrev pub IsSent : Machine → Data → Type 0
IsSent machine event = is_of machine event ≡ true

-- a line of a connection of this machine
pub record IsLineOf (machine : Machine) (line : FoundLine) : Type 0 where
  pub event : Data
  pub json_is : IsJson line.bytes.items event
  pub of_machine : IsSent machine event

-- all lines that are kept are the machine's
pub record AreOf (machine : Machine) (found : FoundLines) : Type 0 where
  pub each : All (IsLineOf machine) found.lines.items

-- if those that were kept before are
pub record Keeps (machine : Machine) (old new : FoundLines) : Type 0 where
  pub keeps : AreOf machine old → AreOf machine new
