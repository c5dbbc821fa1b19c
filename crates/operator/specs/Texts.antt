-- The texts that are sent to an operator: lines, each ended by a line feed.
use Rattle.std.specs.Prelude.{ℕ, List, [], ◌++◌, codes, decimal, Option, Some}
use Rattle.std.specs.Prelude.{◌==◌, if◌then◌else◌}
use Rattle.std.specs.List.{flat_map}
use Rattle.std.specs.Option.{option_map}
use Rattle.std.specs.String.{string_bytes}
use Rattle.bounded_files.specs.Texts.{resource_text}
use Rattle.bounded_files.specs.declared.resource_fault.ResourceFault.TheVariants as resource
use Rattle.access_log.specs.Utc.{utc_text}
use Rattle.cells.specs.declared.array.CellArray.{CellArray}
use Rattle.hex.specs.Hex.{encode_lower}
use Rattle.hot_swap.specs.Latest.{Latest}
use Rattle.hot_swap.specs.Texts.{swap_text}
use Rattle.operator.specs.Control.{Controlled, LastLoad}
use Rattle.operator.specs.declared.server_reply.RequestFault.{RequestFault}
use Rattle.operator.specs.declared.server_reply.RequestFault.TheVariants as ask
use Rattle.operator.specs.declared.reply.OperatorRefusal.{OperatorRefusal}
use Rattle.operator.specs.declared.reply.OperatorRefusal.TheVariants as refusal
use Rattle.operator.specs.declared.reply.OperatorReply.{OperatorReply}
use Rattle.operator.specs.declared.reply.OperatorReply.TheVariants as reply
use Rattle.printing.specs.Printed.{printed}
use Rattle.ruleset.specs.Texts.{line, app_line}

-- ---- the lines of a ruleset, of a server's state and of the counters

abbrev pub generation_line : ℕ → List ℕ
generation_line generation = line (codes "generation " ++ decimal generation)

abbrev pub ruleset_text : Latest → List ℕ
ruleset_text latest = generation_line latest.generation ++ flat_map app_line latest.rules.apps

abbrev pub digest_line : List ℕ → List ℕ
digest_line digest = line (codes "digest " ++ encode_lower digest)

-- when a load was made, and from where
abbrev pub loaded_line : List ℕ → List ℕ → List ℕ
loaded_line time path = line (codes "loaded " ++ time ++ codes " " ++ printed path)

abbrev pub origin_line : LastLoad → List ℕ
origin_line load = loaded_line (utc_text load.time) load.path

abbrev pub load_text : LastLoad → List ℕ
load_text load = digest_line load.digest ++ origin_line load

abbrev pub halted_line : List ℕ → List ℕ
halted_line appid = line (codes "halted " ++ appid)

-- the last line shows that none is missing
abbrev pub state_text : Controlled → List ℕ
state_text c =
    generation_line c.publishing.latest.generation ++ load_text c.last
    ++ flat_map halted_line c.halted ++ line (codes "end")

-- the line of an array's cell, unless the cell is 0
abbrev pub cell_text : CellArray → ℕ → ℕ → List ℕ
cell_text array index value =
    if value == 0 then []
    else line (array.name ++ codes "[" ++ decimal index ++ codes "] " ++ decimal value)

-- ---- replies

abbrev pub request_fault_text : RequestFault → List ℕ
request_fault_text ask.Word = codes "B1 Word"
request_fault_text ask.Memory = resource_text resource.Memory
request_fault_text ask.Connect = codes "B5 Connect"
-- the words of a server, or of another program that listens at its port
request_fault_text (ask.Refused words) = printed (string_bytes words)

-- given the texts of the loader's faults
module _ {F : Type 0} (fault_text : F → Option (List ℕ)) where
  abbrev pub refusal_text : OperatorRefusal F → Option (List ℕ)
  refusal_text refusal.Word = Some (request_fault_text ask.Word)
  refusal_text refusal.Memory = Some (resource_text resource.Memory)
  refusal_text (refusal.Load fault) = fault_text fault
  refusal_text (refusal.Install fault) = Some (swap_text fault)
  refusal_text refusal.App = Some (codes "B8 App")

  -- the lines of a reply
  abbrev pub reply_text : OperatorReply F → Option (List ℕ)
  reply_text (reply.Loaded generation) = Some (generation_line generation)
  reply_text (reply.Lines lines) = Some (string_bytes lines)
  reply_text reply.Stopping = Some (line (codes "stopping"))
  reply_text (reply.Refused refused) =
      option_map (λ text. line (codes "refused " ++ text)) (refusal_text refused)
