-- The log line of an operator's request.
use Rattle.std.specs.Prelude.{◌≡◌, ℕ, List, length, Option, Some, None, true, false}
use Rattle.access_log.specs.declared.log_event.LineHeader.{LineHeader}
use Rattle.operator.specs.Control.{Controlled}
use Rattle.operator.specs.declared.reply.OperatorReply.{OperatorReply}
use Rattle.operator_request.specs.declared.request.OperatorRequest.{OperatorRequest}
use Rattle.operator_request.specs.declared.request.OperatorRequest.TheVariants as sent
use Rattle.server_log.specs.Halts.{IsLineOfHalt}
use Rattle.server_log.specs.Loads.{IsLineOfReply}

-- given the relation of a loader's faults to their causes, and their texts
module _ {F : Type 0} (has_cause : F → Option (List ℕ) → Type 0)
    (fault_text : F → Option (List ℕ)) where
  -- the line of a load, with the digest and the number of halted apps that the control has
  -- afterwards, or of a halt or its end; other requests have no line
  abbrev pub IsLineOfRequest : LineHeader → OperatorRequest → Controlled → OperatorReply F
      → Option (List ℕ) → Type 0
  IsLineOfRequest header (sent.Load path) control replied line =
      IsLineOfReply has_cause fault_text header path.now control.last.digest
      (length control.halted) replied line
  IsLineOfRequest header (sent.Halt appid) control replied line =
      IsLineOfHalt fault_text header (record { appid = appid; is_resume = false }) replied line
  IsLineOfRequest header (sent.Resume appid) control replied line =
      IsLineOfHalt fault_text header (record { appid = appid; is_resume = true }) replied line
  IsLineOfRequest header other control replied line = line ≡ None
