-- What a request does, with a constructor for each outcome. The outcomes for out of memory have no
-- condition, since nothing is known about when an allocation fails.
use Rattle.std.specs.Prelude.{◌≡◌, ℕ, List, [], All, Option, Some, None, Result, Ok, Err}
use Rattle.std.specs.Borrow.{Bor}
use Rattle.std.specs.String.{string_bytes}
use Rattle.std.specs.declared.alloc.AllocError.{AllocError}
use Rattle.std.specs.declared.alloc.Global.{Global}
use Rattle.std.specs.declared.string.String.{String}
use Rattle.cells.specs.declared.event.CellEvent.{CellEvent}
use Rattle.operator.specs.Control.{Controlled, Loading, IsInstalled, IsRefusedLoad, stopping}
use Rattle.operator.specs.Control.{Halts, Resumes, IsRefusedHalt}
use Rattle.operator.specs.Counters.{IsLoad, ReadsArrays}
use Rattle.operator.specs.Line.{IsFirstRequest}
use Rattle.operator.specs.Texts.{ruleset_text, state_text}
use Rattle.operator.specs.declared.reply.OperatorRefusal.{OperatorRefusal}
use Rattle.operator.specs.declared.reply.OperatorRefusal.TheVariants as refusal
use Rattle.operator.specs.declared.reply.OperatorReply.{OperatorReply}
use Rattle.operator.specs.declared.reply.OperatorReply.TheVariants as reply
use Rattle.operator_request.specs.declared.request.OperatorRequest.{OperatorRequest}
use Rattle.operator_request.specs.declared.request.OperatorRequest.TheVariants as sent

-- the reply to a request that installs a ruleset, and to one for lines
abbrev pub served_reply : {F : Type 0} → Result ℕ (OperatorRefusal F) → OperatorReply F
served_reply (Ok generation) = reply.Loaded generation
served_reply (Err refused) = reply.Refused refused

abbrev pub lines_reply : {F : Type 0} → Result (String Global) AllocError → OperatorReply F
lines_reply (Ok lines) = reply.Lines lines
lines_reply (Err error) = reply.Refused refusal.Memory

module _ {F : Type 0} (loads : Loading F) where
  -- relates the request, the state before, the events on cells, the reply, and the state after
  pub data Performs
      : Option OperatorRequest → Controlled → List CellEvent → OperatorReply F → Controlled
      → Type 0 where
    -- the line isn't a request
    wordless : {old : Controlled} → Performs None old [] (reply.Refused refusal.Word) old
    -- a load is installed whole, or changes nothing
    loaded : {old new : Controlled} {generation : ℕ} (path : Bor (List ℕ))
        → IsInstalled loads path.now old generation new
        → Performs (Some (sent.Load path)) old [] (reply.Loaded generation) new
    not_loaded : {old : Controlled} {refused : OperatorRefusal F} (path : Bor (List ℕ))
        → IsRefusedLoad loads path.now old refused
        → Performs (Some (sent.Load path)) old [] (reply.Refused refused) old
    -- an app is halted, or resumed, or nothing changes
    halted : {old new : Controlled} {generation : ℕ} (appid : Bor (List ℕ))
        → Halts appid.now old generation new
        → Performs (Some (sent.Halt appid)) old [] (reply.Loaded generation) new
    not_halted : {old : Controlled} {refused : OperatorRefusal F} (appid : Bor (List ℕ))
        → IsRefusedHalt appid.now old refused
        → Performs (Some (sent.Halt appid)) old [] (reply.Refused refused) old
    resumed : {old new : Controlled} {generation : ℕ} (appid : Bor (List ℕ))
        → Resumes appid.now old generation new
        → Performs (Some (sent.Resume appid)) old [] (reply.Loaded generation) new
    not_resumed : {old : Controlled} {refused : OperatorRefusal F} (appid : Bor (List ℕ))
        → IsRefusedHalt appid.now old refused
        → Performs (Some (sent.Resume appid)) old [] (reply.Refused refused) old
    shown : {old : Controlled} (lines : String Global)
        → string_bytes lines ≡ ruleset_text old.publishing.latest
        → Performs (Some sent.Show) old [] (reply.Lines lines) old
    stated : {old : Controlled} (lines : String Global)
        → string_bytes lines ≡ state_text old
        → Performs (Some sent.State) old [] (reply.Lines lines) old
    counted : {old : Controlled} {events : List CellEvent} (lines : String Global)
        → ReadsArrays old.arrays events (string_bytes lines)
        → Performs (Some sent.Cells) old events (reply.Lines lines) old
    stopped : {old : Controlled}
        → Performs (Some sent.Stop) old [] reply.Stopping (stopping old)
    -- out of memory for the lines; some cells were read
    unshown : {old : Controlled}
        → Performs (Some sent.Show) old [] (reply.Refused refusal.Memory) old
    unstated : {old : Controlled}
        → Performs (Some sent.State) old [] (reply.Refused refusal.Memory) old
    uncounted : {old : Controlled} {events : List CellEvent} → All IsLoad events
        → Performs (Some sent.Cells) old events (reply.Refused refusal.Memory) old

  -- the reply to a connection that sends these bytes, if they are known
  pub record AnswersLine (input : Option (List ℕ)) (old : Controlled)
      (events : List CellEvent) (replied : OperatorReply F) (new : Controlled) : Type 0 where
    pub line_request : Option OperatorRequest
    pub line_request_is : IsFirstRequest input line_request
    pub performs : Performs line_request old events replied new
