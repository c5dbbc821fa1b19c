-- Which reply a request has, and which events on counters its runs make, with a constructor for
-- each outcome. When an allocation fails is unspecified, so "out of memory" is always possible.
-- Every other refusal is determined by the bytes.
use Rattle.std.specs.Prelude.{◌≡◌, Bool, true, ℕ, ℤ, List, [], Option, Some, Result, Ok, Err}
use Rattle.cells.specs.declared.event.CellEvent.{CellEvent}
use Rattle.hot_swap.specs.Published.{KnownPrefix, IsLatest}
use Rattle.http_front.specs.Faults.{post_name}
use Rattle.http_front.specs.Faults.{status_of}
use Rattle.http_front.specs.Post.{AnswersPost}
use Rattle.http_front.specs.declared.post_fault.PostFault.{PostFault}
use Rattle.http_front.specs.declared.status.Status.{Status}
use Rattle.omaha_json.specs.Request.{Request, request_in}
use Rattle.omaha_json.specs.declared.omaha_fault.OmahaFault.{OmahaFault}
use Rattle.omaha_json.specs.declared.omaha_fault.OmahaFault.TheVariants as omaha
use Rattle.ruleset.specs.Rules.{Rules}
use Rattle.cells.specs.Grown.{Grows}
use Rattle.answering.specs.Apps.{RunsApps, RunsFew}
use Rattle.answering.specs.Found.{reply_text}
use Rattle.answering.specs.Reply.{HttpReply, success, rejection}
use Rattle.answering.specs.Reply.{omaha_rejection, no_place, uncovered, settled_reply}
use Rattle.answering.specs.declared.answering.AnswerFault.{AnswerFault}
use Rattle.answering.specs.declared.answering.AnswerFault.TheVariants as answer
use Rattle.answering.specs.declared.covered_text.CoveredText.{CoveredText}

-- the replies to a request, under the ruleset that the watcher read last
pub data RepliesToRequest (request : Request) (watcher : KnownPrefix) (moment : ℤ)
    : List CellEvent → HttpReply → Type 0 where
  -- Omaha's reply: all apps get their results under one ruleset, each by the choice of its run
  replied : {generation : ℕ} {rules : Rules} {choices : List (Option ℕ)} {events : List CellEvent}
      → IsLatest watcher generation rules
      → RunsApps rules request.facts moment request.apps choices events
      → RepliesToRequest request watcher moment events
      (success (reply_text request rules choices moment))
  -- the ruleset can't have another owner, or none is published any more
  unowned : RepliesToRequest request watcher moment [] no_place
  -- an allocation fails after the runs of the first few apps, each of which was made to its end
  broken_off : {generation : ℕ} {rules : Rules} {events : List CellEvent}
      → IsLatest watcher generation rules
      → RunsFew rules request.facts moment request.apps events
      → RepliesToRequest request watcher moment events (omaha_rejection omaha.Memory)

-- the replies to a body
pub data RepliesToBody (body : List ℕ) (watcher : KnownPrefix) (moment : ℤ)
    : List CellEvent → HttpReply → Type 0 where
  accepted : {request : Request} {events : List CellEvent} {reply : HttpReply}
      → request_in body ≡ Ok request → RepliesToRequest request watcher moment events reply
      → RepliesToBody body watcher moment events reply
  -- it isn't a request
  refused : (fault : OmahaFault) → request_in body ≡ Err fault
      → RepliesToBody body watcher moment [] (omaha_rejection fault)
  -- an allocation fails while it is read
  unread : RepliesToBody body watcher moment [] (omaha_rejection omaha.Memory)

-- the replies to the bytes of a reader; `None` means that these aren't known
pub data RepliesTo (input : Option (List ℕ)) (watcher : KnownPrefix) (moment : ℤ)
    : List CellEvent → HttpReply → Type 0 where
  taken : {events : List CellEvent} {reply : HttpReply} (body : List ℕ)
      → AnswersPost input (Ok body)
      → RepliesToBody body watcher moment events reply
      → RepliesTo input watcher moment events reply
  -- no body is read, and the client gets the reason
  rejected : (fault : PostFault) (status : Status) → AnswersPost input (Err fault)
      → status_of fault ≡ Some status
      → RepliesTo input watcher moment [] (rejection status (post_name fault))

-- What is sent if this reply is due with these events: the reply itself; or, if replies may be
-- withheld, 503 in place of Omaha's reply, since what its runs did isn't stored
pub data Sends (withholds : Bool) (due : List CellEvent → HttpReply → Type 0)
    : List CellEvent → HttpReply → Type 0 where
  sent : {events : List CellEvent} {reply : HttpReply} → due events reply
      → Sends withholds due events reply
  withheld : {events : List CellEvent} {text : List ℕ} → withholds ≡ true
      → due events (success text) → Sends withholds due events uncovered

-- a body is this request, or has this refusal under every ruleset and at every moment
abbrev pub IsReceivedBody : List ℕ → Result Request HttpReply → Type 0
IsReceivedBody body (Ok request) = request_in body ≡ Ok request
IsReceivedBody body (Err reply) =
    (watcher : KnownPrefix) (moment : ℤ) → RepliesToBody body watcher moment [] reply

-- the same for the bytes of a reader
abbrev pub IsReceived : Option (List ℕ) → Result Request HttpReply → Type 0
IsReceived input (Ok request) =
    (body : List ℕ) × AnswersPost input (Ok body) × (request_in body ≡ Ok request)
IsReceived input (Err reply) =
    (watcher : KnownPrefix) (moment : ℤ) → RepliesTo input watcher moment [] reply

-- the faults after which nothing is written
abbrev pub WritesNothing : AnswerFault → Type 0
WritesNothing answer.Ended = Unit {0}
WritesNothing answer.Reading = Unit {0}
WritesNothing (answer.Writing written) = ⊥

-- the reply is what is sent to the bytes of the reader, and the pass (a ghost token) grew by the
-- events of its runs
module _ {P : Type 0} (withholds : Bool) (grew : P → CellEvent → P → Type 0) where
  abbrev pub RepliesByRuns : Option (List ℕ) → KnownPrefix → ℤ → P → P → HttpReply → Type 0
  RepliesByRuns input watcher moment before after reply =
      Grows grew before after
      (λ events. Sends withholds (RepliesTo input watcher moment) events reply)

  -- the result before anything is written: a reply, or that there is none
  abbrev pub Settles : {T : Type 0} → Option (List ℕ) → KnownPrefix → ℤ → P → P
      → Result (Result (CoveredText T) HttpReply) AnswerFault → Type 0
  Settles input watcher moment before after (Ok outcome) =
      RepliesByRuns input watcher moment before after (settled_reply outcome)
  Settles input watcher moment before after (Err e) = WritesNothing e × (after ≡ before)
