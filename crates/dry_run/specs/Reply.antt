-- The reply to a body before it is sent: by a ruleset, a moment, and the counters.
use Rattle.std.specs.Prelude.{◌≡◌, ℕ, ℤ, List, Option, Result, Ok, Err, Vec}
use Rattle.cells.specs.Events.{IsEvent}
use Rattle.cells.specs.Grown.{GrewBy}
use Rattle.cells.specs.declared.event.CellEvent.{CellEvent}
use Rattle.ruleset.specs.Rules.{Rules}
use Rattle.omaha_json.specs.Request.{Request, request_in}
use Rattle.omaha_json.specs.declared.omaha_fault.OmahaFault.{OmahaFault}
use Rattle.omaha_json.specs.declared.omaha_fault.OmahaFault.TheVariants.{Memory}
use Rattle.answering.specs.Apps.{RunsApps}
use Rattle.answering.specs.Found.{reply_text}

module _ (rules : Rules) (moment : ℤ) where
  -- Omaha's reply to a request: each app is answered by the choice of its run, and the runs make
  -- these events
  pub record Replies (request : Request) (events : List CellEvent) (text : List ℕ) : Type 0 where
    pub choices : List (Option ℕ)
    pub runs : RunsApps rules request.facts moment request.apps choices events
    pub text_is : text ≡ reply_text request rules choices moment

  -- on counters with the values `old`, each of which replies with its value; their values are `new`
  -- afterwards
  pub record RepliesOn (request : Request) (old text new : List ℕ) : Type 0 where
    pub events : List CellEvent
    pub legal : GrewBy IsEvent old events new
    pub replies : Replies request events text

  -- the reply to the request that a body is
  abbrev pub RepliesToBodyOn : (body old text new : List ℕ) → Type 0
  RepliesToBodyOn body old text new =
      (request : Request) × (request_in body ≡ Ok request) × RepliesOn request old text new

  -- what is found for a body: that reply, or why it isn't a request, which changes no counter.
  -- Running out of memory is always allowed
  abbrev pub IsFoundReply : {A : Type 0}
      → (body old new : List ℕ) → Result (Vec ℕ A) OmahaFault → Type 0
  IsFoundReply body old new (Ok text) = RepliesToBodyOn body old text.items new
  IsFoundReply body old new (Err Memory) = Unit {0}
  IsFoundReply body old new (Err fault) = (request_in body ≡ Err fault) × (new ≡ old)
