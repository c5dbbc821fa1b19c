-- What a server sends: the reply that is found beforehand, and no other.
use Rattle.std.specs.Prelude.{◌≡◌, ◌↔◌, ◌⊎◌, ℕ, ℤ, List, Ok, Err}
use Rattle.cells.specs.Events.{IsEvent}
use Rattle.cells.specs.Grown.{GrewBy}
use Rattle.cells.specs.declared.event.CellEvent.{CellEvent}
use Rattle.hot_swap.specs.Published.{KnownPrefix, IsLatest}
use Rattle.ruleset.specs.Rules.{Rules}
use Rattle.omaha_json.specs.Request.{Request, request_in}
use Rattle.omaha_json.specs.declared.omaha_fault.OmahaFault.{OmahaFault}
use Rattle.omaha_json.specs.declared.omaha_fault.OmahaFault.TheVariants.{Memory}
use Rattle.answering.specs.Answer.{RepliesToBody}
use Rattle.answering.specs.Reply.{HttpReply, success, omaha_rejection}
use Rattle.dry_run.specs.Reply.{Replies, RepliesToBodyOn}

-- a server whose watcher has this newest ruleset may send, as Omaha's reply to a body, exactly the
-- answers of the body's apps under it, with these events
abbrev pub SendsReplies : Type 0
SendsReplies = (watcher : KnownPrefix) (generation : ℕ) (rules : Rules) (moment : ℤ)
    (body : List ℕ) (events : List CellEvent) (text : List ℕ) → IsLatest watcher generation rules
    → RepliesToBody body watcher moment events (success text)
    ↔ ((request : Request) × (request_in body ≡ Ok request)
    × Replies rules moment request events text)

-- on counters with the same values there is one reply, and one list of values afterwards
abbrev pub HasOneReply : Type 0
HasOneReply = (rules : Rules) (moment : ℤ) (body old text text' new new' : List ℕ)
    → RepliesToBodyOn rules moment body old text new
    → RepliesToBodyOn rules moment body old text' new' → (text ≡ text') × (new ≡ new')

-- so a server sends what was found as Omaha's reply, under two conditions. The newest ruleset that
-- its watcher knows, the moment of its reply, and the values of its counters then are the same; and
-- no other request's run changes a counter between this one's runs
abbrev pub SendsWhatIsFound : Type 0
SendsWhatIsFound = (watcher : KnownPrefix) (generation : ℕ) (rules : Rules) (moment : ℤ)
    (body old found left sent new : List ℕ) (events : List CellEvent)
    → IsLatest watcher generation rules → RepliesToBodyOn rules moment body old found left
    → RepliesToBody body watcher moment events (success sent) → GrewBy IsEvent old events new
    → (sent ≡ found) × (new ≡ left)

-- and it refuses a body that isn't a request with the same fault, or because it is out of memory
abbrev pub RefusesAlike : Type 0
RefusesAlike = (watcher : KnownPrefix) (moment : ℤ) (body : List ℕ) (events : List CellEvent)
    (reply : HttpReply) (fault : OmahaFault) → request_in body ≡ Err fault
    → RepliesToBody body watcher moment events reply
    → (reply ≡ omaha_rejection fault) ⊎ (reply ≡ omaha_rejection Memory)
