-- What a server sends, and what is found beforehand.
use Rattle.std.proofs.Common.{◌≡◌, ◌∙◌, ℕ, List, refl, ap, sym, subst}
use Rattle.std.proofs.Common.{Option, Some, None, Result, Ok, Err, ◌⊎◌, inl, inr}
use Rattle.std.specs.Prelude.{ℤ, ◌↔◌}
use Rattle.cells.specs.Events.{IsEvent}
use Rattle.cells.specs.Grown.{GrewBy}
use Rattle.cells.specs.declared.event.CellEvent.{CellEvent}
use Rattle.hot_swap.specs.Published.{KnownPrefix, IsLatest}
use Rattle.http_front.specs.declared.status.Status.TheVariants as status
use Rattle.ruleset.specs.Rules.{Rules}
use Rattle.omaha_json.specs.Request.{Request, request_in}
use Rattle.omaha_json.specs.declared.omaha_fault.OmahaFault.{OmahaFault}
use Rattle.omaha_json.specs.declared.omaha_fault.OmahaFault.TheVariants.{Json, Shape, Protocol}
use Rattle.omaha_json.specs.declared.omaha_fault.OmahaFault.TheVariants.{TooManyApps, Memory}
use Rattle.answering.specs.Answer.{RepliesToRequest, RepliesToBody}
use Rattle.answering.specs.Answer.{replied, unowned, broken_off, accepted, refused, unread}
use Rattle.answering.specs.Found.{reply_text}
use Rattle.answering.specs.Reply.{HttpReply, success, omaha_rejection, omaha_status}
use Rattle.dry_run.specs.Reply.{Replies, RepliesToBodyOn}
use Rattle.dry_run.proofs.Requests.{one_reply_to_body}

not_success : (fault : OmahaFault) → omaha_status fault ≡ status.Success → ⊥
not_success Json h = absurd cc
not_success Shape h = absurd cc
not_success Protocol h = absurd cc
not_success TooManyApps h = absurd cc
not_success Memory h = absurd cc

abbrev rules_or : Rules → Option Rules → Rules
rules_or other (Some rules) = rules
rules_or other None = other

abbrev fault_or : OmahaFault → Result Request OmahaFault → OmahaFault
fault_or other (Err fault) = fault
fault_or other (Ok request) = other

module _ (watcher : KnownPrefix) (generation : ℕ) (rules : Rules) (moment : ℤ)
    (latest : IsLatest watcher generation rules) where
  of_request : (request : Request) {events : List CellEvent} {reply : HttpReply}
      → RepliesToRequest request watcher moment events reply → reply.status ≡ status.Success
      → Replies rules moment request events reply.text
  of_request request (replied {rules = rules'} {choices} {events} l r) h =
      let same : rules' ≡ rules = ap (rules_or rules) (sym l.rules_are ∙ latest.rules_are) in
      subst (λ (z : Rules). Replies z moment request events
      (reply_text request rules' choices moment)) same
      (record { choices = choices; runs = r; text_is = refl })
  of_request request unowned h = absurd cc
  of_request request (broken_off l r) h = absurd cc

  of_body : (body : List ℕ) {events : List CellEvent} {reply : HttpReply}
      → RepliesToBody body watcher moment events reply → reply.status ≡ status.Success
      → (request : Request) × (request_in body ≡ Ok request)
      × Replies rules moment request events reply.text
  of_body body (accepted {request} e r) h = (request, e, of_request request r h)
  of_body body (refused fault e) h = absurd (not_success fault h)
  of_body body unread h = absurd cc

  sends : (body : List ℕ) (events : List CellEvent) (text : List ℕ)
      → (request : Request) × (request_in body ≡ Ok request)
      × Replies rules moment request events text
      → RepliesToBody body watcher moment events (success text)
  sends body events text found =
      let request = found.0 in
      let r = found.2 in
      accepted found.1
      (subst (λ (z : List ℕ). RepliesToRequest request watcher moment events (success z))
      (sym r.text_is) (replied latest r.runs))

  pub sends_replies : (body : List ℕ) (events : List CellEvent) (text : List ℕ)
      → RepliesToBody body watcher moment events (success text)
      ↔ ((request : Request) × (request_in body ≡ Ok request)
      × Replies rules moment request events text)
  sends_replies body events text = (λ a. of_body body a refl, sends body events text)

  pub sends_what_is_found : (body old found left sent new : List ℕ) (events : List CellEvent)
      → RepliesToBodyOn rules moment body old found left
      → RepliesToBody body watcher moment events (success sent) → GrewBy IsEvent old events new
      → (sent ≡ found) × (new ≡ left)
  sends_what_is_found body old found left sent new events a b g =
      let r = of_body body b refl in
      one_reply_to_body rules moment body old sent found new left
      (r.0, r.1, record { events = events; legal = g; replies = r.2 }) a

pub refuses_alike : (watcher : KnownPrefix) (moment : ℤ) (body : List ℕ) {events : List CellEvent}
    {reply : HttpReply} (fault : OmahaFault) → request_in body ≡ Err fault
    → RepliesToBody body watcher moment events reply
    → (reply ≡ omaha_rejection fault) ⊎ (reply ≡ omaha_rejection Memory)
refuses_alike watcher moment body fault e (accepted e' r) = absurd cc
refuses_alike watcher moment body fault e (refused fault' e') =
    inl (ap omaha_rejection (ap (fault_or fault) (sym e' ∙ e)))
refuses_alike watcher moment body fault e unread = inr refl
