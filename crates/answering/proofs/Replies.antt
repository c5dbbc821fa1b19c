-- Which reply a body and an input have, put together from the contracts of the calls.
use Rattle.std.proofs.Common.{◌≡◌, ◌≢◌, ◌∙◌, ℕ, List, [], refl, ap, sym, subst}
use Rattle.std.proofs.Common.{Bool, true, Option, Result, Ok, Err}
use Rattle.std.specs.Prelude.{ℤ}
use Rattle.cells.specs.Grown.{GrewBy, Grows}
use Rattle.cells.specs.declared.event.CellEvent.{CellEvent}
use Rattle.hot_swap.specs.Published.{KnownPrefix, IsLatest}
use Rattle.http_front.specs.Post.{AnswersPost}
use Rattle.http_front.specs.Reply.{code_of}
use Rattle.omaha_json.specs.Request.{Request, request_in}
use Rattle.omaha_json.specs.Found.{FoundApp}
use Rattle.omaha_json.specs.Reply.{found_text}
use Rattle.omaha_json.specs.declared.omaha_fault.OmahaFault.{OmahaFault}
use Rattle.omaha_json.specs.declared.omaha_fault.OmahaFault.TheVariants.{Json, Shape, Protocol}
use Rattle.omaha_json.specs.declared.omaha_fault.OmahaFault.TheVariants.{TooManyApps, Memory}
use Rattle.ruleset.specs.Rules.{Rules}
use Rattle.answering.specs.Apps.{FindsApps, RunsFew}
use Rattle.answering.specs.Answer.{RepliesToRequest, RepliesToBody, RepliesTo, RepliesByRuns}
use Rattle.answering.specs.Answer.{IsReceived, IsReceivedBody}
use Rattle.answering.specs.Answer.{replied, unowned, broken_off, accepted, refused, unread}
use Rattle.answering.specs.Answer.{taken, rejected, Sends, sent, withheld}
use Rattle.answering.specs.Reply.{HttpReply, success, omaha_rejection, uncovered}

module _ (body : List ℕ) (watcher : KnownPrefix) (moment : ℤ) where
  -- the body's fault, or out of memory
  pub refused_by : (fault : OmahaFault)
      → (let found : Result Request OmahaFault = Err fault in
      found ≢ Err Memory → found ≡ request_in body)
      → RepliesToBody body watcher moment [] (omaha_rejection fault)
  refused_by Json h = refused Json (sym (h (λ e. cc)))
  refused_by Shape h = refused Shape (sym (h (λ e. cc)))
  refused_by Protocol h = refused Protocol (sym (h (λ e. cc)))
  refused_by TooManyApps h = refused TooManyApps (sym (h (λ e. cc)))
  refused_by Memory h = unread

module _ {P : Type 0} (withholds : Bool) (grew : P → CellEvent → P → Type 0)
    (request : Request) (watcher : KnownPrefix) (moment : ℤ) where
  -- an allocation failed after some runs
  pub is_broken_off : (p q : P) (generation : ℕ) (rules : Rules) → IsLatest watcher generation rules
      → Grows grew p q (RunsFew rules request.facts moment request.apps)
      → Grows grew p q (λ events. Sends withholds (RepliesToRequest request watcher moment) events
      (omaha_rejection Memory))
  is_broken_off p q generation rules l a = record {
    events = a.events;
    grown = a.grown;
    of = sent (broken_off l a.of);
  }

  -- the reply is withheld, after all runs
  pub is_withheld : (p q : P) (generation : ℕ) (rules : Rules) (found : List (Option FoundApp))
      → withholds ≡ true → IsLatest watcher generation rules
      → Grows grew p q (FindsApps rules request.facts moment request.apps found)
      → Grows grew p q
      (λ events. Sends withholds (RepliesToRequest request watcher moment) events uncovered)
  is_withheld p q generation rules found w l a = record {
    events = a.events;
    grown = a.grown;
    of = withheld w (replied l a.of.runs);
  }

  -- the reply was made
  pub is_replied : (p q : P) (generation : ℕ) (rules : Rules) (found slice : List (Option FoundApp))
      (server text : List ℕ) → IsLatest watcher generation rules
      → server ≡ rules.server → slice ≡ found
      → text ≡ found_text server request.apps slice moment
      → Grows grew p q (FindsApps rules request.facts moment request.apps found)
      → Grows grew p q
      (λ events. Sends withholds (RepliesToRequest request watcher moment) events (success text))
  is_replied p q generation rules found slice server text l named d t a =
      let J : List ℕ → Type 0 = λ z. RepliesToRequest request watcher moment a.events (success z) in
      let N : List ℕ → List ℕ = λ z. found_text z request.apps slice moment in
      let F : List (Option FoundApp) → List ℕ = λ z.
      found_text rules.server request.apps z moment in
      let whole = t ∙ ap N named ∙ ap F (d ∙ a.of.found_are) in
      record {
        events = a.events;
        grown = a.grown;
        of = sent (subst J (sym whole) (replied l a.of.runs));
      }

-- ---- no run was made if the status is none of 200, 500 and 503

module _ (request : Request) (watcher : KnownPrefix) (moment : ℤ) where
  pub idle_request : {events : List CellEvent} {reply : HttpReply}
      → RepliesToRequest request watcher moment events reply
      → code_of reply.status ≢ 200 → code_of reply.status ≢ 500 → events ≡ []
  idle_request (replied l r) h k = absurd (h refl)
  idle_request unowned h k = refl
  idle_request (broken_off l r) h k = absurd (k refl)

module _ (body : List ℕ) (watcher : KnownPrefix) (moment : ℤ) where
  pub idle_body : {events : List CellEvent} {reply : HttpReply}
      → RepliesToBody body watcher moment events reply
      → code_of reply.status ≢ 200 → code_of reply.status ≢ 500 → events ≡ []
  idle_body (accepted e j) h k = idle_request _ watcher moment j h k
  idle_body (refused fault e) h k = refl
  idle_body unread h k = refl

module _ (input : Option (List ℕ)) (watcher : KnownPrefix) (moment : ℤ) where
  pub idle_input : {events : List CellEvent} {reply : HttpReply}
      → RepliesTo input watcher moment events reply
      → code_of reply.status ≢ 200 → code_of reply.status ≢ 500 → events ≡ []
  idle_input (taken body b j) h k = idle_body body watcher moment j h k
  idle_input (rejected fault status f e) h k = refl

  -- a withheld reply has status 503
  idle_sent : (withholds : Bool) {events : List CellEvent} {reply : HttpReply}
      → Sends withholds (RepliesTo input watcher moment) events reply
      → code_of reply.status ≢ 200 → code_of reply.status ≢ 500
      → (withholds ≡ true → code_of reply.status ≢ 503) → events ≡ []
  idle_sent withholds (sent j) h k n = idle_input j h k
  idle_sent withholds (withheld w j) h k n = absurd (n w refl)

module _ (input : Option (List ℕ)) where
  -- from the result of a body to that of a reader
  pub is_received : (body slice : List ℕ) → AnswersPost input (Ok body) → slice ≡ body
      → (read : Result Request HttpReply) → IsReceivedBody slice read → IsReceived input read
  is_received body slice b e (Ok request) r =
      (body, b, ap request_in (sym e) ∙ r)
  is_received body slice b e (Err reply) r = λ watcher moment.
      let J : List ℕ → Type 0 = λ z. RepliesToBody z watcher moment [] reply in
      taken body b (subst J e (r watcher moment))

module _ {P : Type 0} (withholds : Bool) (grew : P → CellEvent → P → Type 0)
    (input : Option (List ℕ)) (watcher : KnownPrefix) (moment : ℤ) where
  -- what is sent to a body is sent to the reader's bytes
  sent_to : {events : List CellEvent} {reply : HttpReply} (request : Request)
      → IsReceived input (Ok request)
      → Sends withholds (RepliesToRequest request watcher moment) events reply
      → Sends withholds (RepliesTo input watcher moment) events reply
  sent_to request h (sent j) = sent (taken h.0 h.1 (accepted h.2 j))
  sent_to request h (withheld w j) = withheld w (taken h.0 h.1 (accepted h.2 j))

  -- a request was read, and has a reply
  pub is_answered : (p q : P) (request : Request) (reply : HttpReply)
      → IsReceived input (Ok request)
      → Grows grew p q
      (λ events. Sends withholds (RepliesToRequest request watcher moment) events reply)
      → RepliesByRuns withholds grew input watcher moment p q reply
  is_answered p q request reply h a = record {
    events = a.events;
    grown = a.grown;
    of = sent_to request h a.of;
  }

  -- no run was made if the status is none of 200, 500 and 503
  pub idle : {p q : P} {reply : HttpReply}
      → RepliesByRuns withholds grew input watcher moment p q reply
      → code_of reply.status ≢ 200 → code_of reply.status ≢ 500
      → (withholds ≡ true → code_of reply.status ≢ 503) → q ≡ p
  idle {p} {q} a h k n =
      let G : List CellEvent → Type 0 = λ z. GrewBy grew p z q in
      subst G (idle_sent input watcher moment withholds a.of h k n) a.grown
