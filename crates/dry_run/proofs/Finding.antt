-- The answers found for the apps of a request make its reply.
use Rattle.std.proofs.Common.{◌≡◌, ◌≢◌, ◌∙◌, ℕ, List, Option, Result, Ok, Err, ap, sym, subst}
use Rattle.std.specs.Prelude.{ℤ, Vec, IfOk, IfErr}
use Rattle.cells.specs.Events.{IsEvent}
use Rattle.cells.specs.Grown.{Grows}
use Rattle.omaha_json.specs.Found.{FoundApp}
use Rattle.omaha_json.specs.Reply.{found_text}
use Rattle.omaha_json.specs.Request.{Request, request_in}
use Rattle.omaha_json.specs.declared.omaha_fault.OmahaFault.{OmahaFault}
use Rattle.omaha_json.specs.declared.omaha_fault.OmahaFault.TheVariants.{Json, Shape, Protocol}
use Rattle.omaha_json.specs.declared.omaha_fault.OmahaFault.TheVariants.{TooManyApps, Memory}
use Rattle.ruleset.specs.Rules.{Rules}
use Rattle.answering.specs.Apps.{FindsApps}
use Rattle.dry_run.specs.Reply.{IsFoundReply, RepliesOn}

pub is_found : (rules : Rules) (moment : ℤ) (request : Request) (p q : List ℕ)
    (found slice : List (Option FoundApp)) (server text : List ℕ)
    → server ≡ rules.server → slice ≡ found
    → text ≡ found_text server request.apps slice moment
    → Grows IsEvent p q (FindsApps rules request.facts moment request.apps found)
    → RepliesOn rules moment request p text q
is_found rules moment request p q found slice server text named d t a =
    let N : List ℕ → List ℕ = λ z. found_text z request.apps slice moment in
    let F : List (Option FoundApp) → List ℕ = λ z.
    found_text rules.server request.apps z moment in
    record {
      events = a.events;
      legal = a.grown;
      replies = record {
        choices = a.of.choices;
        runs = a.of.runs;
        text_is = t ∙ ap N named ∙ ap F (d ∙ a.of.found_are);
      };
    }

module _ (rules : Rules) (moment : ℤ) (body old new : List ℕ) where
  -- for a request
  pub of_request : {A : Type 0} (request : Request) (r : Result (Vec ℕ A) OmahaFault)
      → request_in body ≡ Ok request
      → IfOk r (λ text. RepliesOn rules moment request old text.items new)
      → IfErr r (λ fault. fault ≡ Memory) → IsFoundReply rules moment body old new r
  of_request request (Ok text) requested replies memory = (request, requested, replies)
  of_request {A} request (Err fault) requested replies memory =
      let E : OmahaFault → Result (Vec ℕ A) OmahaFault = λ f. Err f in
      subst (λ (f : OmahaFault). IsFoundReply rules moment body old new (E f)) (sym memory) tt

  -- for a body that isn't one
  pub of_fault : (A : Type 0) (fault : OmahaFault)
      → (let read : Result Request OmahaFault = Err fault in
      read ≢ Err Memory → read ≡ request_in body) → new ≡ old
      → (let r : Result (Vec ℕ A) OmahaFault = Err fault in
      IsFoundReply rules moment body old new r)
  of_fault A Json reads same = (sym (reads (λ e. cc)), same)
  of_fault A Shape reads same = (sym (reads (λ e. cc)), same)
  of_fault A Protocol reads same = (sym (reads (λ e. cc)), same)
  of_fault A TooManyApps reads same = (sym (reads (λ e. cc)), same)
  of_fault A Memory reads same = tt
