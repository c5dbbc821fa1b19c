-- The events of answers are those of their runs: for an app, for all apps of a request, for an
-- answer, and for successive answers.
use Rattle.std.proofs.Common.{◌≡◌, ℕ, ◌≤◌, List, [], ◌∷◌, length}
use Rattle.std.proofs.Common.{Bool, true, false, Option, Some, None}
use Rattle.std.proofs.Common.{refl, sym, ap, subst, ◌∙◌, arith, append-nil}
use Rattle.std.specs.Prelude.{ℤ, nat_le, if◌then◌else◌, slice_get}
use Rattle.std.specs.List.{last_or}
use Rattle.std.proofs.lemmas.Bool.Decides.{nat_tests}
use Rattle.std.proofs.lemmas.List.Elements.{All-cons, All-nil, All-from_recursion}
use Rattle.answering.specs.Answer.{RepliesTo, RepliesToBody, RepliesToRequest, taken, rejected}
use Rattle.answering.specs.Answer.{Sends, sent, withheld}
use Rattle.answering.specs.Answer.{replied, unowned, broken_off, accepted, refused, unread}
use Rattle.answering.specs.Apps.{RunsApp, RunsApps, no_updatecheck, unknown, ran, none}
use Rattle.answering.specs.Apps as apps
use Rattle.answering.specs.Reply.{HttpReply}
use Rattle.attrs.specs.Attributes.{AreShort, kept_text}
use Rattle.attrs.specs.Facts.{attributes_of, texts_of}
use Rattle.attrs.specs.declared.facts.AppFacts.{AppFacts}
use Rattle.attrs.specs.declared.facts.RequestFacts.{RequestFacts}
use Rattle.cells.specs.declared.event.CellEvent.{CellEvent}
use Rattle.thread_laws.specs.InTurn.{AreOfRuns, NoneAreOfRuns, OfRunsAppend, OfRunsStay}
use Rattle.thread_laws.specs.Runs.{AppRun, IsWholeRun, AtEnd}
use Rattle.world.specs.World.{ruleset_at, HasProgram}
use Rattle.hot_swap.specs.Published.{KnownPrefix, Extends, IsLatest, HasLast}
use Rattle.omaha_json.specs.Request.{Request}
use Rattle.ruleset.specs.Rules.{Rules, appid_of}
use Rattle.workers.proofs.Turns.{turns_go_onwards}
use Rattle.workers.specs.Answers.{made_in_turn}
use Rattle.workers.specs.Runs.{AnswersAreOfRuns, runs_in_turn, runs_of_app, runs_of_apps}
use Rattle.workers.specs.Runs.{runs_of_body, runs_of_reply, runs_of_request, runs_of_sent}

-- the laws of successive runs, from the crate below
pub record Laws : Type 0 where
  pub nothing : NoneAreOfRuns
  pub append : OfRunsAppend
  pub stay : OfRunsStay

-- ---- the last ruleset of a list has its length as its number

last_got : (other : Option Rules) (first : Rules) (rest : List Rules) (rules : Rules)
    → last_or other (first ∷ rest) ≡ Some rules
    → slice_get (first ∷ rest) (length rest) ≡ Some rules
last_got other first [] rules is = is
last_got other first (next ∷ rest) rules is = last_got (Some first) next rest rules is

last_at : (rulesets : List Rules) (rules : Rules) → HasLast rulesets rules
    → ruleset_at rulesets (length rulesets) ≡ Some rules
last_at [] rules is = absurd cc
last_at (first ∷ rest) rules is = last_got None first rest rules is

-- ---- attributes

kept_short : (text : Option (List ℕ)) → length (kept_text text) ≤ 1024
kept_short None = omega arith
kept_short (Some text) = by (nat_le (length text) 1024) refl
  where
    by : (b : Bool) → nat_le (length text) 1024 ≡ b → length (if b then text else []) ≤ 1024
    by true is = grind (arith, nat_tests)
    by false is = omega arith

texts_are_short : (app : AppFacts) (facts : RequestFacts) → AreShort (texts_of app facts)
texts_are_short app facts =
    All-from_recursion (λ (text : List ℕ). length text ≤ 1024) (texts_of app facts) (
      kept_short (Some app.appid),
      (
        kept_short app.version,
        (
          kept_short app.brand,
          (
            kept_short app.ap,
            (
              kept_short app.lang,
              (kept_short app.cohort, (kept_short facts.platform, tt)),
            ),
          ),
        ),
      ),
    )

-- ---- runs

module _ (law : Laws) (published : List Rules) (number : ℕ) (rules : Rules)
    (listed : ruleset_at published number ≡ Some rules) (facts : RequestFacts) (moment : ℤ) where
  of_app : (app : AppFacts) (choice : Option ℕ) (events : List CellEvent)
      (one : RunsApp rules facts moment app choice events)
      → AreOfRuns published (runs_of_app number facts moment app one) events
  of_app app choice events (no_updatecheck is) = law.nothing published
  of_app app choice events (unknown is) = law.nothing published
  of_app app choice events (ran {choice = chosen} known count
      asks found knows ends short few fits lawful) =
      let run : AppRun = record {
        number = number;
        program = known.program;
        attributes = attributes_of app facts moment;
        events = events;
        stage = AtEnd chosen count;
      } in
      let offered : HasProgram published number (appid_of run.attributes) run.program = record {
        app = known;
        has = record { rules = rules; ruleset_is = listed; known = knows };
        program_is = refl;
      } in
      let whole : IsWholeRun published run = record {
        under = record {
          offered = offered;
          texts_are_short = texts_are_short app facts;
          comes = ends;
        };
        choice = chosen;
        instructions = count;
        ended = refl;
        safe = record { offered = offered; release = few; short = short };
      } in
      record {
        each = All-cons (IsWholeRun published) run [] whole (All-nil (IsWholeRun published));
        events_are = sym (append-nil events);
      }

  of_apps : (asking : List AppFacts) (choices : List (Option ℕ)) (events : List CellEvent)
      (all : RunsApps rules facts moment asking choices events)
      → AreOfRuns published (runs_of_apps number facts moment all) events
  of_apps asking choices events none = law.nothing published
  of_apps asking choices events
      (apps.then {apps = earlier} {choices = chosen} {before = before} {app = app}
      {choice = choice} {events = made} few one) =
      law.append published (runs_of_apps number facts moment few)
      (runs_of_app number facts moment app one) before made
      (of_apps earlier chosen before few) (of_app app choice made one)

-- ---- one answer

module _ (law : Laws) (watcher : KnownPrefix) (moment : ℤ) where
  listed_as : (generation : ℕ) (rules : Rules) → IsLatest watcher generation rules
      → ruleset_at watcher.rulesets generation ≡ Some rules
  listed_as generation rules is =
      ap (ruleset_at watcher.rulesets) is.generation_is
      ∙ last_at watcher.rulesets rules is.rules_are

  of_request : (request : Request) (events : List CellEvent) (reply : HttpReply)
      (replies : RepliesToRequest request watcher moment events reply)
      → AreOfRuns watcher.rulesets (runs_of_request replies) events
  of_request request events reply
      (replied {generation = g} {rules = rules} {choices = cs} is made) =
      of_apps law watcher.rulesets g rules (listed_as g rules is) request.facts moment
      request.apps cs events made
  of_request request events reply unowned = law.nothing watcher.rulesets
  of_request request events reply (broken_off {generation = g} {rules = rules} is few) =
      of_apps law watcher.rulesets g rules (listed_as g rules is) request.facts moment _ few.1
      events few.2

  of_body : (body : List ℕ) (events : List CellEvent) (reply : HttpReply)
      (replies : RepliesToBody body watcher moment events reply)
      → AreOfRuns watcher.rulesets (runs_of_body replies) events
  of_body body events reply (accepted {request = request} is replies) =
      of_request request events reply replies
  of_body body events reply (refused fault is) = law.nothing watcher.rulesets
  of_body body events reply unread = law.nothing watcher.rulesets

  of_reply : (input : Option (List ℕ)) (events : List CellEvent) (reply : HttpReply)
      (replies : RepliesTo input watcher moment events reply)
      → AreOfRuns watcher.rulesets (runs_of_reply replies) events
  of_reply input events reply (taken body is replies) = of_body body events reply replies
  of_reply input events reply (rejected fault status is code) = law.nothing watcher.rulesets

  of_sent : (withholds : Bool) (input : Option (List ℕ)) (events : List CellEvent)
      (reply : HttpReply) (was_sent : Sends withholds (RepliesTo input watcher moment) events reply)
      → AreOfRuns watcher.rulesets (runs_of_sent was_sent) events
  of_sent withholds input events reply (sent replies) = of_reply input events reply replies
  of_sent withholds input events reply (withheld may replies) = of_reply input events _ replies

-- ---- one answer after the other

runs_stay : OfRunsStay → (v w : KnownPrefix) (runs : List AppRun) (events : List CellEvent)
    → Extends v w → AreOfRuns v.rulesets runs events → AreOfRuns w.rulesets runs events
runs_stay stay v w runs events goes of =
    subst (λ (l : List Rules). AreOfRuns l runs events) goes.onwards.1
    (stay v.rulesets goes.onwards.0 runs events of)

pub answers_are_of_runs : Laws → AnswersAreOfRuns
answers_are_of_runs law withholds from to [] turn = law.nothing to.rulesets
answers_are_of_runs law withholds from to (a ∷ later) turn =
    let runs = runs_of_sent a.replies in
    let goes = turns_go_onwards withholds a.known to later turn.1 in
    law.append to.rulesets runs (runs_in_turn later) a.events (made_in_turn later)
    (runs_stay law.stay a.known to runs a.events goes
    (of_sent law a.known a.moment withholds None a.events a.reply a.replies))
    (answers_are_of_runs law withholds a.known to later turn.1)
