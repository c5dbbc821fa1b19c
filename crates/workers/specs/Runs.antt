-- The runs of a worker's answers: those of each request, app after app, each to its end.
use Rattle.std.specs.Prelude.{Bool, ℕ, ℤ, List, [], ◌∷◌, ◌++◌, Option, flat_map}
use Rattle.answering.specs.Answer.{RepliesTo, taken, rejected, Sends, sent, withheld}
use Rattle.answering.specs.Answer.{RepliesToBody, accepted, refused, unread}
use Rattle.answering.specs.Answer.{RepliesToRequest, replied, unowned, broken_off}
use Rattle.answering.specs.Apps.{RunsApp, RunsApps, no_updatecheck, unknown, ran, none}
use Rattle.answering.specs.Apps as apps
use Rattle.answering.specs.Reply.{HttpReply}
use Rattle.attrs.specs.Facts.{attributes_of}
use Rattle.attrs.specs.declared.facts.AppFacts.{AppFacts}
use Rattle.attrs.specs.declared.facts.RequestFacts.{RequestFacts}
use Rattle.cells.specs.declared.event.CellEvent.{CellEvent}
use Rattle.hot_swap.specs.Published.{KnownPrefix}
use Rattle.omaha_json.specs.Request.{Request}
use Rattle.thread_laws.specs.InTurn.{AreOfRuns}
use Rattle.thread_laws.specs.Runs.{AppRun, AtEnd}
use Rattle.ruleset.specs.Rules.{Rules}
use Rattle.workers.specs.Answers.{WorkerAnswer, AreInTurn, made_in_turn}

module _ (number : ℕ) (facts : RequestFacts) (moment : ℤ) where
  -- the runs for an app: none, or one, under the ruleset of this number, with the app's attributes
  -- at the moment
  abbrev pub runs_of_app : {rules : Rules} (app : AppFacts) {choice : Option ℕ}
      {events : List CellEvent} → RunsApp rules facts moment app choice events → List AppRun
  runs_of_app app (no_updatecheck is) = []
  runs_of_app app (unknown is) = []
  runs_of_app app (ran {choice = chosen} {events = made} known count
      asks found knows ends short below fits lawful) =
      let run : AppRun = record {
        number = number;
        program = known.program;
        attributes = attributes_of app facts moment;
        events = made;
        stage = AtEnd chosen count;
      } in
      run ∷ []

  -- the runs for the apps of a request, app after app
  abbrev pub runs_of_apps : {rules : Rules} {asking : List AppFacts} {choices : List (Option ℕ)}
      {events : List CellEvent} → RunsApps rules facts moment asking choices events → List AppRun
  runs_of_apps none = []
  runs_of_apps (apps.then {app = app} earlier one) = runs_of_apps earlier ++ runs_of_app app one

-- the runs for a request: the number of its ruleset is the generation
abbrev pub runs_of_request : {request : Request} {known : KnownPrefix} {moment : ℤ}
    {events : List CellEvent} {reply : HttpReply}
    → RepliesToRequest request known moment events reply → List AppRun
runs_of_request {request = request} {moment = moment} (replied {generation = generation} is runs) =
    runs_of_apps generation request.facts moment runs
runs_of_request unowned = []
runs_of_request {request = request} {moment = moment}
    (broken_off {generation = generation} is few) =
    runs_of_apps generation request.facts moment few.2

-- the runs for a body: none if it isn't a request
abbrev pub runs_of_body : {body : List ℕ} {known : KnownPrefix} {moment : ℤ}
    {events : List CellEvent} {reply : HttpReply}
    → RepliesToBody body known moment events reply → List AppRun
runs_of_body (accepted is replies) = runs_of_request replies
runs_of_body (refused fault is) = []
runs_of_body unread = []

-- the runs for a reply: none if no body was read
abbrev pub runs_of_reply : {input : Option (List ℕ)} {known : KnownPrefix} {moment : ℤ}
    {events : List CellEvent} {reply : HttpReply}
    → RepliesTo input known moment events reply → List AppRun
runs_of_reply (taken body is replies) = runs_of_body replies
runs_of_reply (rejected fault status is code) = []

-- the runs for what was sent: a reply that is withheld has those of the reply that was due
abbrev pub runs_of_sent : {withholds : Bool} {input : Option (List ℕ)} {known : KnownPrefix}
    {moment : ℤ} {events : List CellEvent} {reply : HttpReply}
    → Sends withholds (RepliesTo input known moment) events reply → List AppRun
runs_of_sent (sent replies) = runs_of_reply replies
runs_of_sent (withheld may replies) = runs_of_reply replies

-- the runs of answers, one after the other
abbrev pub runs_in_turn : {withholds : Bool} → List (WorkerAnswer withholds) → List AppRun
runs_in_turn = flat_map (λ answer. runs_of_sent answer.replies)

-- ---- the law

-- what answers in turn did to the counters is what their runs did; each run ended, under a ruleset
-- that the watcher knows after them
abbrev pub AnswersAreOfRuns : Type 0
AnswersAreOfRuns = (withholds : Bool) (from to : KnownPrefix)
    (answers : List (WorkerAnswer withholds)) → AreInTurn from answers to
    → AreOfRuns to.rulesets (runs_in_turn answers) (made_in_turn answers)
