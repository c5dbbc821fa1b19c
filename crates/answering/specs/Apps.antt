-- The runs of a request: which of its apps have one, with which choice, and all of them one after
-- the other.
use Rattle.std.specs.Prelude.{◌≡◌, ℕ, ℤ, ◌≤◌, false, true, List, [], ◌∷◌, ◌++◌, length, take, All}
use Rattle.std.specs.Prelude.{Option, Some, None}
use Rattle.attrs.specs.Facts.{attributes_of}
use Rattle.attrs.specs.declared.facts.AppFacts.{AppFacts}
use Rattle.attrs.specs.declared.facts.RequestFacts.{RequestFacts}
use Rattle.bpf_verify.specs.Covers.{AreLawful, HasPossibleReply}
use Rattle.bpf_semantics.specs.Run.{Ends}
use Rattle.bpf_semantics.specs.State.{opening}
use Rattle.cells.specs.declared.event.CellEvent.{CellEvent}
use Rattle.ruleset.specs.Rules.{AppRule, Rules, ListsApp, app_of, appid_of}
use Rattle.omaha_json.specs.Found.{FoundApp}
use Rattle.answering.specs.Found.{found_app, found_apps}

module _ (rules : Rules) (facts : RequestFacts) (moment : ℤ) where
  -- one app, with the choice of its run, if it has one, and the events that the run made
  pub data RunsApp (app : AppFacts) : Option ℕ → List CellEvent → Type 0 where
    -- no run if it requests no update
    no_updatecheck : app.updatecheck ≡ false → RunsApp app None []
    -- nor if the ruleset doesn't have it
    unknown : app_of rules app.appid ≡ None → RunsApp app None []
    -- otherwise one run to its end, on its attributes at the moment, of the program that the
    -- ruleset has for attribute 0, the appid. It takes at most as many instructions as the program
    -- has slots, and chooses 0 or one of the app's releases. Each reply fits its counter, and the
    -- app's arrays allow each event
    ran : {choice : ℕ} {events : List CellEvent} (known : AppRule) (count : ℕ)
        → app.updatecheck ≡ true → app_of rules app.appid ≡ Some known
        → ListsApp rules (appid_of (attributes_of app facts moment)) known
        → Ends known.program (opening (attributes_of app facts moment)) events choice count
        → count ≤ length known.program.code → choice ≤ length known.releases
        → All HasPossibleReply events → AreLawful known.program.shape events
        → RunsApp app (Some choice) events

  -- app after app, with their choices, and their events one after the other
  pub data RunsApps : List AppFacts → List (Option ℕ) → List CellEvent → Type 0 where
    none : RunsApps [] [] []
    then : {apps : List AppFacts} {choices : List (Option ℕ)} {before : List CellEvent}
        {app : AppFacts} {choice : Option ℕ} {events : List CellEvent}
        → RunsApps apps choices before → RunsApp app choice events
        → RunsApps (apps ++ app ∷ []) (choices ++ choice ∷ []) (before ++ events)

  -- the first few of these apps
  abbrev pub RunsFew : List AppFacts → List CellEvent → Type 0
  RunsFew apps events =
      (few : ℕ) × (choices : List (Option ℕ)) × RunsApps (take few apps) choices events

  -- what the ruleset has for an app, with the choice of its run, and the run's events
  pub record FindsApp (app : AppFacts) (found : Option FoundApp) (events : List CellEvent)
      : Type 0 where
    pub choice : Option ℕ
    pub runs : RunsApp app choice events
    pub found_is : found ≡ found_app rules facts app choice

  -- and for each app
  pub record FindsApps
      (apps : List AppFacts) (found : List (Option FoundApp)) (events : List CellEvent)
      : Type 0 where
    pub choices : List (Option ℕ)
    pub runs : RunsApps apps choices events
    pub found_are : found ≡ found_apps rules facts apps choices
