-- Why the apps of a request get what they get: for each app its choice, and how it is made, on the
-- counters as the apps before it leave them.
use Rattle.std.specs.Prelude.{◌≡◌, ℕ, ℤ, List, [], ◌∷◌, ◌++◌, Option, Some, None, Ok, false}
use Rattle.attrs.specs.Attributes.{Attributes}
use Rattle.attrs.specs.Facts.{attributes_of}
use Rattle.attrs.specs.declared.facts.AppFacts.{AppFacts}
use Rattle.attrs.specs.declared.facts.RequestFacts.{RequestFacts}
use Rattle.answering.specs.Apps.{RunsApp}
use Rattle.answering.specs.Found.{reply_text}
use Rattle.omaha_json.specs.Request.{Request, request_in}
use Rattle.load.specs.JudgedApps.{app_named, rules_of}
use Rattle.load.specs.declared.judged.JudgedApp.{JudgedApp}
use Rattle.load.specs.declared.judged.JudgedManifest.{JudgedManifest}
use Rattle.cell_assignments.specs.Assignments.{Assignment}
use Rattle.dry_run.specs.Counters.{AreAssigned}
use Rattle.dry_run.specs.Courses.{ExplainsCourse, PrintsCourse}
use Rattle.dry_run.specs.OnCounters.{RepliesOnCounters}
use Rattle.dry_run.specs.declared.app_runs.ChoiceCourse.{ChoiceCourse}
use Rattle.dry_run.specs.declared.why_files.OpenedWhy.{OpenedWhy}

-- the lines of an app that the ruleset runs, with the choice of that run
pub record RunIsExplained (known : JudgedApp) (a : Attributes) (old : List ℕ) (choice : ℕ)
    (new text : List ℕ) : Type 0 where
  pub course : ChoiceCourse
  pub course_is : ExplainsCourse known.program known.rule a old choice new course
  pub prints : PrintsCourse course text

module _ (manifest : JudgedManifest) (facts : RequestFacts) (moment : ℤ) where
  -- the lines of an app that the ruleset runs, for the run by which the app is answered
  pub record ExplainsRun (app : AppFacts) (old : List ℕ) (choice : ℕ) (new text : List ℕ)
      : Type 0 where
    pub known : JudgedApp
    pub found : app_named manifest.apps.items app.appid ≡ Some known
    pub course : ChoiceCourse
    pub course_is : ExplainsCourse known.program known.rule (attributes_of app facts moment) old
        choice new course
    pub runs : RunsApp (rules_of manifest) facts moment app (Some choice) course_is.run.events
    pub prints : PrintsCourse course text

  -- the lines of an app, with the choice of its run, if it has one
  pub data ExplainsApp (app : AppFacts) (old : List ℕ) : Option ℕ → (new text : List ℕ)
      → Type 0 where
    -- the ruleset doesn't know it
    unlisted : {text : List ℕ} → app_named manifest.apps.items app.appid ≡ None
        → ExplainsApp app old None old text
    -- the ruleset knows it, and the app requests no update
    not_requested : {text : List ℕ} (known : JudgedApp)
        → app_named manifest.apps.items app.appid ≡ Some known → app.updatecheck ≡ false
        → ExplainsApp app old None old text
    -- the ruleset runs it
    was_run : {choice : ℕ} {new text : List ℕ} → ExplainsRun app old choice new text
        → ExplainsApp app old (Some choice) new text

  -- app after app
  pub data ExplainsApps (old : List ℕ) : (apps : List AppFacts) → (choices : List (Option ℕ))
      → (new text : List ℕ) → Type 0 where
    no_reason : ExplainsApps old [] [] old []
    next_reason : {apps : List AppFacts} {choices : List (Option ℕ)} {between before : List ℕ}
        {app : AppFacts} {choice : Option ℕ} {new text : List ℕ}
        → ExplainsApps old apps choices between before
        → ExplainsApp app between choice new text
        → ExplainsApps old (apps ++ app ∷ []) (choices ++ choice ∷ []) new (before ++ text)

  -- with some choice
  abbrev pub ExplainsOne : AppFacts → (old new text : List ℕ) → Type 0
  ExplainsOne app old new text = (choice : Option ℕ) × ExplainsApp app old choice new text

  -- with some choices
  abbrev pub ExplainsAll : (old : List ℕ) → List AppFacts → (new text : List ℕ) → Type 0
  ExplainsAll old apps new text =
      (choices : List (Option ℕ)) × ExplainsApps old apps choices new text

  -- after the lines of the request itself
  abbrev pub ExplainsRequest : (old : List ℕ) → List AppFacts → (new text : List ℕ) → Type 0
  ExplainsRequest old apps new text =
      (front : List ℕ) × (lines : List ℕ) × ExplainsAll old apps new lines
      × (text ≡ front ++ lines)

-- the explanation of the request that a body is, at a moment, on the counters that a server and the
-- command line gave
pub record IsWhyText (o : OpenedWhy) (moment : ℤ) (served words : List Assignment) (text : List ℕ)
    : Type 0 where
  pub counters : List ℕ
  pub set : AreAssigned o.manifest.directory served words counters
  pub request : Request
  pub requested : request_in o.body.items ≡ Ok request
  pub choices : List (Option ℕ)
  pub left : List ℕ
  pub front : List ℕ
  pub lines : List ℕ
  pub reasons : ExplainsApps o.manifest request.facts moment counters request.apps choices left
      lines
  pub text_is : text ≡ front ++ lines

-- the choices in the explanation are those of the reply
abbrev pub ExplainsReply : Type 0
ExplainsReply = (o : OpenedWhy) (moment : ℤ) (served words : List Assignment) (text reply : List ℕ)
    (shown_text : IsWhyText o moment served words text)
    → RepliesOnCounters (rules_of o.manifest) o.manifest.directory o.body.items moment served words
    reply
    → reply ≡ reply_text shown_text.request (rules_of o.manifest) shown_text.choices moment
