-- Why the apps of logged requests get what they get.
use Rattle.std.specs.Prelude.{◌≡◌, ℕ, ℤ, List, [], ◌∷◌, ◌++◌, Option, Some, None, true, false}
use Rattle.cell_assignments.specs.Assignments.{Assignment}
use Rattle.dry_run.specs.Counters.{AreAssigned}
use Rattle.dry_run.specs.Why.{RunIsExplained}
use Rattle.json_value.specs.Bytes.{json_of}
use Rattle.load.specs.JudgedApps.{app_named}
use Rattle.load.specs.declared.judged.JudgedApp.{JudgedApp}
use Rattle.load.specs.declared.judged.JudgedManifest.{JudgedManifest}
use Rattle.printing.specs.Printed.{printed_lines}
use Rattle.serde_json.specs.Data.{Data}
use Rattle.why_log.specs.Requests.{Request, attributes_in, request_in}
use Rattle.why_log.specs.declared.finding.FoundLine.{FoundLine}
use Rattle.why_log.specs.declared.line_app.LineApp.{LineApp}

-- ---- an app

-- by the rule or the program that the manifest has for it, on counters with the values `old`, which
-- become `new`: the reasons, and more lines. Its attributes are exactly those of the line's facts
pub record ExplainsRun (known : JudgedApp) (moment : ℤ) (app : LineApp) (old new text : List ℕ)
    : Type 0 where
  pub choice : ℕ
  pub reasons : List ℕ
  pub run : RunIsExplained known (attributes_in app moment) old choice new reasons
  pub more : List ℕ
  pub text_is : text ≡ reasons ++ more

module _ (manifest : JudgedManifest) (moment : ℤ) where
  pub data ExplainsApp (app : LineApp) (old : List ℕ) : (new text : List ℕ) → Type 0 where
    -- the line has no choice, so nothing is run
    not_requested : {text : List ℕ} → app.facts.updatecheck ≡ false
        → ExplainsApp app old old text
    -- the manifest doesn't have the app
    unlisted : {text : List ℕ} → app_named manifest.apps.items app.facts.appid ≡ None
        → ExplainsApp app old old text
    was_run : {new text : List ℕ} (known : JudgedApp) → app.facts.updatecheck ≡ true
        → app_named manifest.apps.items app.facts.appid ≡ Some known
        → ExplainsRun known moment app old new text → ExplainsApp app old new text

  -- app after app
  pub data ExplainsApps : List LineApp → (old new text : List ℕ) → Type 0 where
    no_app : {old : List ℕ} → ExplainsApps [] old old []
    next_app : {app : LineApp} {apps : List LineApp} {old between new first rest : List ℕ}
        → ExplainsApp app old between first → ExplainsApps apps between new rest
        → ExplainsApps (app ∷ apps) old new (first ++ rest)

-- ---- a line, and several

-- on counters with the values `old`: a head, and then the lines of the request's apps
pub record ExplainsRequest (manifest : JudgedManifest) (old : List ℕ) (request : Request)
    (text : List ℕ) : Type 0 where
  pub left : List ℕ
  pub head : List ℕ
  pub lines : List ℕ
  pub apps : ExplainsApps manifest request.moment request.apps old left lines
  pub text_is : text ≡ head ++ lines

module _ (manifest : JudgedManifest) (old : List ℕ) where
  -- a line without a request has no lines
  abbrev pub ExplainsFound : Option Request → (text : List ℕ) → Type 0
  ExplainsFound (Some request) text = ExplainsRequest manifest old request text
  ExplainsFound None text = text ≡ []

  abbrev pub ExplainsEvent : Data → (text : List ℕ) → Type 0
  ExplainsEvent event text = ExplainsFound (request_in event) text

  abbrev pub ExplainsJson : Option Data → (text : List ℕ) → Type 0
  ExplainsJson (Some event) text = ExplainsEvent event text
  ExplainsJson None text = text ≡ []

-- one text after another, with their control characters escaped
abbrev pub IsPrintedAfter : (before text printed : List ℕ) → Type 0
IsPrintedAfter before text printed = printed ≡ printed_lines (before ++ text)

module _ (manifest : JudgedManifest) (served words : List Assignment) where
  -- the request of a line, on the given counters
  pub record ExplainsLine (line : FoundLine) (text : List ℕ) : Type 0 where
    pub counters : List ℕ
    pub set : AreAssigned manifest.directory served words counters
    pub explains : ExplainsJson manifest counters (json_of line.bytes.items) text

  -- line after line, each on the given counters
  pub data ExplainsLines : List FoundLine → (text : List ℕ) → Type 0 where
    no_line : ExplainsLines [] []
    next_line : {line : FoundLine} {lines : List FoundLine} {first rest : List ℕ}
        → ExplainsLine line first → ExplainsLines lines rest
        → ExplainsLines (line ∷ lines) (first ++ rest)

  -- as it is printed: no control character of a line reaches the terminal
  pub record IsExplanation (lines : List FoundLine) (text : List ℕ) : Type 0 where
    pub before : List ℕ
    pub explained : List ℕ
    pub each : ExplainsLines lines explained
    pub text_is : text ≡ printed_lines (before ++ explained)
