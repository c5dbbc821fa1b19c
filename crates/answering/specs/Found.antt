-- What a ruleset has for the apps of a request, and the reply by the choices of their runs.
use Rattle.std.specs.Prelude.{ℕ, ℤ, List, [], ◌∷◌, Option, option_map}
use Rattle.attrs.specs.Bucket.{app_bucket}
use Rattle.attrs.specs.declared.facts.AppFacts.{AppFacts}
use Rattle.attrs.specs.declared.facts.RequestFacts.{RequestFacts}
use Rattle.ruleset.specs.Rules.{AppRule, Rules, app_of}
use Rattle.omaha_json.specs.Found.{FoundApp, found_with}
use Rattle.omaha_json.specs.Reply.{found_text}
use Rattle.omaha_json.specs.Request.{Request}

-- what is found for an app of the ruleset, with the bucket of the request's app
abbrev pub listed_app : RequestFacts → AppFacts → Option ℕ → AppRule → FoundApp
listed_app facts app choice known = found_with known.releases choice (app_bucket app facts)

-- what is found for an app; nothing if it isn't in the ruleset
abbrev pub found_app : Rules → RequestFacts → AppFacts → Option ℕ → Option FoundApp
found_app rules facts app choice =
    option_map (listed_app facts app choice) (app_of rules app.appid)

-- what is found for each app, with the choice of its run
abbrev pub found_apps
    : Rules → RequestFacts → List AppFacts → List (Option ℕ) → List (Option FoundApp)
found_apps rules facts (app ∷ apps) (choice ∷ choices) =
    found_app rules facts app choice ∷ found_apps rules facts apps choices
found_apps rules facts (app ∷ apps) [] = []
found_apps rules facts [] choices = []

-- the bytes of a reply under a ruleset. Each app's choice is that of its run, if one was made.
abbrev pub reply_text : Request → Rules → List (Option ℕ) → ℤ → List ℕ
reply_text request rules choices moment =
    found_text rules.server request.apps
    (found_apps rules request.facts request.apps choices) moment
