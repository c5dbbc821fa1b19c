-- How installs ended, by the events of a line's apps. The member `event` of an app is JSON, or a
-- prefix of it, so each outermost object that ends in it counts.
use Rattle.std.specs.Prelude.{ℕ, List, [], ◌∷◌, ◌++◌, codes, decimal}
use Rattle.std.specs.Prelude.{Bool, ◌&&◌, ◌||◌, if◌then◌else◌}
use Rattle.std.specs.Prelude.{Option, Some, None, option_and_then, unwrap_or}
use Rattle.serde_json.specs.Data.{Data}
use Rattle.json_value.specs.Bytes.{json_of}
use Rattle.report.specs.Tallies.{RowName, Notes}
use Rattle.report.specs.LogEvents.{is_number, number_in, text_in}
use Rattle.report.specs.Members.{AppMembers, LineMembers}
use Rattle.report.specs.Names.{two, three, course_name, if_holds, listed, text_or_mark}
use Rattle.report.specs.Objects.{JsonPlace, after_byte, closes_object, json_start}
use Rattle.report.specs.declared.question.EventQuestion.{EventQuestion}
use Rattle.report.specs.declared.question.EventQuestion.TheVariants.{Ended, Result, FailedTo}
use Rattle.report.specs.declared.question.EventQuestion.TheVariants.{FailedAt, EndedAt}
use Rattle.report.specs.declared.tally.Tally.{Tally}

-- ---- an event

-- an install or an update (Omaha 3.1)
abbrev pub is_install : Data → Bool
is_install event =
    is_number 2 (number_in (codes "eventtype") event)
    || is_number 3 (number_in (codes "eventtype") event)

-- the previous version in the event, or else the app's version
abbrev pub from_version : AppMembers → Data → List ℕ
from_version app event =
    unwrap_or (text_in (codes "previousversion") event)
    (text_or_mark app.version)

-- the next version in the event
abbrev pub to_version : Data → List ℕ
to_version event = text_or_mark (text_in (codes "nextversion") event)

-- from the previous version to the next one
abbrev pub install_name : AppMembers → List ℕ → Data → RowName
install_name app appid event = three appid (from_version app event) (to_version event)

-- 1 is a success and 0 a failure (Omaha 3.1)
abbrev pub result_text : Option ℕ → List ℕ
result_text (Some result) = decimal result
result_text None = codes "?"

abbrev pub result_name : AppMembers → List ℕ → Data → RowName
result_name app appid event =
    result_text (number_in (codes "eventresult") event) ++ codes "\t"
    ++ install_name app appid event

-- an install that failed
abbrev pub is_failure : Data → Bool
is_failure event =
    is_install event && is_number 0 (number_in (codes "eventresult") event)

abbrev pub event_name_of : EventQuestion → AppMembers → List ℕ → Data → RowName
event_name_of Ended app appid event = install_name app appid event
event_name_of Result app appid event = result_name app appid event
event_name_of FailedTo app appid event = two appid (to_version event)
event_name_of (FailedAt moment) app appid event =
    course_name (codes "failures") appid (to_version event) moment
event_name_of (EndedAt moment) app appid event =
    course_name (codes "installs") appid (to_version event) moment

-- whether the question is about this event
abbrev pub is_about : EventQuestion → Data → Bool
is_about Ended event = is_install event
is_about Result event = is_install event
is_about FailedTo event = is_failure event
is_about (FailedAt moment) event = is_failure event
is_about (EndedAt moment) event = is_install event

abbrev pub event_name : EventQuestion → AppMembers → List ℕ → Data → Option RowName
event_name question app appid event =
    if_holds (is_about question event) (event_name_of question app appid event)

-- ---- the events of an app, and of all apps of a line

-- the name of an object's bytes, if they are an event of the question
abbrev pub object_name : EventQuestion → AppMembers → List ℕ → List ℕ → Option RowName
object_name question app appid object =
    option_and_then (event_name question app appid) (json_of object)

-- the names of the object that the last byte ends, if it ends one
abbrev pub closed_names : EventQuestion → AppMembers → List ℕ → JsonPlace → JsonPlace → List RowName
closed_names question app appid before after =
    if closes_object before after then listed (object_name question app appid after.object) else []

-- the names of the objects that end in the rest of a text
unfoldable pub names_after : EventQuestion → AppMembers → List ℕ → JsonPlace → List ℕ → List RowName
names_after question app appid place [] = []
names_after question app appid place (b ∷ text) =
    closed_names question app appid place (after_byte place b)
    ++ names_after question app appid (after_byte place b) text

abbrev pub names_in_text : EventQuestion → AppMembers → List ℕ → List ℕ → List RowName
names_in_text question app appid text = names_after question app appid json_start text

-- adds the names of the object that this byte ends, whatever follows
pub record NotesByte (question : EventQuestion) (app : AppMembers) (appid : List ℕ) (b : ℕ)
    (before : JsonPlace) (old : Tally) (after : JsonPlace) (new : Tally) : Type 0 where
  pub extends : (text : List ℕ) (last : Tally)
      → Notes new last (names_after question app appid after text)
      → Notes old last (names_after question app appid before (b ∷ text))

abbrev pub names_in : EventQuestion → AppMembers → Option (List ℕ) → Option (List ℕ) → List RowName
names_in question app (Some appid) (Some text) = names_in_text question app appid text
names_in question app (Some appid) None = []
names_in question app None text = []

abbrev pub names_of_app : EventQuestion → AppMembers → List RowName
names_of_app question app = names_in question app app.appid app.event

abbrev pub names_of_events : EventQuestion → List AppMembers → List RowName
names_of_events question [] = []
names_of_events question (app ∷ apps) =
    names_of_app question app ++ names_of_events question apps

abbrev pub event_names : EventQuestion → LineMembers → List RowName
event_names question line = names_of_events question line.apps
