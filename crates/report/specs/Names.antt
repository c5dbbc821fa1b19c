-- The names that a line counts under, by question. A name is one or more texts, with tabs between
-- them. Control characters in a text are escaped, so no text contains a tab.
use Rattle.std.specs.Prelude.{ℕ, List, [], ◌∷◌, ◌++◌, codes, decimal, Bool, true, false, ◌&&◌}
use Rattle.std.specs.Prelude.{Option, Some, None, is_some, option_and_then, unwrap_or}
use Rattle.std.specs.Prelude.{◌==◌, if◌then◌else◌}
use Rattle.std.specs.List.{before_first}
use Rattle.std.specs.Str.{byte}
use Rattle.printing.specs.Printed.{printed}
use Rattle.report.specs.Tallies.{RowName}
use Rattle.report.specs.LogEvents.{is_flag, is_number}
use Rattle.report.specs.Members.{AppMembers, LineMembers}
use Rattle.report.specs.Windows.{is_kind}
use Rattle.report.specs.declared.question.AppQuestion.{AppQuestion}
use Rattle.report.specs.declared.question.AppQuestion.TheVariants.{UpdateCheck, Offered, Unoffered}
use Rattle.report.specs.declared.question.AppQuestion.TheVariants.{Hour, Bucket, Unknown}
use Rattle.report.specs.declared.question.AppQuestion.TheVariants.{WithoutCohort, WithoutId}
use Rattle.report.specs.declared.question.AppQuestion.TheVariants.{CutEvent, UpdateCheckBy}
use Rattle.report.specs.declared.question.AppQuestion.TheVariants.{UpdateCheckAt}
use Rattle.report.specs.declared.question.AppQuestion.TheVariants.{OfferedAt}
use Rattle.report.specs.declared.question.LineQuestion.{LineQuestion}
use Rattle.report.specs.declared.question.LineQuestion.TheVariants.{Kind, Refusal, Load}
use Rattle.report.specs.declared.question.LineQuestion.TheVariants.{LoadDigest}

-- ---- names

abbrev pub one : List ℕ → RowName
one a = printed a

abbrev pub two : List ℕ → List ℕ → RowName
two a b = printed a ++ codes "\t" ++ printed b

abbrev pub three : List ℕ → List ℕ → List ℕ → RowName
three a b c = printed a ++ codes "\t" ++ printed b ++ codes "\t" ++ printed c

abbrev pub decimal_text : ℕ → List ℕ
decimal_text n = decimal n

-- the kind of count, the app, the version, and the minute or hour
abbrev pub course_name : List ℕ → List ℕ → List ℕ → ℕ → RowName
course_name what appid version moment =
    three what appid version ++ codes "\t" ++ decimal_text moment

abbrev pub if_holds : Bool → RowName → Option RowName
if_holds holds name = if holds then Some name else None

abbrev pub listed : Option RowName → List RowName
listed (Some name) = name ∷ []
listed None = []

-- ---- in an app

-- the whole reply was sent, with status 200
abbrev pub is_answered : LineMembers → Bool
is_answered line = is_number 200 line.status

-- a known app made an update check, and the whole reply was sent
abbrev pub has_update_check : LineMembers → AppMembers → Bool
has_update_check line app = is_answered line && is_some app.choice

abbrev pub has_no_update : LineMembers → AppMembers → Bool
has_no_update line app = is_answered line && is_number 0 app.choice

-- the server has no such app
abbrev pub is_unknown : AppMembers → Bool
is_unknown app = is_flag true app.unknown

-- the client's cohort named no bucket
abbrev pub is_unnamed : AppMembers → Bool
is_unnamed app = is_flag false app.named

-- the request has neither a request id nor a session id
abbrev pub is_without_id : LineMembers → Bool
is_without_id line = is_flag false line.id

-- and so its bucket isn't by chance
abbrev pub has_no_id : LineMembers → AppMembers → Bool
has_no_id line app = is_unnamed app && is_without_id line

-- a part of its event is left out
abbrev pub has_cut_event : AppMembers → Bool
has_cut_event app = is_some app.event_left_out

-- a question mark for a missing text
abbrev pub text_or_mark : Option (List ℕ) → List ℕ
text_or_mark text = unwrap_or text (codes "?")

abbrev pub is_colon : ℕ → Bool
is_colon b = b == byte ":"

-- the hour of a line's time, such as `2026-11-24T12`
abbrev pub hour_of : LineMembers → List ℕ
hour_of line = before_first is_colon (text_or_mark line.time)

abbrev pub version_or_mark : AppMembers → List ℕ
version_or_mark app = text_or_mark app.version

-- the release that the app was offered, or a mark
abbrev pub release_or_mark : AppMembers → List ℕ
release_or_mark app = text_or_mark app.release

-- a known app was offered a release, and the whole reply was sent
abbrev pub has_offer : LineMembers → AppMembers → Bool
has_offer line app = is_answered line && is_some app.release

-- an update check whose line has a bucket
abbrev pub has_bucket : LineMembers → AppMembers → Bool
has_bucket line app = has_update_check line app && is_some app.bucket

-- the app and its bucket
abbrev pub bucket_name : AppMembers → List ℕ → RowName
bucket_name app appid = two appid (decimal (unwrap_or app.bucket 0))

-- whether the question is about this app of the line
abbrev pub is_about_app : AppQuestion → LineMembers → AppMembers → Bool
is_about_app UpdateCheck line app = has_update_check line app
is_about_app Offered line app = has_offer line app
is_about_app Unoffered line app = has_no_update line app
is_about_app Hour line app = has_update_check line app
is_about_app Bucket line app = has_bucket line app
is_about_app Unknown line app = is_unknown app
is_about_app WithoutCohort line app = is_unnamed app
is_about_app WithoutId line app = has_no_id line app
is_about_app CutEvent line app = has_cut_event app
is_about_app UpdateCheckBy line app = has_update_check line app
is_about_app (UpdateCheckAt moment) line app = has_update_check line app
is_about_app (OfferedAt moment) line app = has_offer line app

-- the name of such an app
abbrev pub app_name_of : AppQuestion → LineMembers → AppMembers → List ℕ → RowName
app_name_of UpdateCheck line app appid = one appid
app_name_of Offered line app appid = two appid (release_or_mark app)
app_name_of Unoffered line app appid = one appid
app_name_of Hour line app appid = three appid (hour_of line) (version_or_mark app)
app_name_of Bucket line app appid = bucket_name app appid
app_name_of Unknown line app appid = one appid
app_name_of WithoutCohort line app appid = one appid
app_name_of WithoutId line app appid = one appid
app_name_of CutEvent line app appid = one appid
app_name_of UpdateCheckBy line app appid = two appid (version_or_mark app)
app_name_of (UpdateCheckAt moment) line app appid =
    course_name (codes "asks") appid (version_or_mark app) moment
app_name_of (OfferedAt moment) line app appid =
    course_name (codes "offers") appid (release_or_mark app) moment

abbrev pub named : AppQuestion → LineMembers → AppMembers → List ℕ → Option RowName
named question line app appid =
    if_holds (is_about_app question line app) (app_name_of question line app appid)

-- at most one name for each app
abbrev pub app_name : AppQuestion → LineMembers → AppMembers → Option RowName
app_name question line app =
    option_and_then (named question line app) app.appid

abbrev pub names_of_apps : AppQuestion → LineMembers → List AppMembers → List RowName
names_of_apps question line [] = []
names_of_apps question line (app ∷ apps) =
    listed (app_name question line app) ++ names_of_apps question line apps

abbrev pub app_names : AppQuestion → LineMembers → List RowName
app_names question line = names_of_apps question line line.apps

-- ---- in a line

-- such as `400`, or `none` if no whole reply was sent
abbrev pub status_text : Option ℕ → List ℕ
status_text (Some status) = decimal status
status_text None = codes "none"

abbrev pub refused : LineMembers → RowName
refused line =
    two (status_text line.status)
    (text_or_mark line.refusal)

-- the time, the generation and the path
abbrev pub loaded : LineMembers → RowName
loaded line =
    three (text_or_mark line.time)
    (decimal (unwrap_or line.generation 0))
    (text_or_mark line.path)

-- the time, the generation and the digest
abbrev pub loaded_digest : LineMembers → RowName
loaded_digest line =
    three (text_or_mark line.time)
    (decimal (unwrap_or line.generation 0))
    (text_or_mark line.digest)

-- whether the question is about this line: any with a kind, a connection that was refused, a
-- load that succeeded, or one whose digest is known
abbrev pub is_about_line : LineQuestion → LineMembers → Bool
is_about_line Kind line = is_some line.kind
is_about_line Refusal line =
    is_kind (codes "connection") line && is_some line.refusal
is_about_line Load line =
    is_kind (codes "load") line && is_some line.generation
is_about_line LoadDigest line =
    is_kind (codes "load") line && is_some line.generation && is_some line.digest

-- the name of such a line
abbrev pub line_name_of : LineQuestion → LineMembers → RowName
line_name_of Kind line = one (text_or_mark line.kind)
line_name_of Refusal line = refused line
line_name_of Load line = loaded line
line_name_of LoadDigest line = loaded_digest line

abbrev pub line_name : LineQuestion → LineMembers → Option RowName
line_name question line = if_holds (is_about_line question line) (line_name_of question line)

abbrev pub line_names : LineQuestion → LineMembers → List RowName
line_names question line = listed (line_name question line)

-- in a line, if it counts
abbrev pub names_if : (LineMembers → List RowName) → Option LineMembers → List RowName
names_if names (Some line) = names line
names_if names None = []
