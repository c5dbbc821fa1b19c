-- The counts for a chart of a log over time: update checks, offers, ended installs and failed ones
-- of each version, by the minute and by the hour. The name of a version begins with its app. The
-- name of a moment is the kind of count, the app, the version, and the minute or hour since 1970.
use Rattle.std.specs.Prelude.{ℕ, ◌/◌, List, [], ◌++◌, Option, Some, None, option_and_then}
use Rattle.moments.specs.Calendar.{minute_in}
use Rattle.report.specs.Events.{event_names}
use Rattle.report.specs.Names.{app_names}
use Rattle.report.specs.Tallies.{RowName}
use Rattle.report.specs.Members.{LineMembers}
use Rattle.report.specs.declared.question.AppQuestion.{AppQuestion}
use Rattle.report.specs.declared.question.AppQuestion.TheVariants as of_app
use Rattle.report.specs.declared.question.ChartQuestion.{ChartQuestion}
use Rattle.report.specs.declared.question.ChartQuestion.TheVariants.{Versions, ByMinute, ByHour}
use Rattle.report.specs.declared.question.EventQuestion.{EventQuestion}
use Rattle.report.specs.declared.question.EventQuestion.TheVariants as of_event

-- the names of two questions about a line's apps and one about their events
abbrev pub three_names : AppQuestion → AppQuestion → EventQuestion → LineMembers → List RowName
three_names asks offers failures line =
    (app_names asks line ++ app_names offers line) ++ event_names failures line

-- the versions of update checks, offers and failures
abbrev pub version_names : LineMembers → List RowName
version_names line = three_names of_app.UpdateCheckBy of_app.Offered of_event.FailedTo line

-- the same with this moment, and the ended installs
abbrev pub names_in_moment : LineMembers → Option ℕ → List RowName
names_in_moment line (Some moment) =
    three_names (of_app.UpdateCheckAt moment) (of_app.OfferedAt moment)
    (of_event.FailedAt moment) line
    ++ event_names (of_event.EndedAt moment) line
names_in_moment line None = []

-- the minute of a line since 1970, or `None` if its time isn't one that a server writes
abbrev pub minute_of_line : LineMembers → Option ℕ
minute_of_line line = option_and_then minute_in line.time

abbrev pub hour_of_minute : Option ℕ → Option ℕ
hour_of_minute (Some minute) = Some (minute / 60)
hour_of_minute None = None

-- ---- the questions of a chart

abbrev pub chart_names : ChartQuestion → LineMembers → List RowName
chart_names Versions line = version_names line
chart_names ByMinute line = names_in_moment line (minute_of_line line)
chart_names ByHour line = names_in_moment line (hour_of_minute (minute_of_line line))
