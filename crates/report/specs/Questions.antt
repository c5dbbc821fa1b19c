-- The questions of a report. Each has a table, whose rows are the names that it counts.
use Rattle.std.specs.Prelude.{ℕ, List, [], ◌∷◌, codes, Bool, Option, Some, None, if◌then◌else◌}
use Rattle.std.specs.List.{AllZip}
use Rattle.std.specs.Str.{bytes_eq}
use Rattle.report.specs.Courses.{chart_names}
use Rattle.report.specs.Events.{event_names}
use Rattle.report.specs.Members.{LineMembers}
use Rattle.report.specs.Names.{app_names, line_names}
use Rattle.report.specs.Responses.{response_names}
use Rattle.report.specs.Tallies.{RowName, IsTally}
use Rattle.report.specs.declared.question.AppQuestion.TheVariants as of_app
use Rattle.report.specs.declared.question.ChartQuestion.TheVariants as of_chart
use Rattle.report.specs.declared.question.EventQuestion.TheVariants as of_event
use Rattle.report.specs.declared.question.LineQuestion.TheVariants as of_line
use Rattle.report.specs.declared.question.Question.{Question}
use Rattle.report.specs.declared.question.Question.TheVariants.{App, Chart, Event, Line, Responses}
use Rattle.report.specs.declared.tally.Tally.{Tally}

-- ---- what is counted

-- the names in a line; without a chart, no name is counted for it
abbrev pub names_of : (drawn : Bool) → Question → LineMembers → List RowName
names_of drawn (Line question) line = line_names question line
names_of drawn (App question) line = app_names question line
names_of drawn (Event question) line = event_names question line
names_of drawn Responses line = response_names line
names_of drawn (Chart question) line = if drawn then chart_names question line else []

-- the maximum number of rows
abbrev pub limit_of : Question → ℕ
limit_of (App of_app.Hour) = 4096
limit_of (App of_app.Bucket) = 65536
limit_of (Chart of_chart.ByMinute) = 65536
limit_of (Chart of_chart.ByHour) = 262144
limit_of _ = 256

-- each question's table counts these names
abbrev pub AreTallies : (Question → List RowName) → List Question → List Tally → Type 0
AreTallies names questions tallies =
    AllZip (λ question t. IsTally (limit_of question) (names question) t) questions tallies

-- ---- a table by its name

-- the name of a table, by which a state has it
abbrev pub member_of : Question → List ℕ
member_of (Line of_line.Kind) = codes "kinds"
member_of (Line of_line.Refusal) = codes "refusals"
member_of (Line of_line.Load) = codes "loads"
member_of (Line of_line.LoadDigest) = codes "load_digests"
member_of Responses = codes "responses"
member_of (App of_app.UpdateCheck) = codes "update_checks"
member_of (App of_app.Offered) = codes "offered"
member_of (App of_app.Unoffered) = codes "unoffered"
member_of (App of_app.Hour) = codes "hours"
member_of (App of_app.Bucket) = codes "buckets"
member_of (App of_app.Unknown) = codes "unknown"
member_of (App of_app.WithoutCohort) = codes "without_cohort"
member_of (App of_app.WithoutId) = codes "without_id"
member_of (App of_app.CutEvent) = codes "cut_events"
member_of (Event of_event.Ended) = codes "ended"
member_of (Event of_event.Result) = codes "results"
member_of (Chart of_chart.Versions) = codes "versions"
member_of (Chart of_chart.ByMinute) = codes "by_minute"
member_of (Chart of_chart.ByHour) = codes "by_hour"
member_of _ = []

abbrev pub tally_named : List ℕ → List Question → List Tally → Option Tally
tally_named name (question ∷ questions) (t ∷ tallies) =
    if bytes_eq (member_of question) name then Some t
    else tally_named name questions tallies
tally_named name questions tallies = None

-- ---- a table in the format of Prometheus

-- the labels of a name's texts
abbrev pub labels_of : Question → List (List ℕ)
labels_of (Line of_line.Kind) = codes "kind" ∷ []
labels_of (Line of_line.Refusal) = codes "status" ∷ codes "rule" ∷ []
labels_of (Line of_line.Load) = codes "time" ∷ codes "generation" ∷ codes "path" ∷ []
labels_of Responses = codes "status" ∷ []
labels_of (App of_app.Offered) = codes "app" ∷ codes "release" ∷ []
labels_of (App of_app.Hour) = codes "app" ∷ codes "hour" ∷ codes "version" ∷ []
labels_of (Event of_event.Result) =
    codes "result" ∷ codes "app" ∷ codes "from" ∷ codes "to" ∷ []
labels_of _ = codes "app" ∷ []

-- its metric, and what that is; some tables have none
abbrev pub metric_of : Question → List ℕ
metric_of (Line of_line.Kind) = codes "rollout_log_lines"
metric_of (Line of_line.Refusal) = codes "rollout_refusals"
metric_of Responses = codes "rollout_responses"
metric_of (App of_app.UpdateCheck) = codes "rollout_asks"
metric_of (App of_app.Offered) = codes "rollout_offers"
metric_of (App of_app.Unoffered) = codes "rollout_no_updates"
metric_of (App of_app.Unknown) = codes "rollout_unknown_apps"
metric_of (App of_app.WithoutCohort) = codes "rollout_without_cohort"
metric_of (App of_app.WithoutId) = codes "rollout_without_request_id"
metric_of (App of_app.CutEvent) = codes "rollout_cut_events"
metric_of (Event of_event.Result) = codes "rollout_installs"
metric_of _ = []

abbrev pub help_of : Question → List ℕ
help_of (Line of_line.Kind) = codes "Lines by kind."
help_of (Line of_line.Refusal) = codes "Requests that were refused."
help_of Responses = codes "Replies by status."
help_of (App of_app.UpdateCheck) = codes "Asks for an update."
help_of (App of_app.Offered) = codes "Asks that were offered a release."
help_of (App of_app.Unoffered) = codes "Asks that got none."
help_of (App of_app.Unknown) = codes "Asks for unknown apps."
help_of (App of_app.WithoutCohort) = codes "Clients without a cohort."
help_of (App of_app.WithoutId) = codes "Clients without a request id."
help_of (App of_app.CutEvent) = codes "Apps whose events are cut."
help_of (Event of_event.Result) = codes "Installs that ended, by result."
help_of _ = []
