-- A report on logs. Nothing is known about the files of a device, so each log has some bytes. Nor
-- is anything known about its clock, so how long ago something is depends on some present time.
use Rattle.std.specs.Prelude.{◌≡◌, ℕ, List, Option, Some, None, length, flat_map, Bool, ◌||◌}
use Rattle.std.specs.Prelude.{string_bytes, true}
use Rattle.std.specs.Option.{option_copied}
use Rattle.jiff_core.specs.declared.timestamp.Timestamp.{Timestamp}
use Rattle.moments.specs.LogTimes.{IsTextOf}
use Rattle.moments.specs.declared.moment.NamedTime.{NamedTime}
use Rattle.report.specs.Counts.{Counts}
use Rattle.report.specs.Exposition.{exposition}
use Rattle.report.specs.Lines.{lines_in}
use Rattle.report.specs.Reading.{CountsLines}
use Rattle.report.specs.declared.counting.Report.{Report}
use Rattle.report.specs.declared.metrics.MetricKind.{MetricKind}
use Rattle.report.specs.declared.metrics.MetricKind.TheVariants.{Counter, Gauge}
use Rattle.report.specs.declared.window.Window.{Window}
use Rattle.markup.specs.WellFormed.{HasPicture}
use Rattle.report_page.specs.Pages.{HasPage}
use Rattle.cli_logs.specs.declared.report_form.ReportForm.{ReportForm}
use Rattle.cli_logs.specs.declared.reporting.ReportOutput.{ReportOutput}

-- the text of the moment's time, at some present time; a time by RFC 3339 depends on none
pub record IsTimeByClock (moment : NamedTime) (text : List ℕ) : Type 0 where
  pub now : Timestamp
  pub text_is : IsTextOf now moment text

abbrev pub IsTimeIf : Option NamedTime → Option (List ℕ) → Type 0
IsTimeIf (Some moment) (Some text) = IsTimeByClock moment text
IsTimeIf None None = Unit {0}
IsTimeIf moment text = ⊥

-- the window begins with the time of `since` and ends before that of `until`
pub record IsWindowOf (since until : Option NamedTime) (window : Window) : Type 0 where
  pub since_is : IsTimeIf since (option_copied window.since)
  pub until_is : IsTimeIf until (option_copied window.until)

-- the lines of `n` logs are counted, whatever was counted before
pub record CountsLogs (window : Window) (n : ℕ) (old new : Report) : Type 0 where
  pub logs : List (List ℕ)
  pub each : length logs ≡ n
  pub counted : CountsLines window (flat_map lines_in logs) old new

-- the text in Prometheus's format has these counts; no clause says how a screen looks
abbrev pub IsTextBy : ReportForm → MetricKind → Report → (text : List ℕ) → Type 0
IsTextBy form kind report text = form.prometheus ≡ true → text ≡ exposition kind report

-- in a window of time the counts go up and down
abbrev pub kind_of : (since until : Option NamedTime) → MetricKind
kind_of None None = Counter
kind_of since until = Gauge

-- the report that counts the lines of `n` logs, each from its first byte to its last
pub record HasReported (n : ℕ) (since until : Option NamedTime) (form : ReportForm)
    (pictured paged : Bool) (output : ReportOutput) : Type 0 where
  pub window : Window
  pub window_is : IsWindowOf since until window
  pub logs : List (List ℕ)
  pub each : length logs ≡ n
  pub report : Report
  pub counted : Counts window (flat_map lines_in logs) (pictured || paged) report
  pub text_is : IsTextBy form (kind_of since until) report (string_bytes output.text)
  pub picture : HasPicture pictured output.picture
  pub page : HasPage paged output.page
