-- A report that continues from a state. Nothing is known about the files of a device, so the state
-- and each log have some bytes.
use Rattle.std.specs.Prelude.{◌≡◌, ℕ, List, [], Option, Some, None, length, flat_map, false}
use Rattle.std.specs.Prelude.{Bool, IfSome, string_bytes, unwrap_or}
use Rattle.std.specs.Option.{option_or}
use Rattle.markup.specs.WellFormed.{HasPicture}
use Rattle.report.specs.Counts.{Counts}
use Rattle.report.specs.Lines.{lines_in}
use Rattle.report.specs.Reading.{CountsLines}
use Rattle.report.specs.declared.counting.Report.{Report}
use Rattle.report.specs.declared.metrics.MetricKind.TheVariants.{Counter}
use Rattle.report.specs.declared.window.Window.{Window}
use Rattle.report_page.specs.Pages.{HasPage}
use Rattle.report_state.specs.Places.{AreApart, KeepsApart, LogPlace}
use Rattle.report_state.specs.States.{SpellsCounts}
use Rattle.cli_logs.specs.Reports.{IsTextBy, IsWindowOf}
use Rattle.cli_logs.specs.declared.report_form.ReportForm.{ReportForm}
use Rattle.cli_logs.specs.declared.reporting.ReportOutput.{ReportOutput}

-- the counts that the state's bytes spell; without a state, no line is counted
abbrev pub BeginsFrom : Option (List ℕ) → Report → Type 0
BeginsFrom None r = (window : Window) → Counts window [] false r
BeginsFrom (Some bytes) r = SpellsCounts bytes r

-- the bytes, if there are any, spell these counts
abbrev pub IsSpelledBy : Option (List ℕ) → Report → Type 0
IsSpelledBy known r = IfSome known (λ bytes. SpellsCounts bytes r)

-- the bytes of a state after a call: those that it writes, or else those that it found
abbrev pub state_after : (written found : Option (List ℕ)) → List ℕ
state_after written found = unwrap_or (option_or written found) []

-- The report that counts what `begun` counted, and then the lines of a part of each of `n` logs.
-- The new state spells it. Its places are `old` after these parts, up to 1000 unless more logs are
-- named.
pub record Continues (n : ℕ) (form : ReportForm) (begun report : Report) (old : List LogPlace)
    (text : List ℕ) : Type 0 where
  pub window : Window
  pub window_is : IsWindowOf None None window
  pub parts : List (List ℕ)
  pub each : length parts ≡ n
  pub counted : CountsLines window (flat_map lines_in parts) begun report
  pub text_is : IsTextBy form Counter report text
  pub new_state : List ℕ
  pub spelled : SpellsCounts new_state report
  pub new : List LogPlace
  pub kept : KeepsApart old new

-- its text, and the picture and the page, if they are drawn
pub record HasOutput (n : ℕ) (form : ReportForm) (begun : Report) (old : List LogPlace)
    (pictured paged : Bool) (output : ReportOutput) : Type 0 where
  pub report : Report
  pub continues : Continues n form begun report old (string_bytes output.text)
  pub picture : HasPicture pictured output.picture
  pub page : HasPage paged output.page

-- it begins from a state
pub record HasContinued (n : ℕ) (form : ReportForm) (pictured paged : Bool)
    (output : ReportOutput) : Type 0 where
  pub state : Option (List ℕ)
  pub begun : Report
  pub begins : BeginsFrom state begun
  pub old : List LogPlace
  pub apart : AreApart old
  pub continues : HasOutput n form begun old pictured paged output
