-- A report that continues from a state.
use Rattle.std.proofs.Common.{ℕ, List, Option, None, Bool, string_bytes}
use Rattle.markup.specs.WellFormed.{HasPicture}
use Rattle.report.specs.declared.counting.Report.{Report}
use Rattle.report.specs.declared.metrics.MetricKind.TheVariants.{Counter}
use Rattle.report.specs.declared.window.Window.{Window}
use Rattle.report_page.specs.Pages.{HasPage}
use Rattle.report_state.specs.Places.{AreApart, KeepsApart, LogPlace}
use Rattle.report_state.specs.States.{SpellsCounts}
use Rattle.cli_logs.specs.Continued.{BeginsFrom, Continues, HasContinued, HasOutput}
use Rattle.cli_logs.specs.Reports.{CountsLogs, IsTextBy}
use Rattle.cli_logs.specs.declared.report_form.ReportForm.{ReportForm}
use Rattle.cli_logs.specs.declared.reporting.ReportOutput.{ReportOutput}

abbrev pub all_times : Window
all_times = record { since = None; until = None }

pub continues : (n : ℕ) (form : ReportForm) (begun report : Report) (text state : List ℕ)
    → CountsLogs all_times n begun report → IsTextBy form Counter report text
    → SpellsCounts state report → (old new : List LogPlace) → KeepsApart old new
    → Continues n form begun report old text
continues n form begun report text state reads text_is spelled old new kept = record {
  window = all_times;
  window_is = record { since_is = tt; until_is = tt };
  parts = reads.logs;
  each = reads.each;
  counted = reads.counted;
  text_is = text_is;
  new_state = state;
  spelled = spelled;
  new = new;
  kept = kept;
}

pub has_output : (n : ℕ) (form : ReportForm) (begun report : Report) (old : List LogPlace)
    (pictured paged : Bool) (output : ReportOutput)
    → Continues n form begun report old (string_bytes output.text)
    → HasPicture pictured output.picture → HasPage paged output.page
    → HasOutput n form begun old pictured paged output
has_output n form begun report old pictured paged output continues picture page = record {
  report = report;
  continues = continues;
  picture = picture;
  page = page;
}

pub has_continued : (n : ℕ) (form : ReportForm) (pictured paged : Bool) (output : ReportOutput)
    (state : Option (List ℕ)) (begun : Report) (old : List LogPlace) → BeginsFrom state begun
    → AreApart old → HasOutput n form begun old pictured paged output
    → HasContinued n form pictured paged output
has_continued n form pictured paged output state begun old begins apart continues = record {
  state = state;
  begun = begun;
  begins = begins;
  old = old;
  apart = apart;
  continues = continues;
}
