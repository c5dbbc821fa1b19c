-- The lines of one more log are counted.
use Rattle.std.proofs.Common.{◌≡◌, ◌∙◌, refl, sym, subst, ℕ, ◌+◌, List, [], ◌∷◌, ◌++◌}
use Rattle.std.proofs.Common.{append_assoc, append-nil, flat_map, Option, arith}
use Rattle.std.proofs.Common.{Bool, ◌||◌, string_bytes}
use Rattle.std.specs.Option.{option_copied}
use Rattle.std.proofs.lemmas.Grind.{flat_map-append}
use Rattle.std.proofs.lemmas.List.{length-append}
use Rattle.std.proofs.lemmas.List.Concat.{flat_map-cons}
use Rattle.cli_logs.specs.Reports.{CountsLogs, HasReported, IsTextBy, IsTimeByClock}
use Rattle.cli_logs.specs.Reports.{IsTimeIf, kind_of}
use Rattle.cli_logs.specs.declared.report_form.ReportForm.{ReportForm}
use Rattle.cli_logs.specs.declared.reporting.ReportOutput.{ReportOutput}
use Rattle.jiff_core.specs.declared.timestamp.Timestamp.{Timestamp}
use Rattle.moments.specs.LogTimes.{IsTextOf}
use Rattle.moments.specs.declared.moment.NamedTime.{NamedTime}
use Rattle.report.specs.Counts.{Counts}
use Rattle.report.specs.Lines.{lines_after, lines_in}
use Rattle.report.specs.Reading.{AddsLines, CountsLines, ReadsLog}
use Rattle.report.specs.declared.counting.Report.{Report}
use Rattle.report.specs.declared.window.Window.{Window}
use Rattle.markup.specs.WellFormed.{HasPicture}
use Rattle.report_page.specs.Pages.{HasPage}

module _ (window : Window) where
  none_added : (r : Report) → AddsLines window [] r r
  unfolding AddsLines
  none_added r = refl

  counts_none : (r : Report) → CountsLines window [] r r
  counts_none r = record {
    adds = none_added r;
    extends = λ drawn before counted.
        subst (λ (lines : List (List ℕ)). Counts window lines drawn r) (sym (append-nil before))
        counted;
  }

  both_added : (xs ys : List (List ℕ)) (a b c : Report)
      → AddsLines window xs a b → AddsLines window ys b c → AddsLines window (xs ++ ys) a c
  unfolding AddsLines
  both_added [] ys a b c first last = subst (λ (r : Report). AddsLines window ys r c) first last
  both_added (x ∷ xs) ys a b c first last =
      (first.0, first.1, both_added xs ys first.0 b c first.2 last)

  counts_both : (xs ys : List (List ℕ)) (a b c : Report)
      → CountsLines window xs a b → CountsLines window ys b c → CountsLines window (xs ++ ys) a c
  counts_both xs ys a b c first last = record {
    adds = both_added xs ys a b c first.adds last.adds;
    extends = λ drawn before counted.
        subst (λ (lines : List (List ℕ)). Counts window lines drawn c) (append_assoc before xs ys)
        (last.extends drawn (before ++ xs) (first.extends drawn before counted));
  }

  pub no_logs : (r : Report) → CountsLogs window 0 r r
  no_logs r = record { logs = []; each = refl; counted = counts_none r }

  only : (log : List ℕ) → lines_in log ≡ flat_map lines_in (log ∷ [])
  only log = sym (flat_map-cons lines_in log [] ∙ append-nil (lines_in log))

  no_lines : lines_in [] ≡ []
  unfolding lines_after
  no_lines = refl

  -- a log of which nothing is read
  pub empty_log : (r : Report) → CountsLogs window 1 r r
  empty_log r = record {
    logs = [] ∷ [];
    each = refl;
    counted = subst (λ (lines : List (List ℕ)). CountsLines window lines r r)
        (sym no_lines ∙ only []) (counts_none r);
  }

  pub one_log : (known : Option (List ℕ)) (old new : Report) → ReadsLog window known old new
      → CountsLogs window 1 old new
  one_log known old new reads = record {
    logs = reads.bytes ∷ [];
    each = refl;
    counted = subst (λ (lines : List (List ℕ)). CountsLines window lines old new)
        (only reads.bytes) reads.counted;
  }

  pub more_logs : (n m : ℕ) (a b c : Report) → CountsLogs window n a b → CountsLogs window m b c
      → CountsLogs window (n + m) a c
  more_logs n m a b c first last = record {
    logs = first.logs ++ last.logs;
    each = omega (arith, length-append first.logs last.logs, first.each, last.each);
    counted = subst (λ (lines : List (List ℕ)). CountsLines window lines a c)
        (sym (flat_map-append lines_in first.logs last.logs))
        (counts_both (flat_map lines_in first.logs) (flat_map lines_in last.logs) a b c
        first.counted last.counted);
  }

pub by_clock : (now : Timestamp) (moment : NamedTime) (text : List ℕ)
    → IsTextOf now moment text → IsTimeByClock moment text
by_clock now moment text is = record { now = now; text_is = is }

pub has_reported : (n : ℕ) (since until : Option NamedTime) (form : ReportForm)
    (pictured paged : Bool) (output : ReportOutput) (window : Window) (start last : Report)
    → IsTimeIf since (option_copied window.since) → IsTimeIf until (option_copied window.until)
    → Counts window [] (pictured || paged) start → CountsLogs window n start last
    → IsTextBy form (kind_of since until) last (string_bytes output.text)
    → HasPicture pictured output.picture → HasPage paged output.page
    → HasReported n since until form pictured paged output
has_reported n since until form pictured paged output window start last from to none reads text
    picture page = record {
      window = window;
      window_is = record { since_is = from; until_is = to };
      logs = reads.logs;
      each = reads.each;
      report = last;
      counted = reads.counted.extends (pictured || paged) [] none;
      text_is = text;
      picture = picture;
      page = page;
    }
