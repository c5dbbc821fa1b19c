-- A report in the text format of Prometheus: for each metric its help and type, and then its
-- samples, a line each, with labels.
use Rattle.std.specs.Prelude.{ℕ, List, [], ◌∷◌, ◌++◌, codes, decimal, encode_utf8, string_bytes}
use Rattle.std.specs.Prelude.{Bool, length, ◌==◌, if◌then◌else◌}
use Rattle.std.specs.List.{after_first, before_first, flat_map}
use Rattle.std.specs.Str.{byte, chars}
use Rattle.report.specs.Questions.{help_of, labels_of, metric_of}
use Rattle.report.specs.declared.counting.Report.{Report}
use Rattle.report.specs.declared.question.LineQuestion.TheVariants.{Kind}
use Rattle.report.specs.declared.question.Question.{Question}
use Rattle.report.specs.declared.question.Question.TheVariants.{Line, Responses}
use Rattle.report.specs.declared.question.TheConstants.{QUESTIONS}
use Rattle.report.specs.declared.metrics.MetricKind.{MetricKind}
use Rattle.report.specs.declared.metrics.MetricKind.TheVariants.{Counter, Gauge}
use Rattle.report.specs.declared.tally.Tally.{Tally}
use Rattle.report.specs.Tallies.{Rows}

-- a value's quotes and backslashes are escaped; a name has no line feed
abbrev pub value_char : ℕ → List ℕ
value_char c =
    if c == 34 then codes "\\\"" else if c == 92 then codes "\\\\" else encode_utf8 c

abbrev pub value_text : List ℕ → List ℕ
value_text text = flat_map value_char (chars text)

-- a label with its value
abbrev pub label : List ℕ → List ℕ → List ℕ
label name value = name ++ codes "=\"" ++ value_text value ++ codes "\""

abbrev pub is_tab : ℕ → Bool
is_tab b = b == byte "\t"

-- the first text of a name, and the rest
abbrev pub first : List ℕ → List ℕ
first name = before_first is_tab name

abbrev pub rest : List ℕ → List ℕ
rest name = after_first is_tab name

-- a label for each of a name's texts
abbrev pub labels_text : List (List ℕ) → List ℕ → List ℕ
labels_text [] name = []
labels_text (last ∷ []) name = label last name
labels_text (one ∷ other ∷ more) name =
    label one (first name) ++ codes "," ++ labels_text (other ∷ more) (rest name)

-- ---- metrics

-- the name of a counter ends in `_total`
abbrev pub suffix_of : MetricKind → List ℕ
suffix_of Counter = codes "_total"
suffix_of Gauge = []

abbrev pub type_of : MetricKind → List ℕ
type_of Counter = codes "counter"
type_of Gauge = codes "gauge"

module _ (kind : MetricKind) where
  unfoldable pub metric_name : List ℕ → List ℕ
  metric_name metric = metric ++ suffix_of kind

  abbrev pub help_line : List ℕ → List ℕ → List ℕ
  help_line metric help =
      codes "# HELP " ++ metric_name metric ++ codes " " ++ help ++ codes "\n"

  abbrev pub head : List ℕ → List ℕ → List ℕ
  head metric help =
      help_line metric help ++ codes "# TYPE " ++ metric_name metric ++ codes " " ++ type_of kind
      ++ codes "\n"

  unfoldable pub number_metric : List ℕ → List ℕ → ℕ → List ℕ
  number_metric metric help n =
      head metric help ++ metric_name metric ++ codes " " ++ decimal n ++ codes "\n"

  -- the same in seconds, of a number of microseconds
  unfoldable pub seconds_metric : List ℕ → List ℕ → ℕ → List ℕ
  seconds_metric metric help microseconds =
      head metric help ++ metric_name metric ++ codes " " ++ decimal microseconds ++ codes "e-6\n"

  abbrev pub sample : List ℕ → List ℕ → ℕ → List ℕ
  sample metric labels n =
      metric_name metric ++ codes "{" ++ labels ++ codes "} " ++ decimal n ++ codes "\n"

  abbrev pub samples : List ℕ → List (List ℕ) → Rows → List ℕ
  samples metric labels [] = []
  samples metric labels (entry ∷ rows) =
      sample metric (labels_text labels (string_bytes entry.0)) entry.1
      ++ samples metric labels rows

  -- the names without a row, by a label that no name has
  abbrev pub other_sample : List ℕ → ℕ → List ℕ
  other_sample metric n =
      if n == 0 then [] else sample metric (label (codes "others") (codes "true")) n

  abbrev pub metric : List ℕ → List ℕ → List (List ℕ) → Tally → List ℕ
  metric name help labels t =
      head name help ++ samples name labels t.rows.entries ++ other_sample name t.others

  -- a table's metric, if it has one
  unfoldable pub metric_text : Question → Tally → List ℕ
  metric_text question t =
      if length (metric_of question) == 0 then []
      else metric (metric_of question) (help_of question) (labels_of question) t

-- ---- the report

-- a maximum isn't a counter: lines that were counted may be counted no more
abbrev pub longest_wait : Report → List ℕ
longest_wait r =
    seconds_metric Gauge (codes "rollout_longest_wait_seconds")
    (codes "Longest wait of a client.") r.longest_wait

module _ (kind : MetricKind) where
  abbrev pub numbers : Report → List ℕ
  numbers r =
      number_metric kind (codes "rollout_log_foreign_lines") (codes "Lines not the server's.")
      r.foreign
      ++ number_metric kind (codes "rollout_log_lost_lines") (codes "Lines that the log lost.")
      r.lost
      ++ number_metric kind (codes "rollout_apps_left_out") (codes "Apps that lines leave out.")
      r.left_out
      ++ number_metric kind (codes "rollout_offers_left_out") (codes "Offers among these.")
      r.offers_left_out

  -- the numbers of lines come after the lines by kind, and the longest wait after the replies
  abbrev pub numbers_after : Question → Report → List ℕ
  numbers_after (Line Kind) r = numbers r
  numbers_after Responses r = longest_wait r
  numbers_after _ r = []

  abbrev pub metrics : Report → List Question → List Tally → List ℕ
  metrics r (question ∷ questions) (t ∷ tallies) =
      metric_text kind question t ++ numbers_after question r ++ metrics r questions tallies
  metrics r questions tallies = []

  abbrev pub exposition : Report → List ℕ
  exposition r = metrics r QUESTIONS r.tallies.items
