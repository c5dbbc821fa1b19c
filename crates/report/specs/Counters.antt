-- The counters of a server in the text format of Prometheus, as they are printed after a report.
use Rattle.std.specs.Prelude.{ℕ, List, [], ◌++◌, codes, decimal}
use Rattle.std.specs.Prelude.{length, ◌==◌, if◌then◌else◌}
use Rattle.std.specs.List.{flat_map}
use Rattle.cell_assignments.specs.Assignments.{Assignment}
use Rattle.report.specs.Exposition.{head, label, sample}
use Rattle.report.specs.declared.metrics.MetricKind.TheVariants.{Gauge}

abbrev pub counter_metric : List ℕ
counter_metric = codes "rollout_counter_value"

abbrev pub counter_labels : Assignment → List ℕ
counter_labels c =
    label (codes "array") c.array ++ codes ",index=\"" ++ decimal c.index ++ codes "\""

-- a server's counters begin at 0, so they are a gauge
abbrev pub counter_sample : Assignment → List ℕ
counter_sample c = sample Gauge counter_metric (counter_labels c) c.value

abbrev pub counter_samples : List Assignment → List ℕ
counter_samples counters = flat_map counter_sample counters

-- empty without counters
abbrev pub counters_exposition : List Assignment → List ℕ
counters_exposition counters =
    if length counters == 0 then []
    else head Gauge counter_metric (codes "Values of the server's counters.")
    ++ counter_samples counters
