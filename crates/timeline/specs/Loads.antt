-- The loads within the bins, and what a chart leaves out. The rows of loads have the time, the
-- generation and the path.
use Rattle.std.specs.Prelude.{ℕ, ◌+◌, ◌-◌, List, string_bytes, nat_lt, nat_le, ◌&&◌, Option, Some}
use Rattle.std.specs.Prelude.{None, option_and_then, String, is_none, sum_by, if◌then◌else◌}
use Rattle.std.specs.declared.alloc.Global.{Global}
use Rattle.moments.specs.Calendar.{minute_in}
use Rattle.report.specs.Exposition.{first}
use Rattle.report.specs.Tallies.{Rows}
use Rattle.report.specs.declared.tally.Tally.{Tally}
use Rattle.timeline.specs.declared.bins.Bins.{Bins}
use Rattle.timeline.specs.declared.picture.Undrawn.{Undrawn}

-- the minute of a load, if it is within the bins
abbrev pub minute_within : Bins → ℕ → Option ℕ
minute_within bins minute =
    if nat_le bins.start minute && nat_lt (minute - bins.start) bins.span then Some minute else None

abbrev pub load_minute : Bins → (name : List ℕ) → Option ℕ
load_minute bins name = option_and_then (minute_within bins) (minute_in (first name))

-- the number of loads outside the bins: for a name with its count, and for all rows
abbrev pub outside : Bins → List ℕ → ℕ → ℕ
outside bins name count = if is_none (load_minute bins name) then count else 0

abbrev pub count_outside : Bins → String Global × ℕ → ℕ
count_outside bins row = outside bins (string_bytes row.0) row.1

abbrev pub loads_outside : Bins → Rows → ℕ
loads_outside bins rows = sum_by (count_outside bins) rows

-- what a chart leaves out: counts without a row, update checks of apps after the first 256, and
-- loads after the first 256 or outside the bins
abbrev pub undrawn_of : (update_checks loads counts : Tally) → Bins → Undrawn
undrawn_of update_checks loads counts bins = record {
  counts = counts.others;
  asks = update_checks.others;
  loads = loads.others + loads_outside bins loads.rows.entries;
}
