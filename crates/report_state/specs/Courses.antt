-- The counts by the minute and by the hour that a state keeps for a page. A row's name has the kind
-- of count, the app, the version, and the minute or hour since 1970, with tabs between the four.
use Rattle.std.specs.Prelude.{◌≡◌, ℕ, ◌+◌, ◌≤◌, List, [], Bool, false, ◌&&◌, nat_le}
use Rattle.std.specs.Prelude.{Option, Some, None, if◌then◌else◌, sum_by, String, string_bytes}
use Rattle.std.specs.Prelude.{unwrap_or}
use Rattle.std.specs.BTreeMap.{get_by_text}
use Rattle.std.specs.Str.{bytes_eq}
use Rattle.std.specs.declared.alloc.Global.{Global}
use Rattle.lexing.specs.Decimal.{decimal_within}
use Rattle.report.specs.Counts.{GoesUp, tally_of}
use Rattle.report.specs.Exposition.{rest}
use Rattle.report.specs.Tallies.{IsTally, Rows, capped}
use Rattle.report.specs.declared.counting.Report.{Report}
use Rattle.report.specs.declared.question.ChartQuestion.TheVariants.{ByMinute, ByHour}
use Rattle.report.specs.declared.question.Question.TheVariants.{Chart}
use Rattle.report.specs.declared.tally.Tally.{Tally}
use Rattle.report_state.specs.declared.course.Course.{Course}
use Rattle.report_state.specs.declared.course.CourseRows.{CourseRows}

-- the minute or hour in a row's name, up to the end of the year 9999
abbrev pub moment_of : List ℕ → Option ℕ
moment_of name = decimal_within 0 4223371679 (rest (rest (rest name)))

abbrev pub is_since : ℕ → Option ℕ → Bool
is_since from (Some moment) = nat_le from moment
is_since from None = false

-- ---- sums

-- the count of a name, or 0
abbrev pub count_in : Tally → List ℕ → ℕ
count_in t name = unwrap_or (get_by_text t.rows name) 0

module _ (from : ℕ) where
  -- how much a row adds to the count of a name: nothing if its moment is before `from`
  abbrev pub adds : (name row : List ℕ) → ℕ → ℕ
  adds name row n = if is_since from (moment_of row) && bytes_eq row name then n else 0

  abbrev pub count_of : List ℕ → String Global × ℕ → ℕ
  count_of name row = adds name (string_bytes row.0) row.1

  abbrev pub total_of : List ℕ → Rows → ℕ
  total_of name rows = sum_by (count_of name) rows

  -- each name counts more by what the row adds to it
  abbrev pub AddsRow : List ℕ → ℕ → (old new : Tally) → Type 0
  AddsRow row n old new = (name : List ℕ)
      → GoesUp (count_in old name) (count_in new name) (adds name row n)

  -- and by what these rows add to it
  abbrev pub AddsRows : Rows → (old new : Tally) → Type 0
  AddsRows rows old new = (name : List ℕ)
      → GoesUp (count_in old name) (count_in new name) (total_of name rows)

abbrev pub rows_in : Option Tally → Rows
rows_in (Some t) = t.rows.entries
rows_in None = []

-- each count is the sum of those of both, up to the greatest 64-bit number
abbrev pub IsSum : (from : ℕ) → Rows → Option Tally → Tally → Type 0
IsSum from rows part sum = (name : List ℕ) → count_in sum name
    ≡ capped (total_of from name rows + total_of from name (rows_in part))

-- no counts
pub record AreNone (rows : CourseRows) : Type 0 where
  pub from : rows.from ≡ 0
  pub counts : IsTally 65536 [] rows.tally

-- the counts of both, from a moment on that never goes back
pub record Sums (old : CourseRows) (part : Option Tally) (new : CourseRows) : Type 0 where
  pub later : old.from ≤ new.from
  pub counts : IsSum new.from old.tally.rows.entries part new.tally

-- the counts so far, and those of a report on further lines
pub record Continues (old : Course) (part : Report) (new : Course) : Type 0 where
  pub minutes : Sums old.minutes (tally_of (Chart ByMinute) part) new.minutes
  pub hours : Sums old.hours (tally_of (Chart ByHour) part) new.hours
