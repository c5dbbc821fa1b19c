-- The rows for a chart. Each name has the kind of count, the app, the version, and the minute or
-- hour since 1970, with tabs between the four.
use Rattle.std.specs.Prelude.{ℕ, List, Option, Some, None, option_and_then}
use Rattle.std.specs.Prelude.{is_some, option_copied, if◌then◌else◌, sum_by}
use Rattle.std.specs.Prelude.{String, string_bytes}
use Rattle.std.specs.Str.{bytes_eq}
use Rattle.std.specs.declared.alloc.Global.{Global}
use Rattle.lexing.specs.Decimal.{decimal_within}
use Rattle.report.specs.Exposition.{first, rest}
use Rattle.report.specs.Tallies.{Rows}
use Rattle.timeline.specs.declared.marks.Series.{Series}

-- ---- the texts of a name

-- the rest of the name, if its first text is this one
abbrev pub rest_after : List ℕ → List ℕ → Option (List ℕ)
rest_after text name = if bytes_eq (first name) text then Some (rest name) else None

-- the same for any first text, if `None` is given
abbrev pub rest_after_any : Option (List ℕ) → List ℕ → Option (List ℕ)
rest_after_any (Some text) name = rest_after text name
rest_after_any None name = Some (rest name)

-- ---- rows of a series

-- a series: the update checks, offers, installs or failures of an app, of one version or of all
pub record Drawn : Type 0 where
  pub what : List ℕ
  pub app : List ℕ
  pub version : Option (List ℕ)

abbrev pub drawn_by : Series → Drawn
drawn_by series = record {
  what = series.what.now;
  app = series.app.now;
  version = option_copied series.version;
}

-- the series of all versions of an app, and that of one version
abbrev pub of_all : (what app : List ℕ) → Drawn
of_all what app = record { what = what; app = app; version = None }

abbrev pub of_version : Drawn → (version : List ℕ) → Drawn
of_version drawn version =
    record { what = drawn.what; app = drawn.app; version = Some version }

-- the minute or hour of a text: at most the last minute of the year 9999
abbrev pub moment_in : List ℕ → Option ℕ
moment_in text = decimal_within 0 4223371679 text

-- the minute or hour of a name, if the series includes it
abbrev pub moment_of : Drawn → List ℕ → Option ℕ
moment_of drawn name =
    option_and_then (λ a. option_and_then (λ b. option_and_then moment_in
    (rest_after_any drawn.version b)) (rest_after drawn.app a)) (rest_after drawn.what name)

-- the count of a series: for a name with its count, and for all rows
abbrev pub count_if_named : Drawn → List ℕ → ℕ → ℕ
count_if_named drawn name count = if is_some (moment_of drawn name) then count else 0

abbrev pub count_if : Drawn → String Global × ℕ → ℕ
count_if drawn row = count_if_named drawn (string_bytes row.0) row.1

abbrev pub drawn_count : Rows → Drawn → ℕ
drawn_count rows drawn = sum_by (count_if drawn) rows
