-- The bins into which a log's time is divided: at most 200, of equal width. A number is a minute or
-- an hour since 1970.
use Rattle.std.specs.Prelude.{ℕ, ◌+◌, ◌-◌, ◌/◌, ◌<◌, ◌≤◌, List, [], ◌∷◌, ◌==◌, nat_le, nat_lt}
use Rattle.std.specs.Prelude.{Bool, false, option_and_then, sum_by, Option, Some, None}
use Rattle.std.specs.Prelude.{if◌then◌else◌, String, string_bytes, slice_index, slice_set}
use Rattle.std.specs.Prelude.{replicate}
use Rattle.std.specs.declared.alloc.Global.{Global}
use Rattle.report.specs.Tallies.{Rows}
use Rattle.timeline.specs.Marks.{Drawn, moment_of}
use Rattle.timeline.specs.declared.bins.Bins.{Bins}

-- there are at most 200 bins, and they end within 64 bits
pub record AreBins (bins : Bins) : Type 0 where
  pub wide : 0 < bins.width
  pub few : bins.count ≤ 200
  pub long : 0 < bins.span
  pub early : bins.start + bins.span ≤ 18446744073709551615

-- the index of a number's bin, from 0
abbrev pub bin_within : Bins → ℕ → Option ℕ
bin_within bins place = if nat_lt place bins.count then Some place else None

abbrev pub bin_at : Bins → ℕ → Option ℕ
bin_at bins number =
    if nat_le bins.first (number / bins.width)
    then bin_within bins (number / bins.width - bins.first) else None

-- the bin of a row's name, if the series includes it
abbrev pub bin_of : Bins → Drawn → List ℕ → Option ℕ
bin_of bins drawn name = option_and_then (bin_at bins) (moment_of drawn name)

-- ---- counts

abbrev pub is_place : ℕ → Option ℕ → Bool
is_place place (Some other) = other == place
is_place place None = false

-- how much a row adds to the series' count in a bin
abbrev pub count_at : Bins → Drawn → ℕ → String Global × ℕ → ℕ
count_at bins drawn place row =
    if is_place place (bin_of bins drawn (string_bytes row.0)) then row.1 else 0

abbrev pub count_in : Bins → Drawn → Rows → ℕ → ℕ
count_in bins drawn rows place = sum_by (count_at bins drawn place) rows

-- each number, plus the amount for its index
abbrev pub raised_from : (place : ℕ) → (ℕ → ℕ) → List ℕ → List ℕ
raised_from place more [] = []
raised_from place more (n ∷ numbers) =
    (n + more place) ∷ raised_from (place + 1) more numbers

-- the numbers, plus the counts of the series in the bins
abbrev pub raised : Bins → Drawn → Rows → List ℕ → List ℕ
raised bins drawn rows numbers = raised_from 0 (count_in bins drawn rows) numbers

-- zero for each bin, and then the counts of the series
abbrev pub no_counts : Bins → List ℕ
no_counts bins = replicate bins.count 0

abbrev pub counts_by_bin : Bins → Drawn → Rows → List ℕ
counts_by_bin bins drawn rows = raised bins drawn rows (no_counts bins)

-- adds one row to the number at its index, if it has one
abbrev pub raised_one : (place more : ℕ) → List ℕ → List ℕ
raised_one place more numbers =
    slice_set numbers place (slice_index numbers place + more)

abbrev pub raised_at : Option ℕ → ℕ → List ℕ → List ℕ
raised_at (Some place) more numbers = raised_one place more numbers
raised_at None more numbers = numbers
