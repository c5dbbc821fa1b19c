-- The rows that aren't between the names of a series add nothing to it.
use Rattle.std.proofs.Common.{◌≡◌, ◌≢◌, ◌∙◌, refl, sym, ap, ℕ, ◌+◌, arith, List, [], ◌∷◌}
use Rattle.std.proofs.Common.{Bool, true, false, Option, Some, None, String, string_bytes, sum_by}
use Rattle.std.specs.Prelude.{is_some, option_and_then, if◌then◌else◌}
use Rattle.std.specs.List.{filter}
use Rattle.std.specs.declared.alloc.Global.{Global}
use Rattle.std.proofs.lemmas.List.Sums.{sum_by-cons}
use Rattle.report.specs.Tallies.{Rows}
use Rattle.timeline.proofs.Raised.{same_raised}
use Rattle.timeline.specs.Bins.{bin_at, count_at, count_in, is_place, raised}
use Rattle.timeline.specs.Marks.{Drawn, count_if, drawn_count, moment_of}
use Rattle.timeline.specs.SeriesRows.{Encloses, is_between, rows_between}
use Rattle.timeline.specs.declared.bins.Bins.{Bins}
use Rattle.timeline.specs.declared.series_rows.SeriesNames.{SeriesNames}

sum_kept : (f : String Global × ℕ → ℕ) (keep : String Global × ℕ → Bool) (rows : Rows)
    → ((row : String Global × ℕ) → keep row ≡ false → f row ≡ 0)
    → sum_by f (filter keep rows) ≡ sum_by f rows
sum_kept f keep [] none = refl
sum_kept f keep (row ∷ rows) none = by (keep row) (none row) (sum_kept f keep rows none)
  where
    by : (b : Bool) → (b ≡ false → f row ≡ 0)
        → sum_by f (filter keep rows) ≡ sum_by f rows
        → sum_by f (if b then row ∷ filter keep rows else filter keep rows)
        ≡ sum_by f (row ∷ rows)
    by true zero rest = sum_by-cons f row (filter keep rows) ∙ ap (λ n. f row + n) rest
        ∙ sym (sum_by-cons f row rows)
    by false zero rest = omega (arith, rest, zero refl, sum_by-cons f row rows)

module _ (drawn : Drawn) (names : SeriesNames) (all : Encloses drawn names) where
  outside : (row : String Global × ℕ) → is_between names row.0 ≡ false
      → moment_of drawn (string_bytes row.0) ≡ None
  outside row out = by (moment_of drawn (string_bytes row.0)) (all.all row.0)
    where
      apart : true ≢ false
      apart same = cc

      by : (moment : Option ℕ) → (is_some moment ≡ true → is_between names row.0 ≡ true)
          → moment ≡ None
      by None between = refl
      by (Some n) between = absurd (apart (sym (between refl) ∙ out))

  pub count_kept : (rows : Rows)
      → drawn_count (rows_between names rows) drawn ≡ drawn_count rows drawn
  count_kept rows =
      sum_kept (count_if drawn) (λ (row : String Global × ℕ). is_between names row.0) rows
      (λ row out. ap (λ (o : Option ℕ). if is_some o then row.1 else 0) (outside row out))

  pub raised_kept : (bins : Bins) (rows : Rows) (numbers : List ℕ)
      → raised bins drawn (rows_between names rows) numbers ≡ raised bins drawn rows numbers
  raised_kept bins rows numbers =
      same_raised 0 (count_in bins drawn (rows_between names rows)) (count_in bins drawn rows)
      numbers
      (λ place past. sum_kept (count_at bins drawn place)
      (λ (row : String Global × ℕ). is_between names row.0) rows
      (λ row out. ap (λ (o : Option ℕ).
      if is_place place (option_and_then (bin_at bins) o) then row.1 else 0) (outside row out)))
