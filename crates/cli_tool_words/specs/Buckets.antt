-- A share of the 10000 buckets, as a word gives it.
use Rattle.std.specs.Prelude.{◌≡◌, ◌⊎◌, ◌++◌, ◌*◌, ℕ, Some, codes}
use Rattle.clap.specs.Words.{Text}
use Rattle.lexing.specs.Decimal.{decimal_within}

-- 25% is 2500 of them
pub record IsPercent (text : Text) (buckets : ℕ) : Type 0 where
  pub digits : Text
  pub percent : ℕ
  pub text_is : text ≡ digits ++ codes "%"
  pub digits_are : decimal_within 0 100 digits ≡ Some percent
  pub buckets_are : buckets ≡ percent * 100

-- their number, or their share in percent
abbrev pub GivesBuckets : Text → ℕ → Type 0
GivesBuckets text buckets = (decimal_within 0 10000 text ≡ Some buckets) ⊎ IsPercent text buckets
