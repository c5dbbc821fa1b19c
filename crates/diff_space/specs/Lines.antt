-- The lines of dimensions: the least and the greatest number that a machine in a state can have.
use Rattle.std.specs.Prelude.{◌≡◌, ℕ, ◌+◌, ◌-◌, ◌^◌, ◌<◌, length, true, min, Bool, Option, Some}
use Rattle.std.specs.Prelude.{None, ◌==◌, slice_index, if◌then◌else◌}
use Rattle.diff_space.specs.declared.coordinate.Coordinate.{Coordinate}
use Rattle.diff_space.specs.declared.coordinate.Coordinate.TheVariants as coordinate
use Rattle.diff_space.specs.Coordinates.{Dimension}
use Rattle.diff_space.specs.Numbers.{are_rising}
use Rattle.diff_space.specs.Scopes.{Scope, most_takes}

abbrev pub low_in : Scope → Coordinate → ℕ
low_in x coordinate.Today = x.from_day
low_in x of = 0

-- the bucket numbers are 0 to 9999
abbrev pub last_remainder : (modulus : Option ℕ) → ℕ
last_remainder None = 9999
last_remainder (Some m) = if m == 0 then 9999 else min 9999 (m - 1)

-- days end with 9999-12-31; an unknown day of installation is 4294967295
abbrev pub high_in : Scope → Coordinate → (texts : ℕ) → ℕ
high_in x coordinate.Version texts = 2 ^ 128 - 1
high_in x coordinate.Today texts = 2919382
high_in x coordinate.Installed texts = 4294967295
high_in x (coordinate.Bucket salt modulus) texts = last_remainder modulus
high_in x (coordinate.Flag f) texts = 1
high_in x (coordinate.Text n) texts = texts
high_in x (coordinate.Takes array index) texts = most_takes x array index

-- each number of a flag or of texts is a cell
abbrev pub is_discrete : Coordinate → (cells last : ℕ) → Bool
is_discrete (coordinate.Flag f) cells last = cells == last + 1
is_discrete (coordinate.Text n) cells last = cells == last + 1
is_discrete of cells last = true

-- the cells begin with the least number, and continue to the greatest
pub record IsLine (x : Scope) (d : Dimension) : Type 0 where
  pub rises : are_rising d.last d.starts ≡ true
  pub few : length d.starts < 2 ^ 16
  pub first : slice_index d.starts 0 ≡ low_in x d.of
  pub last : d.last ≡ high_in x d.of (length d.texts)
  pub discrete : is_discrete d.of (length d.starts) d.last ≡ true
