-- The number of a machine in a state lies on the line of its dimension, and in its cell.
use Rattle.std.proofs.Common.{◌≡◌, ℕ, ◌+◌, ◌-◌, ◌/◌, ◌%◌, ◌<◌, ◌≤◌, ℤ, pos, negsuc, List, []}
use Rattle.std.proofs.Common.{length, min, Option, Some, None, Bool, true, false, not, inl, inr}
use Rattle.std.proofs.Common.{refl, sym, ap, subst, ◌∙◌, arith, add-one, eq-eqb, ne_eqb}
use Rattle.std.specs.Prelude.{slice_get, slice_index, slice_index_or, bit_and, ◌==◌, if◌then◌else◌}
use Rattle.std.specs.Str.{bytes_eq}
use Rattle.std.proofs.Math.Nat.{mod-le}
use Rattle.std.proofs.lemmas.Bool.{cases_eq}
use Rattle.std.proofs.lemmas.List.Sums.{prefix_len-le-length}
use Rattle.attrs.specs.Attributes.{Attributes}
use Rattle.attrs.specs.Helpers.{bucket_of}
use Rattle.attrs.specs.Moment.{elapsed, elapsed_days}
use Rattle.attrs.specs.Vocabulary.{attribute_number, flag_bit}
use Rattle.rule_lang.specs.Meaning.{bucket_by, remainder}
use Rattle.diff_space.specs.declared.coordinate.Coordinate.{Coordinate}
use Rattle.diff_space.specs.declared.coordinate.Coordinate.TheVariants as coordinate
use Rattle.diff_space.specs.Coordinates.{Dimension, cell_in, last_before, number_in, number_of}
use Rattle.diff_space.specs.Lines.{IsLine, high_in, last_remainder, low_in}
use Rattle.diff_space.specs.Machines.{State, declared}
use Rattle.diff_space.specs.Plans.{IsInCell}
use Rattle.diff_space.specs.Scopes.{IsWithin, Scope}
use Rattle.diff_space.proofs.Cells.{IsAt, is_at}
use Rattle.diff_space.proofs.Versions.{number_within}

-- ---- days

within_days : (n : ℕ) → n ≤ 252234691199 → n / 86400 ≤ 2919382
within_days n h = omega arith

elapsed_within : (moment : ℤ) → elapsed moment ≤ 252234691199
elapsed_within (pos second) = omega arith
elapsed_within (negsuc second) = omega arith

day_within : (moment : ℤ) → elapsed_days moment ≤ 2919382
day_within moment = within_days (elapsed moment) (elapsed_within moment)

-- ---- buckets

salted_within : (n : ℕ) → n % 10000 < 10000
salted_within n = omega arith

bucket_within : (a : Attributes) (salt : Option ℕ) → a.context.bucket < 10000
    → bucket_by a salt ≤ 9999
bucket_within a None below = omega arith
bucket_within a (Some salt) below =
    let range : bucket_of a salt < 10000 = salted_within _ in omega arith

remainder_within : (modulus : Option ℕ) (n : ℕ) → n ≤ 9999
    → remainder modulus n ≤ last_remainder modulus
remainder_within None n within = within
remainder_within (Some m) n within = elim (cases_eq m 0) [
  | inl none ↦ by true (eq-eqb m 0 none) (let less = mod-le n m in omega arith)
  | inr some ↦ by false (ne_eqb m 0 some)
      (let less = mod-le n m in let below : n % m < m = omega arith in omega arith)
]
  where
    by : (b : Bool) → (m == 0) ≡ b → n % m ≤ (if b then 9999 else min 9999 (m - 1))
        → n % m ≤ last_remainder (Some m)
    by b is h = subst (λ (c : Bool). n % m ≤ (if c then 9999 else min 9999 (m - 1))) (sym is) h

flag_within : (b : Bool) → (if b then 0 else 1) ≤ 1
flag_within true = omega arith
flag_within false = omega arith

-- ---- the line

module _ (x : Scope) (a : Attributes) (g : State) (is : IsWithin x a g) where
  from_low : (of : Coordinate) (texts : List (List ℕ)) → low_in x of ≤ number_in of texts a g
  from_low coordinate.Today texts = is.machine.late
  from_low coordinate.Version texts = omega arith
  from_low of texts = omega arith

  to_high : (of : Coordinate) (texts : List (List ℕ))
      → number_in of texts a g ≤ high_in x of (length texts)
  to_high coordinate.Version texts =
      number_within a.context.version is.machine.ranges.version
  to_high coordinate.Today texts =
      subst (λ (b : Attributes). b.context.today ≤ 2919382) (sym is.machine.is_made)
      (day_within is.machine.moment)
  to_high coordinate.Installed texts = let bound = is.machine.ranges.install_day in omega arith
  to_high (coordinate.Bucket salt modulus) texts =
      remainder_within modulus (bucket_by a salt) (bucket_within a salt is.machine.ranges.bucket)
  to_high (coordinate.Flag f) texts = flag_within (bit_and a.context.flags (flag_bit f) == 0)
  to_high (coordinate.Text n) texts =
      prefix_len-le-length
      (λ (t : List ℕ). not (bytes_eq t (slice_index_or a.texts (attribute_number n) []))) texts
  to_high (coordinate.Takes array index) texts = is.left (declared array) index

  module _ (d : Dimension) (line : IsLine x d) where
    pub from_first : slice_index d.starts 0 ≤ number_of d a g
    from_first =
        subst (λ (n : ℕ). n ≤ number_of d a g) (sym line.first) (from_low d.of d.texts)

    pub to_last : number_of d a g ≤ d.last
    to_last = subst (λ (n : ℕ). number_of d a g ≤ n) (sym line.last) (to_high d.of d.texts)

    pub at_cell : IsAt d.starts (number_of d a g) (cell_in d a g)
    at_cell = is_at d.last (number_of d a g) d.starts line.rises from_first

-- ---- its cell

before_next : (n last : ℕ) (o : Option ℕ) → n ≤ last
    → ((next : ℕ) → o ≡ Some next → n < next) → n ≤ last_before o last
before_next n last None high before = high
before_next n last (Some next) high before = let below = before next refl in omega arith

pub in_cell : (x : Scope) (d : Dimension) (a : Attributes) (g : State) → IsLine x d
    → IsWithin x a g → IsInCell d (cell_in d a g) (number_of d a g)
in_cell x d a g line is =
    let at = at_cell x a g is d line in record {
      from = at.begin;
      to = before_next (number_of d a g) d.last (slice_get d.starts (cell_in d a g + 1))
          (to_last x a g is d line)
          (λ next there. at.end next
          (ap (slice_get d.starts) (sym (add-one (cell_in d a g))) ∙ there));
    }
