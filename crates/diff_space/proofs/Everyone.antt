-- A group has a tuple with the cells of each machine.
use Rattle.std.proofs.Common.{◌≡◌, ℕ, ◌+◌, ◌^◌, ◌<◌, ◌≤◌, List, All, length, Option, Some, None}
use Rattle.std.proofs.Common.{Bool, true, not, refl, sym, ap, ap₂, subst, ◌∙◌, arith, add-one}
use Rattle.std.proofs.Common.{slice_get, is_some, unwrap_or, replicate}
use Rattle.std.specs.Prelude.{option_and_then, if◌then◌else◌}
use Rattle.std.specs.Str.{bytes_eq}
use Rattle.std.proofs.lemmas.List.Elements.{All-weaker}
use Rattle.std.proofs.lemmas.List.Sums.{prefix_len-le-length}
use Rattle.std.proofs.lemmas.Option.{same_Some}
use Rattle.attrs.specs.Attributes.{Attributes, kept_text}
use Rattle.attrs.specs.Bucket.{cohort_bucket, named_bucket, hashed_bucket}
use Rattle.attrs.specs.Facts.{app_version, attributes_of}
use Rattle.attrs.specs.declared.facts.AppFacts.{AppFacts}
use Rattle.diff_space.specs.declared.coordinate.Coordinate.{Coordinate}
use Rattle.diff_space.specs.declared.coordinate.Coordinate.TheVariants as coordinate
use Rattle.diff_space.specs.declared.family.Family.{Family}
use Rattle.diff_space.specs.declared.family.GroupKind.{GroupKind}
use Rattle.diff_space.specs.declared.family.GroupKind.TheVariants as kind
use Rattle.diff_space.specs.Coordinates.{Dimension, begin_of, number_in, index_or_count, place_of}
use Rattle.diff_space.specs.Families.{AreFew, IsMadeOf, combination, count_by_line, is_possible_as}
use Rattle.diff_space.specs.Families.{if_version, is_version, line_at, texts_at}
use Rattle.diff_space.specs.Fits.{cohort_fits, version_fits}
use Rattle.diff_space.specs.Groups.{Group, HasTuple, IsGroup, cells_at}
use Rattle.diff_space.specs.Lines.{IsLine}
use Rattle.diff_space.specs.Machines.{State}
use Rattle.diff_space.specs.Numbers.{cell_at, version_number}
use Rattle.diff_space.specs.Scopes.{IsWithin, Scope}
use Rattle.diff_space.proofs.Cells.{IsAt}
use Rattle.diff_space.proofs.Cohorts.{kept_names}
use Rattle.diff_space.proofs.Fitting.{cohort_ok, version_ok}
use Rattle.diff_space.proofs.Flags.{has_flags, is_set}
use Rattle.diff_space.proofs.Ranges.{at_cell}
use Rattle.diff_space.proofs.Tests.{all_at}
use Rattle.diff_space.proofs.Combinations.{bit_of, cells_are, number_at, text_in}

versioned : (d e : Dimension) (of : Coordinate) → if_version d of ≡ Some e
    → (d ≡ e) × (of ≡ coordinate.Version)
versioned d e coordinate.Version is = (same_Some d e is, refl)
versioned d e of is = absurd cc

module _ (x : Scope) (ds : List Dimension) (lines : All (IsLine x) ds) (a : Attributes) (g : State)
    (is : IsWithin x a g) where
  abbrev v : ℕ
  v = version_number a.context.version

  -- the version's number is in its cell of the line
  abbrev IsLined : Option Dimension → Type 0
  IsLined None = Unit {0}
  IsLined (Some d) = IsAt d.starts v (cell_at d.starts v)

  of_version : (d : Dimension) → d.of ≡ coordinate.Version → IsLine x d
      → IsAt d.starts v (cell_at d.starts v)
  of_version d of line =
      subst (λ (c : Coordinate). IsAt d.starts (number_in c d.texts a g)
      (cell_at d.starts (number_in c d.texts a g))) of (at_cell x a g is d line)

  lined_by : (o : Option Dimension) (place : ℕ) → slice_get ds place ≡ o
      → IsLined (option_and_then (λ d. if_version d d.of) o)
  lined_by None place at = tt
  lined_by (Some d) place at = by d.of refl
    where
      by : (of : Coordinate) → d.of ≡ of → IsLined (if_version d of)
      by coordinate.Version same =
          of_version d same (all_at (IsLine x) ds place d at lines)
      by of same = tt

  lined : (line : Option ℕ) → IsLined (line_at ds line)
  lined None = tt
  lined (Some place) = lined_by (slice_get ds place) place refl

  below_count : (o : Option Dimension) → IsLined o → number_at kind.Version o a < count_by_line o
  below_count None h = omega arith
  below_count (Some d) h = h.is_cell

  count_ok : (k : GroupKind) (line : Option ℕ)
      → number_at k (line_at ds line) a
      < (if is_version k then count_by_line (line_at ds line) else 10000)
  count_ok kind.Version line = below_count (line_at ds line) (lined line)
  count_ok kind.Bucket line = is.machine.ranges.bucket

  abbrev app : AppFacts
  app = is.machine.app

  abbrev made : a ≡ attributes_of is.machine.app is.machine.request is.machine.moment
  made = is.machine.is_made

  version_is : a.context.version ≡ unwrap_or (app_version app) (replicate 4 0)
  version_is = ap (λ (b : Attributes). b.context.version) made

  text_is : text_in kind.Version a ≡ kept_text app.version
  text_is = ap (text_in kind.Version) made

  cohort_is : text_in kind.Bucket a ≡ kept_text app.cohort
  cohort_is = ap (text_in kind.Bucket) made

  bucket_is : a.context.bucket ≡ unwrap_or (named_bucket app) (hashed_bucket is.machine.request)
  bucket_is = ap (λ (b : Attributes). b.context.bucket) made

  names_is : cohort_bucket (text_in kind.Bucket a) ≡ named_bucket app
  names_is = ap cohort_bucket cohort_is ∙ kept_names app.cohort

  version_fits_at : (texts : List (List ℕ)) (low : ℕ) (high : Option ℕ) → low ≤ v
      → ((next : ℕ) → high ≡ Some next → v < next)
      → version_fits (slice_get texts (index_or_count texts (text_in kind.Version a)))
      (is_set a.context.flags 1) low high ≡ true
  version_fits_at texts low high from to =
      let number = ap version_number version_is in
      ap₂
      (λ (t : List ℕ) (k : Bool). version_fits (slice_get texts (index_or_count texts t)) k
      low high)
      text_is (has_flags app is.machine.request is.machine.moment a made).version
      ∙ version_ok app.version low high (subst (λ (n : ℕ). low ≤ n) number from)
      (λ next there. subst (λ (n : ℕ). n < next) number (to next there)) texts

  bucket_named : (b : ℕ) → cohort_bucket (text_in kind.Bucket a) ≡ Some b → a.context.bucket ≡ b
  bucket_named b names =
      bucket_is
      ∙ ap (λ (o : Option ℕ). unwrap_or o (hashed_bucket is.machine.request)) (sym names_is ∙ names)

  possible : (k : GroupKind) (line : Option Dimension) → IsLined line → (texts : List (List ℕ))
      → is_possible_as k line texts (combination (number_at k line a)
      (is_set a.context.flags (bit_of k)) (index_or_count texts (text_in k a))) ≡ true
  possible kind.Version None h texts =
      version_fits_at texts 0 None (omega arith) (λ next none. absurd cc)
  possible kind.Version (Some d) h texts =
      version_fits_at texts (begin_of d (cell_at d.starts v))
      (slice_get d.starts (cell_at d.starts v + 1))
      h.begin
      (λ next there. h.end next
      (ap (slice_get d.starts) (sym (add-one (cell_at d.starts v))) ∙ there))
  possible kind.Bucket line h texts =
      let cohort = text_in kind.Bucket a in
      ap (λ (k : Bool). cohort_fits texts (slice_get texts (index_or_count texts cohort)) k
      a.context.bucket)
      ((has_flags app is.machine.request is.machine.moment a made).cohort
      ∙ ap is_some (sym names_is))
      ∙ cohort_ok texts cohort a.context.bucket bucket_named

  everyone_at : (f : Family) (group : Group) → IsMadeOf f ds group
      → HasTuple group (cells_at (place_of ds a g) group.dimensions)
  everyone_at f group h =
      let line = line_at ds f.line in
      let texts = texts_at ds f.text in
      subst (HasTuple group) (cells_are f ds a g group.dimensions h.members)
      ((h.has (number_at f.kind line a) (count_ok f.kind f.line)
      (index_or_count texts (text_in f.kind a))
      (prefix_len-le-length (λ (t : List ℕ). not (bytes_eq t (text_in f.kind a))) texts)
      (is_set a.context.flags (bit_of f.kind))).tuple (possible f.kind line (lined f.line) texts))

few : (x : Scope) (ds : List Dimension) → All (IsLine x) ds → AreFew ds
few x ds lines = record {
  each =
      All-weaker (IsLine x) (λ (d : Dimension). length d.starts < 2 ^ 16) (λ d line. line.few) ds
      lines;
}

pub everyone : (f : Family) (ds : List Dimension) (group : Group) (x : Scope)
    → (AreFew ds → IsMadeOf f ds group) → All (IsLine x) ds → IsGroup (IsWithin x) ds group
everyone f ds group x made lines a g is =
    everyone_at x ds lines a g is f group (made (few x ds lines))
