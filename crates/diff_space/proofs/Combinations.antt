-- The combination of a machine has the machine's cells.
use Rattle.std.proofs.Common.{◌≡◌, ℕ, List, [], ◌∷◌, All, Option, Some, None, Bool, true, false}
use Rattle.std.proofs.Common.{not, ◌&&◌, refl, sym, ap, ap₂, ◌∙◌, slice_get, unwrap_or, option_map}
use Rattle.std.proofs.Common.{eqb-true}
use Rattle.std.specs.Prelude.{slice_index, slice_index_or, option_and_then, bit_and, ◌==◌}
use Rattle.std.specs.Prelude.{if◌then◌else◌}
use Rattle.std.proofs.lemmas.List.Elements.{All-head, All-tail}
use Rattle.std.proofs.lemmas.Option.{slice_get-map, unwrap_or-slice_get}
use Rattle.attrs.specs.Attributes.{Attributes, plain}
use Rattle.attrs.specs.Vocabulary.{attribute_number, flag_bit}
use Rattle.attrs.specs.declared.vocabulary.Attribute.{Attribute}
use Rattle.attrs.specs.declared.vocabulary.Attribute.TheVariants as attribute
use Rattle.attrs.specs.declared.vocabulary.Flag.{Flag}
use Rattle.attrs.specs.declared.vocabulary.Flag.TheVariants as flag
use Rattle.rule_lang.specs.Meaning.{bucket_by, remainder}
use Rattle.diff_space.specs.declared.combination.Combination.{Combination}
use Rattle.diff_space.specs.declared.coordinate.Coordinate.{Coordinate}
use Rattle.diff_space.specs.declared.coordinate.Coordinate.TheVariants as coordinate
use Rattle.diff_space.specs.declared.family.Family.{Family}
use Rattle.diff_space.specs.declared.family.GroupKind.{GroupKind}
use Rattle.diff_space.specs.declared.family.GroupKind.TheVariants as kind
use Rattle.diff_space.specs.Coordinates.{Dimension, cell_in, flag_number, number_in, index_or_count}
use Rattle.diff_space.specs.Coordinates.{place_of}
use Rattle.diff_space.specs.Families.{cell_by, cell_or, cells_by, combination, has_flag, has_text}
use Rattle.diff_space.specs.Families.{if_version, is_member, is_member_at, is_place, is_version}
use Rattle.diff_space.specs.Families.{line_at, texts_at, texts_of}
use Rattle.diff_space.specs.Groups.{cells_at}
use Rattle.diff_space.specs.Machines.{State}
use Rattle.diff_space.specs.Numbers.{cell_at, version_number}
use Rattle.diff_space.proofs.Flags.{is_set}

abbrev pub number_at : GroupKind → (line : Option Dimension) → Attributes → ℕ
number_at kind.Version (Some d) a = cell_at d.starts (version_number a.context.version)
number_at kind.Version None a = 0
number_at kind.Bucket line a = a.context.bucket

abbrev pub bit_of : GroupKind → ℕ
bit_of kind.Version = 1
bit_of kind.Bucket = 16

abbrev pub text_in : GroupKind → Attributes → List ℕ
text_in kind.Version a = slice_index_or a.texts 1 []
text_in kind.Bucket a = slice_index_or a.texts 5 []

abbrev pub its : Family → List Dimension → Attributes → Combination
its f ds a =
    combination (number_at f.kind (line_at ds f.line) a) (is_set a.context.flags (bit_of f.kind))
    (index_or_count (texts_at ds f.text) (text_in f.kind a))

-- ---- its cells

turned : (b : Bool) → ◌≡◌ {A = ℕ} (if not b then 1 else 0) (if b then 0 else 1)
turned true = refl
turned false = refl

same_bucket : (a : Attributes) (salt : Option ℕ)
    → bucket_by (plain [] None a.context.bucket) salt ≡ bucket_by a salt
same_bucket a None = refl
same_bucket a (Some salt) = refl

module _ (ds : List Dimension) (a : Attributes) (g : State) (place : ℕ) (d : Dimension)
    (at : slice_get ds place ≡ Some d) where
  at_place : (p : ℕ) → (p == place) ≡ true → slice_get ds p ≡ Some d
  at_place p same = ap (slice_get ds) (eqb-true p place same) ∙ at

  by_line : (k : GroupKind) (line : Option ℕ) → (is_version k && is_place line place) ≡ true
      → d.of ≡ coordinate.Version
      → number_at k (line_at ds line) a ≡ cell_at d.starts (version_number a.context.version)
  by_line kind.Version None member of = absurd cc
  by_line kind.Version (Some p) member of =
      ap (λ (o : Option Dimension). number_at kind.Version
      (option_and_then (λ e. if_version e e.of) o) a) (at_place p member)
      ∙ ap (λ (c : Coordinate). number_at kind.Version (if_version d c) a) of
  by_line kind.Bucket line member of = absurd cc

  by_bucket : (k : GroupKind) (line : Option Dimension) (salt modulus : Option ℕ)
      → not (is_version k) ≡ true
      → cell_at d.starts (remainder modulus (bucket_by (plain [] None (number_at k line a)) salt))
      ≡ cell_at d.starts (remainder modulus (bucket_by a salt))
  by_bucket kind.Version line salt modulus member = absurd cc
  by_bucket kind.Bucket line salt modulus member =
      ap (λ (n : ℕ). cell_at d.starts (remainder modulus n)) (same_bucket a salt)

  by_flag : (k : GroupKind) (f : Flag) → has_flag k f ≡ true
      → cell_at d.starts (if is_set a.context.flags (bit_of k) then 1 else 0)
      ≡ cell_at d.starts (flag_number a.context.flags (flag_bit f))
  by_flag kind.Version flag.VersionKnown member =
      ap (cell_at d.starts) (turned (bit_and a.context.flags 1 == 0))
  by_flag kind.Bucket flag.CohortKnown member =
      ap (cell_at d.starts) (turned (bit_and a.context.flags 16 == 0))
  by_flag k f member = absurd cc

  by_place : (k : GroupKind) (text : Option ℕ) → is_place text place ≡ true
      → texts_at ds text ≡ d.texts
  by_place k None member = absurd cc
  by_place k (Some p) member = ap texts_of (at_place p member)

  by_text : (k : GroupKind) (n : Attribute) (text : Option ℕ)
      → (has_text k n && is_place text place) ≡ true
      → cell_at d.starts (index_or_count (texts_at ds text) (text_in k a))
      ≡ cell_at d.starts (index_or_count d.texts (slice_index_or a.texts (attribute_number n) []))
  by_text kind.Version attribute.Version text member =
      ap (λ (ts : List (List ℕ)). cell_at d.starts
      (index_or_count ts (slice_index_or a.texts 1 [])))
      (by_place kind.Version text member)
  by_text kind.Bucket attribute.Cohort text member =
      ap (λ (ts : List (List ℕ)). cell_at d.starts
      (index_or_count ts (slice_index_or a.texts 5 [])))
      (by_place kind.Bucket text member)
  by_text k n text member = absurd cc

  by_of : (f : Family) (of : Coordinate) → d.of ≡ of → is_member f place of ≡ true
      → cell_by of d.starts (its f ds a) ≡ cell_at d.starts (number_in of d.texts a g)
  by_of f coordinate.Version is member = by_line f.kind f.line member is
  by_of f (coordinate.Bucket salt modulus) is member =
      by_bucket f.kind (line_at ds f.line) salt modulus member
  by_of f (coordinate.Flag h) is member = by_flag f.kind h member
  by_of f (coordinate.Text n) is member = by_text f.kind n f.text member
  by_of f of is member = absurd cc

  cell_is : (f : Family) → is_member f place d.of ≡ true
      → cell_by d.of d.starts (its f ds a) ≡ cell_in d a g
  cell_is f member = by_of f d.of refl member

module _ (f : Family) (ds : List Dimension) (a : Attributes) (g : State) where
  index_is : (m : ℕ) → slice_index (place_of ds a g) m
      ≡ unwrap_or (option_map (λ (d : Dimension). cell_in d a g) (slice_get ds m)) 0
  index_is m =
      sym (unwrap_or-slice_get (place_of ds a g) m 0)
      ∙ ap (λ (o : Option ℕ). unwrap_or o 0)
      (slice_get-map (λ (d : Dimension). cell_in d a g) ds m)

  one_cell : (m : ℕ) (o : Option Dimension) → slice_get ds m ≡ o → is_member_at f m o ≡ true
      → cell_or o (its f ds a)
      ≡ unwrap_or (option_map (λ (d : Dimension). cell_in d a g) o) 0
  one_cell m None at member = refl
  one_cell m (Some d) at member = cell_is ds a g m d at f member

  abbrev IsMemberHere : ℕ → Type 0
  IsMemberHere m = is_member_at f m (slice_get ds m) ≡ true

  pub cells_are : (members : List ℕ) → All IsMemberHere members
      → cells_by ds members (its f ds a) ≡ cells_at (place_of ds a g) members
  cells_are [] all = refl
  cells_are (m ∷ ms) all =
      ap₂ (λ (c : ℕ) (cs : List ℕ). c ∷ cs)
      (one_cell m (slice_get ds m) refl (All-head IsMemberHere m ms all) ∙ sym (index_is m))
      (cells_are ms (All-tail IsMemberHere m ms all))
