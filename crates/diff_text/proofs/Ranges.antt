-- Ranges that match the segments of a set have the numbers of the machines in states in it.
use Rattle.std.proofs.Common.{◌≡◌, ◌∙◌, ℕ, ◌+◌, ◌<◌, List, [], ◌∷◌, map, inl, inr}
use Rattle.std.proofs.Common.{refl, sym, ap, ap₂, subst, arith, Less, Equal, Greater}
use Rattle.std.specs.Prelude.{Bool, true, false, ◌&&◌, ◌||◌, nat_le}
use Rattle.std.specs.Cmp.{nat_cmp_is}
use Rattle.std.specs.List.{list_all}
use Rattle.std.specs.Ordering.{nat_cmp}
use Rattle.std.proofs.lemmas.Bool.{and_parts, cases_order, le-leb, lt-leb}
use Rattle.std.proofs.lemmas.List.{get_or-map, length-map}
use Rattle.attrs.specs.Attributes.{Attributes}
use Rattle.rule_lang.specs.Meaning.{allows}
use Rattle.rule_lang.specs.declared.test.Comparison.TheVariants.{Ge, Le}
use Rattle.diff_space.specs.Coordinates.{Dimension, begin_of, cell_in, number_of}
use Rattle.diff_space.specs.Lines.{IsLine}
use Rattle.diff_space.specs.Machines.{State}
use Rattle.diff_space.specs.Numbers.{decides}
use Rattle.diff_space.specs.Scopes.{IsWithin, Scope}
use Rattle.diff_space.proofs.Cells.{begins_alike}
use Rattle.diff_space.proofs.Ranges.{from_first, to_last}
use Rattle.diff_rules.specs.Rows.{SegmentSet, has_segment}
use Rattle.diff_text.specs.declared.intervals.NumberRange.{NumberRange}
use Rattle.diff_text.specs.Grants.{AreRangesOf, have_number, is_range}
use Rattle.diff_text.specs.Tables.{agrees, is_cut}
use Rattle.diff_text.proofs.Matched.{agrees_all}
use Rattle.diff_text.proofs.Tabled.{segment_there}

from_low : (m n : ℕ) → allows Ge (nat_cmp m n) ≡ nat_le n m
from_low m n = elim (cases_order m n) [
  | inl same ↦ sym (ap (allows Ge) (nat_cmp_is m n Equal same)) ∙ sym (le-leb n m (omega arith))
  | inr (inl less) ↦
      sym (ap (allows Ge) (nat_cmp_is m n Less less)) ∙ sym (lt-leb n m (omega arith))
  | inr (inr more) ↦
      sym (ap (allows Ge) (nat_cmp_is m n Greater more)) ∙ sym (le-leb n m (omega arith))
]

to_high : (m n : ℕ) → allows Le (nat_cmp m n) ≡ nat_le m n
to_high m n = elim (cases_order m n) [
  | inl same ↦ sym (ap (allows Le) (nat_cmp_is m n Equal same)) ∙ sym (le-leb m n (omega arith))
  | inr (inl less) ↦
      sym (ap (allows Le) (nat_cmp_is m n Less less)) ∙ sym (le-leb m n (omega arith))
  | inr (inr more) ↦
      sym (ap (allows Le) (nat_cmp_is m n Greater more)) ∙ sym (lt-leb m n (omega arith))
]

module _ (x : Scope) (d : Dimension) (line : IsLine x d) (a : Attributes) (g : State)
    (within : IsWithin x a g) where
  abbrev begin : ℕ
  begin = begin_of d (cell_in d a g)

  abbrev number : ℕ
  number = number_of d a g

  low_is : (n : ℕ) → decides d.starts d.last Ge n ≡ true → nat_le n number ≡ nat_le n begin
  low_is n cut =
      sym (from_low number n)
      ∙ sym (begins_alike d.starts d.last number n Ge line.rises (from_first x a g within d line)
      (to_last x a g within d line) cut)
      ∙ from_low begin n

  high_is : (n : ℕ) → decides d.starts d.last Le n ≡ true → nat_le number n ≡ nat_le begin n
  high_is n cut =
      sym (to_high number n)
      ∙ sym (begins_alike d.starts d.last number n Le line.rises (from_first x a g within d line)
      (to_last x a g within d line) cut)
      ∙ to_high begin n

  -- the ranges have a number exactly if they have that at which its segment begins
  begins_in : (ranges : List NumberRange) → list_all (is_cut d) ranges ≡ true
      → have_number ranges number ≡ have_number ranges begin
  begins_in [] cut = refl
  begins_in (r ∷ rs) cut =
      let both = and_parts (is_cut d r) (list_all (is_cut d) rs) cut in
      let ends =
      and_parts (is_range d r && decides d.starts d.last Ge r.low)
      (decides d.starts d.last Le r.high) both.0 in
      let low = and_parts (is_range d r) (decides d.starts d.last Ge r.low) ends.0 in
      ap₂ (λ (b c : Bool). b || c)
      (ap₂ (λ (b c : Bool). b && c) (low_is r.low low.1) (high_is r.high ends.1))
      (begins_in rs both.1)

all_ranges : (d : Dimension) (ranges : List NumberRange) → list_all (is_cut d) ranges ≡ true
    → list_all (is_range d) ranges ≡ true
all_ranges d [] cut = refl
all_ranges d (r ∷ rs) cut =
    let both = and_parts (is_cut d r) (list_all (is_cut d) rs) cut in
    let ends =
    and_parts (is_range d r && decides d.starts d.last Ge r.low)
    (decides d.starts d.last Le r.high) both.0 in
    let low = and_parts (is_range d r) (decides d.starts d.last Ge r.low) ends.0 in
    ap₂ (λ (b c : Bool). b && c) low.0 (all_ranges d rs both.1)

pub are_ranges : (x : Scope) (d : Dimension) (set : SegmentSet) (ranges : List NumberRange)
    → IsLine x d → list_all (is_cut d) ranges ≡ true
    → agrees set.segments 0 (map (have_number ranges) d.starts) ≡ true → AreRangesOf x d set ranges
are_ranges x d set ranges line cut same = record {
  each = all_ranges d ranges cut;
  are = λ a g within.
      let segment = cell_in d a g in
      let holds = map (have_number ranges) d.starts in
      let there = segment_there x d a g line within in
      let zero_on : 0 + cell_in d a g ≡ cell_in d a g = omega arith in
      begins_in x d line a g within ranges cut
      ∙ sym (get_or-map (have_number ranges) d.starts segment 0 false there)
      ∙ agrees_all set.segments 0 holds segment same
      (subst (λ (n : ℕ). segment < n) (sym (length-map d.starts (have_number ranges))) there)
      ∙ ap (has_segment set.segments) zero_on;
}
