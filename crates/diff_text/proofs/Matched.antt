-- Tables that match the sets of a row hold where these have the place.
use Rattle.std.proofs.Common.{◌≡◌, ◌∙◌, ℕ, ◌+◌, ◌<◌, suc, zero, List, [], ◌∷◌, All, length}
use Rattle.std.proofs.Common.{refl, sym, ap, ap₂, subst, arith}
use Rattle.std.specs.Prelude.{Bool, true, false, not, ◌&&◌, cond, ◌==◌, Ok}
use Rattle.std.specs.Prelude.{slice_get, slice_index, slice_index_or, if◌then◌else◌}
use Rattle.std.proofs.lemmas.Bool.{and_parts, eqb-true, false≢true}
use Rattle.std.proofs.lemmas.List.Elements.{All-head, All-tail}
use Rattle.cells.specs.Arrays.{AppShape}
use Rattle.cells.specs.declared.array.CellArray.{CellArray}
use Rattle.rule_lang.specs.Parts.{OrFault}
use Rattle.rule_lang.specs.Verdicts.{IsVerdict}
use Rattle.rule_lang.specs.declared.condition.Step.{Step}
use Rattle.rule_lang.specs.declared.rule.Statement.{Statement}
use Rattle.diff_space.specs.Coordinates.{Dimension, place_of}
use Rattle.diff_space.specs.Lines.{IsLine}
use Rattle.diff_space.specs.Scopes.{Scope}
use Rattle.diff_rules.specs.Rows.{SegmentSet, has_segment}
use Rattle.diff_text.specs.Conditions.{IsMeant, MeansSets, ReadsBack, has_comment}
use Rattle.diff_text.specs.Conditions.{have_place, is_grant, offer_if, one_release, tested_sets}
use Rattle.diff_text.specs.Shown.{are_grants}
use Rattle.diff_text.specs.Tables.{IsPlace, IsTable, IsWhole, Table, agrees, agrees_at, all_hold}
use Rattle.diff_text.specs.Tables.{are_tables_of, first_is_table_of, holds_at, is_table_of}
use Rattle.diff_text.specs.Tables.{later_tables}
use Rattle.diff_text.proofs.Tabled.{is_place, within_table}

not_false : (b : Bool) → not b ≡ true → false ≡ b
not_false true is = absurd (false≢true is)
not_false false is = refl

agreed : (segments : List ℕ) (segment : ℕ) (h : Bool) → agrees_at segments segment h ≡ true
    → h ≡ has_segment segments segment
agreed segments segment true is = sym is
agreed segments segment false is = not_false (has_segment segments segment) is

pub agrees_all : (segments : List ℕ) (from : ℕ) (hs : List Bool) (k : ℕ)
    → agrees segments from hs ≡ true
    → k < length hs → slice_index_or hs k false ≡ has_segment segments (from + k)
agrees_all segments from [] k is within = absurd (omega (arith, within))
agrees_all segments from (h ∷ hs) zero is within =
    let both = and_parts (agrees_at segments from h) (agrees segments (from + 1) hs) is in
    let e : from ≡ from + 0 = omega arith in
    agreed segments from h both.0 ∙ ap (has_segment segments) e
agrees_all segments from (h ∷ hs) (suc k) is within =
    let both = and_parts (agrees_at segments from h) (agrees segments (from + 1) hs) is in
    let w : k < length hs = omega (arith, within) in
    let e : (from + 1) + k ≡ from + suc k = omega arith in
    agrees_all segments (from + 1) hs k both.1 w ∙ ap (has_segment segments) e

module _ (ds : List Dimension) (place : List ℕ) (at : IsPlace ds place) where
  table_is : (set : SegmentSet) (t : Table) → IsTable ds t → is_table_of set t ≡ true
      → holds_at t place ≡ has_segment set.segments (slice_index place set.dimension)
  table_is set t is h =
      let both = and_parts (set.dimension == t.dimension) (agrees set.segments 0 t.holds) h in
      let e : set.dimension ≡ t.dimension = eqb-true set.dimension t.dimension both.0 in
      let zero_on : 0 + slice_index place t.dimension ≡ slice_index place t.dimension =
      omega arith in
      agrees_all set.segments 0 t.holds (slice_index place t.dimension) both.1
      (within_table ds t place is at)
      ∙ ap (has_segment set.segments) zero_on
      ∙ ap (λ (k : ℕ). has_segment set.segments (slice_index place k)) (sym e)

  -- a set that has no table, or the next one
  one_set : (b : Bool) (set : SegmentSet) (sets : List SegmentSet) (tables : List Table)
      → ((ts : List Table) → are_tables_of ds sets ts ≡ true → All (IsTable ds) ts
      → all_hold ts place ≡ have_place (tested_sets ds sets) place)
      → (if b then are_tables_of ds sets tables
      else first_is_table_of set tables && are_tables_of ds sets (later_tables tables)) ≡ true
      → All (IsTable ds) tables
      → all_hold tables place
      ≡ have_place (cond (not b) (set ∷ tested_sets ds sets) (tested_sets ds sets)) place
  one_set true set sets tables others h all = others tables h all
  one_set false set sets [] others h all = absurd (false≢true h)
  one_set false set sets (t ∷ ts) others h all =
      let both = and_parts (is_table_of set t) (are_tables_of ds sets ts) h in
      ap₂ (λ (b c : Bool). b && c)
      (table_is set t (All-head (IsTable ds) t ts all) both.0)
      (others ts both.1 (All-tail (IsTable ds) t ts all))

  pub are_true : (sets : List SegmentSet) (tables : List Table)
      → are_tables_of ds sets tables ≡ true
      → All (IsTable ds) tables
      → all_hold tables place ≡ have_place (tested_sets ds sets) place
  are_true [] [] h all = refl
  are_true [] (t ∷ ts) h all = absurd (false≢true h)
  are_true (set ∷ sets) tables h all =
      one_set (is_grant (slice_get ds set.dimension)) set sets tables
      (λ ts is are. are_true sets ts is are) h all

pub sets_meant : (x : Scope) (ds : List Dimension) → All (IsLine x) ds → (sets : List SegmentSet)
    (steps : List Step) (tables : List Table) → IsWhole x ds steps tables
    → are_tables_of ds sets tables ≡ true → MeansSets x ds (tested_sets ds sets) steps
sets_meant x ds lines sets steps tables h is s a g within met unmet =
    h.means s a g within met unmet
    ∙ ap (λ (b : Bool). if b then met else unmet)
    (are_true ds (place_of ds a g) (is_place x ds lines a g within) sets tables is h.tables_are)

-- ---- a text that reads back

pub verdict_is : (s : AppShape) (text other : List ℕ) (v : OrFault (List Statement))
    → s.releases ≡ 1 → s.arrays ≡ [] → text ≡ other → IsVerdict s text v
    → IsVerdict one_release other v
verdict_is s text other v one none same h =
    subst (λ (n : ℕ). IsVerdict (record { releases = n; arrays = [] }) other v) one
    (subst (λ (arrays : List CellArray). IsVerdict (record {
      releases = s.releases;
      arrays = arrays;
    }) other v) none
    (subst (λ (t : List ℕ). IsVerdict s t v) same h))

pub reads_so : (x : Scope) (ds : List Dimension) (sets : List SegmentSet) (text : List ℕ)
    (statements : List Statement) → has_comment false text ≡ false
    → IsVerdict one_release (offer_if text) (Ok statements) → IsMeant x ds sets statements
    → ReadsBack x ds sets text
reads_so x ds sets text statements plain is_rule m = record {
  plain = plain;
  steps = m.steps;
  is_rule = subst (λ (ss : List Statement). IsVerdict one_release (offer_if text) (Ok ss)) m.one
      is_rule;
  means = m.means;
}

none_after : (b : Bool) (set : SegmentSet) (sets rest : List SegmentSet) → b ≡ true → rest ≡ []
    → cond (not b) (set ∷ sets) rest ≡ []
none_after true set sets rest is none = none
none_after false set sets rest is none = absurd (false≢true is)

pub none_tested : (ds : List Dimension) (sets : List SegmentSet) → are_grants ds sets ≡ true
    → tested_sets ds sets ≡ []
none_tested ds [] h = refl
none_tested ds (set ∷ sets) h =
    let b = is_grant (slice_get ds set.dimension) in
    let both = and_parts b (are_grants ds sets) h in
    none_after b set (tested_sets ds sets) (tested_sets ds sets) both.0 (none_tested ds sets both.1)
