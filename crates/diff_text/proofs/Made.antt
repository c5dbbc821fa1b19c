-- The parts of a condition hold as its trees do.
use Rattle.std.proofs.Common.{◌≡◌, ◌∙◌, ℕ, List, [], ◌∷◌, All, length}
use Rattle.std.proofs.Common.{refl, sym, ap, subst}
use Rattle.std.specs.Prelude.{Bool, true, false, not, ◌&&◌, ◌||◌, Option, Some, None, IfSome}
use Rattle.std.specs.Prelude.{Result, Ok, Err, IfOk, slice_index_or, if◌then◌else◌}
use Rattle.std.specs.Ordering.{nat_cmp}
use Rattle.std.proofs.lemmas.List.{get_or-map, length-map}
use Rattle.std.proofs.lemmas.List.Elements.{All-cons, All-nil}
use Rattle.attrs.specs.Attributes.{Attributes}
use Rattle.cells.specs.Arrays.{AppShape}
use Rattle.rule_lang.specs.Meaning.{Behaviour, allows, add_one_then, decide, decide_one, test_holds}
use Rattle.rule_lang.specs.Trees.{Tree, Leaf, Negated}
use Rattle.rule_lang.specs.declared.condition.Step.{Step}
use Rattle.rule_lang.specs.declared.test.Test.{Test}
use Rattle.diff_space.specs.Coordinates.{Dimension, cell_in, number_of, place_of}
use Rattle.diff_space.specs.Lines.{IsLine}
use Rattle.diff_space.specs.Machines.{State}
use Rattle.diff_space.specs.Scopes.{IsWithin, Scope}
use Rattle.diff_space.proofs.Cells.{begins_alike}
use Rattle.diff_space.proofs.Ranges.{from_first, to_last}
use Rattle.diff_space.proofs.Tests.{all_at}
use Rattle.rule_eval.specs.Folds.{Evaluated}
use Rattle.diff_text.specs.Tables.{IsJoined, IsMade, IsNegated, IsPartOf, IsTable, IsTestTable}
use Rattle.diff_text.specs.Tables.{IsWhole, Table, all_hold, join_by, tree_by}
use Rattle.diff_text.proofs.Tabled.{segment_there, is_place, one_table, place_at}

module _ (x : Scope) (ds : List Dimension) (lines : All (IsLine x) ds) where
  -- ---- tests

  module _ (test : Test) (t : Table) (h : IsTestTable ds test t) where
    abbrev d : Dimension
    d = h.compared.dimension

    line : IsLine x d
    line = all_at (IsLine x) ds t.dimension d h.compared.is_at lines

    -- the truth of a machine's segment is that of the test
    truth_is : (s : AppShape) (a : Attributes) (g : State) → IsWithin x a g
        → test_holds a s 0 test ≡ all_hold (t ∷ []) (place_of ds a g)
    truth_is s a g within =
        let r = h.by.comparison in
        let n = h.by.number in
        let segment = cell_in d a g in
        h.compared.compared.holds s x a g within
        ∙ sym (begins_alike d.starts d.last (number_of d a g) n r line.rises
        (from_first x a g within d line) (to_last x a g within d line) h.compared.decided)
        ∙ sym (get_or-map (λ (end : ℕ). allows r (nat_cmp end n)) d.starts segment 0 false
        (segment_there x d a g line within))
        ∙ sym (ap (λ (hs : List Bool). slice_index_or hs segment false) h.is)
        ∙ sym (ap (λ (k : ℕ). slice_index_or t.holds k false)
        (place_at ds a g d t.dimension h.compared.is_at))
        ∙ sym (one_table t (place_of ds a g))

    pub test_is : (at : ℕ) → IsPartOf x ds (Leaf at test) (t ∷ [])
    test_is at = record {
      tables_are = All-cons (IsTable ds) t []
          (record {
            dimension = d;
            is_at = h.compared.is_at;
            each = ap length h.is
                ∙ length-map d.starts (λ end. allows h.by.comparison (nat_cmp end h.by.number));
          })
          (All-nil (IsTable ds));
      means = λ s a g within met unmet.
          ap (λ (o : Option ℕ). add_one_then o
          (λ reply. if test_holds a s reply test then met else unmet))
          (h.compared.compared.no_cell s)
          ∙ ap (λ (b : Bool). if b then met else unmet) (truth_is s a g within);
    }

  -- ---- operators

  swapped : (b : Bool) (met unmet : Behaviour)
      → (if b then unmet else met) ≡ (if not b then met else unmet)
  swapped true met unmet = refl
  swapped false met unmet = refl

  negated_sound : (c : Tree) (p q : List Table) → IsPartOf x ds c p → IsNegated ds p q
      → IsPartOf x ds (Negated c) q
  negated_sound c p q h n = record {
    tables_are = n.tables;
    means = λ s a g within met unmet.
        let place = place_of ds a g in
        h.means s a g within unmet met ∙ swapped (all_hold p place) met unmet
        ∙ ap (λ (b : Bool). if b then met else unmet)
        (sym (n.holds place (is_place x ds lines a g within)));
  }

  both_so : (p q : Bool) (met unmet : Behaviour)
      → (if p then (if q then met else unmet) else unmet) ≡ (if p && q then met else unmet)
  both_so true q met unmet = refl
  both_so false q met unmet = refl

  either_so : (p q : Bool) (met unmet : Behaviour)
      → (if p then met else (if q then met else unmet)) ≡ (if p || q then met else unmet)
  either_so true q met unmet = refl
  either_so false q met unmet = refl

  decides_so : (is_and : Bool) (b c : Tree) (p q : List Table) → IsPartOf x ds b p
      → IsPartOf x ds c q → (s : AppShape) (a : Attributes) (g : State) → IsWithin x a g
      → (met unmet : Behaviour) → decide a s (tree_by is_and b c) met unmet
      ≡ (if join_by is_and (all_hold p (place_of ds a g)) (all_hold q (place_of ds a g)) then met
      else unmet)
  decides_so true b c p q h i s a g within met unmet =
      let place = place_of ds a g in
      h.means s a g within (decide a s c met unmet) unmet
      ∙ ap (λ (m : Behaviour). if all_hold p place then m else unmet)
      (i.means s a g within met unmet)
      ∙ both_so (all_hold p place) (all_hold q place) met unmet
  decides_so false b c p q h i s a g within met unmet =
      let place = place_of ds a g in
      h.means s a g within met (decide a s c met unmet)
      ∙ ap (λ (m : Behaviour). if all_hold p place then met else m)
      (i.means s a g within met unmet)
      ∙ either_so (all_hold p place) (all_hold q place) met unmet

  joined_sound : (is_and : Bool) (b c : Tree) (p q new : List Table) → IsPartOf x ds b p
      → IsPartOf x ds c q → IsJoined ds (join_by is_and) p q new
      → IsPartOf x ds (tree_by is_and b c) new
  joined_sound is_and b c p q new h i j = record {
    tables_are = j.tables;
    means = λ s a g within met unmet.
        decides_so is_and b c p q h i s a g within met unmet
        ∙ ap (λ (v : Bool). if v then met else unmet)
        (sym (j.holds (place_of ds a g) (is_place x ds lines a g within)));
  }

  pub tested_is : (at : ℕ) (test : Test) (t : Table) (p : List Table) → p ≡ t ∷ []
      → IsTestTable ds test t → IsPartOf x ds (Leaf at test) p
  tested_is at test t p one h =
      subst (λ (q : List Table). IsPartOf x ds (Leaf at test) q) (sym one) (test_is test t h at)

-- ---- parts that may not have been made

pub negated_made : {E : Type 0} (ds : List Dimension) (c : Tree) (p : List Table)
    (made : Result (Option (List Table)) E) → IsMade ds c (Some p)
    → (All (IsTable ds) p → IfOk made (λ o. IfSome o (IsNegated ds p)))
    → IfOk made (IsMade ds (Negated c))
negated_made ds c p (Err e) h n = tt
negated_made ds c p (Ok None) h n = λ x lines. tt
negated_made ds c p (Ok (Some q)) h n = λ x lines.
    let is = h x lines in
    negated_sound x ds lines c p q is (n is.tables_are)

pub joined_made : {E : Type 0} (is_and : Bool) (ds : List Dimension) (b c : Tree)
    (p q : List Table) (made : Result (Option (List Table)) E) → IsMade ds b (Some p)
    → IsMade ds c (Some q) → (All (IsTable ds) p → All (IsTable ds) q
    → IfOk made (λ o. IfSome o (IsJoined ds (join_by is_and) p q)))
    → IfOk made (IsMade ds (tree_by is_and b c))
joined_made is_and ds b c p q (Err e) h i j = tt
joined_made is_and ds b c p q (Ok None) h i j = λ x lines. tt
joined_made is_and ds b c p q (Ok (Some new)) h i j = λ x lines.
    let first = h x lines in
    let second = i x lines in
    joined_sound x ds lines is_and b c p q new first second
    (j first.tables_are second.tables_are)

pub whole_made : {S E : Type 0} (first last : S) (x : Scope) (ds : List Dimension)
    → All (IsLine x) ds → (steps : List Step) (made : Result (Option (List Table)) E)
    → IfOk made (λ o. Evaluated (λ before c part after. IsMade ds c part) first steps o last)
    → IfOk made (λ o. IfSome o (IsWhole x ds steps))
whole_made first last x ds lines steps (Err e) h = tt
whole_made first last x ds lines steps (Ok None) h = tt
whole_made first last x ds lines steps (Ok (Some p)) h =
    let is = h.is x lines in
    record {
      tables_are = is.tables_are;
      means = λ s a g within met unmet.
          ap (λ (o : Option (List Tree)). decide_one a s o met unmet) h.is_tree
          ∙ is.means s a g within met unmet;
    }
