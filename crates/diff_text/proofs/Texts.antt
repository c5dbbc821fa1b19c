-- Texts that `and` joins, and lists in two parts.
use Rattle.std.proofs.Common.{◌≡◌, ◌∙◌, ℕ, ◌-◌, ◌<◌, ◌≤◌, suc, zero, List, [], ◌∷◌, ◌++◌}
use Rattle.std.proofs.Common.{length, refl, sym, ap, arith, subst, append-nil, drop, get_or, take}
use Rattle.std.specs.Prelude.{Bool, true, cond, Option, Some, None, IfSome, codes, ◌||◌, slice_get}
use Rattle.std.specs.List.{AllZip}
use Rattle.std.proofs.lemmas.List.{append_assoc}
use Rattle.std.proofs.lemmas.List.Sorted.{list_any-IsPermutation}
use Rattle.cells.specs.declared.array.CellArray.{CellArray}
use Rattle.diff_rules.specs.Rows.{DiffRow, SegmentSet}
use Rattle.diff_space.specs.Coordinates.{Dimension}
use Rattle.diff_space.specs.Scopes.{Scope}
use Rattle.diff_space.proofs.Planned.{none_left, opened}
use Rattle.diff_text.specs.declared.kind.RowKind.{RowKind}
use Rattle.diff_text.specs.declared.shown.AppRows.{AppRows}
use Rattle.diff_text.specs.Conditions.{and_texts, grant_sets, is_grant}
use Rattle.diff_text.specs.Grants.{AreGrantTexts, IsGrantText}
use Rattle.diff_text.specs.Kinds.{is_lost, kind_in, some_lost}
use Rattle.diff_text.specs.Shown.{AreShown, IsShownAs, ShownRow, RowSources, some_shown_lost}

pub and_both : (ts us : List (List ℕ)) → and_texts (ts ++ us) ≡ and_texts ts ++ and_texts us
and_both [] us = refl
and_both (t ∷ ts) us =
    ap (λ (r : List ℕ). (codes " and " ++ t) ++ r) (and_both ts us)
    ∙ sym (append_assoc (codes " and " ++ t) (and_texts ts) (and_texts us))

-- ---- two lists together

pub first_part : {X : Type 0} (xs ys : List X) (k : ℕ) → k < length xs
    → slice_get xs k ≡ slice_get (xs ++ ys) k
first_part [] ys k within = absurd (omega (arith, within))
first_part (x ∷ xs) ys zero within = refl
first_part (x ∷ xs) ys (suc k) within =
    let w : k < length xs = omega (arith, within) in first_part xs ys k w

pub second_part : {X : Type 0} (xs ys : List X) (k : ℕ) → length xs ≤ k
    → slice_get ys (k - length xs) ≡ slice_get (xs ++ ys) k
second_part [] ys k past = let e : k - 0 ≡ k = omega arith in ap (slice_get ys) e
second_part (x ∷ xs) ys zero past = absurd (omega (arith, past))
second_part (x ∷ xs) ys (suc k) past =
    let p : length xs ≤ k = omega (arith, past) in
    let e : suc k - suc (length xs) ≡ k - length xs = omega arith in
    ap (slice_get ys) e ∙ second_part xs ys k p

-- ---- whether a row is lost

module _ (x : Scope) (ds : List Dimension) (from : RowSources) where
  lost_each : (rows : List DiffRow) (shown : List ShownRow)
      → AllZip (IsShownAs x ds from) rows shown → some_shown_lost shown ≡ some_lost from.all rows
  lost_each [] [] each = refl
  lost_each [] (s ∷ ss) each = absurd each
  lost_each (r ∷ rs) [] each = absurd each
  lost_each (r ∷ rs) (s ∷ ss) each =
      ap (λ (k : RowKind). is_lost k || some_shown_lost ss) each.0.kind
      ∙ ap (λ (b : Bool). is_lost (kind_in from.all r) || b) (lost_each rs ss each.1)

  pub lost_is : (rows : List DiffRow) (shown : List ShownRow) → AreShown x ds from rows shown
      → some_shown_lost shown ≡ some_lost from.all rows
  lost_is rows shown h =
      sym (list_any-IsPermutation (λ (row : ShownRow). is_lost row.kind) h.in_order shown h.same)
      ∙ lost_each rows h.in_order h.each

pub lost_in : (x : Scope) (ds : List Dimension) (from : RowSources) (rows : List DiffRow)
    (o : Option AppRows) → IfSome o (λ a. AreShown x ds from rows a.rows.items)
    → IfSome o (λ a. some_shown_lost a.rows.items ≡ some_lost from.all rows)
lost_in x ds from rows None h = tt
lost_in x ds from rows (Some a) h = lost_is x ds from rows a.rows.items h

pub shown_same : (x : Scope) (ds others : List Dimension) (from to : RowSources)
    (rows more : List DiffRow) (o : Option AppRows) → ds ≡ others → from ≡ to → rows ≡ more
    → IfSome o (λ a. AreShown x ds from rows a.rows.items)
    → IfSome o (λ a. AreShown x others to more a.rows.items)
shown_same x ds others from to rows more o one two three h =
    subst (λ (rs : List DiffRow). IfSome o (λ a. AreShown x others to rs a.rows.items)) three
    (subst (λ (s : RowSources). IfSome o (λ a. AreShown x others s rows a.rows.items)) two
    (subst (λ (es : List Dimension). IfSome o (λ a. AreShown x es from rows a.rows.items)) one h))

-- ---- words of sets, one after another

module _ (old new : List CellArray) (x : Scope) (ds : List Dimension) (sets : List SegmentSet)
  where
    abbrev Says : List SegmentSet → (done : List (List ℕ)) → Type 0
    Says left done = (more : List (List ℕ)) → AreGrantTexts old new x ds (grant_sets ds left) more
        → AreGrantTexts old new x ds (grant_sets ds sets) (done ++ more)

    pub grants_on : (left : List SegmentSet) (set : SegmentSet) (done next : List (List ℕ))
        (text : List ℕ) → 0 < length left → set ≡ get_or left 0 set
        → is_grant (slice_get ds set.dimension) ≡ true → Says left done
        → IsGrantText old new x ds set text → next ≡ done ++ text ∷ []
        → Says (take (length left - 1) (drop 1 left)) next
    grants_on left set done next text some first grant before is pushed more rest =
        let others = take (length left - 1) (drop 1 left) in
        let e : grant_sets ds left ≡ set ∷ grant_sets ds others =
        ap (grant_sets ds) (opened left set some first)
        ∙ ap (λ (b : Bool). cond b (set ∷ grant_sets ds others) (grant_sets ds others)) grant in
        subst (λ (ys : List (List ℕ)). AreGrantTexts old new x ds (grant_sets ds sets) ys)
        (sym (append_assoc done (text ∷ []) more)
        ∙ ap (λ (zs : List (List ℕ)). zs ++ more) (sym pushed))
        (before (text ∷ more)
        (subst (λ (ss : List SegmentSet). AreGrantTexts old new x ds ss (text ∷ more)) (sym e)
        (is, rest)))

    pub grants_end : (left : List SegmentSet) (done : List (List ℕ)) → length left < 1
        → Says left done → AreGrantTexts old new x ds (grant_sets ds sets) done
    grants_end left done few before =
        subst (λ (ys : List (List ℕ)). AreGrantTexts old new x ds (grant_sets ds sets) ys)
        (append-nil done)
        (subst (λ (l : List SegmentSet). Says l done) (none_left left few) before [] tt)
