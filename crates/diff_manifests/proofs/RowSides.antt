-- Sides of a comparison, and the rows of two of them.
use Rattle.std.proofs.Common.{◌≡◌, ◌∙◌, sym, ap, subst, refl, ℕ, List, [], Option, Some, None, true}
use Rattle.std.specs.Prelude.{◌++◌, All, IfSome, option_map}
use Rattle.cells.specs.Arrays.{AppShape, IsShape}
use Rattle.cells.specs.declared.array.CellArray.{CellArray}
use Rattle.diff_text.specs.Shown.{AreShown, RowSources}
use Rattle.diff_text.specs.declared.shown.AppRows.{AppRows}
use Rattle.load.specs.declared.judged.JudgedApp.{JudgedApp}
use Rattle.releases.specs.Release.{Release}
use Rattle.diff_rules.specs.Rows.{IsDiff, DiffRow}
use Rattle.diff_rules.specs.declared.contents.ContentNumbers.{ContentNumbers}
use Rattle.rule_lang.specs.Fits.{fits}
use Rattle.rule_lang.specs.declared.rule.Statement.{Statement}
use Rattle.diff_space.specs.Lines.{IsLine}
use Rattle.diff_space.specs.Machines.{Side}
use Rattle.diff_space.specs.Scopes.{Scope}
use Rattle.diff_space.specs.Spaces.{Space}
use Rattle.diff_manifests.specs.Apps.{HasContents, contents_in, releases_in}
use Rattle.diff_manifests.specs.Apps.{releases_or_none, side_with}
use Rattle.diff_manifests.specs.Outcomes.{ShowsRows, arrays_or_none, sources_of}
use Rattle.diff_manifests.specs.Sides.{IsSideBy, IsSideWith}

abbrev side_of_parts : AppShape → List Statement → List ℕ → Side
side_of_parts shape rule contents =
    record { shape = shape; statements = rule; contents = contents }

pub side_of_app : (releases : List Release) (app : JudgedApp) (rule : List Statement)
    (contents : List ℕ) (side : Side) → app.rule ≡ Some rule
    → contents ≡ contents_in releases (Some app)
    → IsSideWith app.program.shape rule contents side → IsSideBy releases (Some app) side
side_of_app releases app rule contents side has are is = record {
  side_is = ap (λ (r : Option (List Statement)).
      option_map (side_with releases app) r) has
      ∙ ap (λ (c : List ℕ). Some (side_of_parts app.program.shape rule c)) (sym are)
      ∙ ap (λ (s : Side). Some s) (sym is.side_is);
  of_rule = is.of_rule;
}

pub side_of_none : (releases : List Release) (shape : AppShape) (contents : List ℕ) (side : Side)
    → shape.releases ≡ 0 → shape.arrays ≡ [] → contents ≡ []
    → side ≡ side_of_parts shape [] contents → IsShape shape → IsSideBy releases None side
side_of_none releases shape contents side none no_arrays empty is kept = record {
  side_is = sym (ap (λ (s : Side). Some s) (is
      ∙ ap (λ (c : List ℕ). side_of_parts shape [] c) empty
      ∙ ap (λ (n : ℕ). side_of_parts (record { releases = n; arrays = shape.arrays }) [] []) none
      ∙ ap (λ (arrays : List CellArray).
      side_of_parts (record { releases = 0; arrays = arrays }) [] []) no_arrays));
  of_rule = record {
    shape = subst (λ (s : Side). IsShape s.shape) (sym is) kept;
    fits = subst (λ (s : Side). fits s.shape s.statements ≡ true)
        (sym is) refl;
  };
}

abbrev sources : (all : List Release) → (old_contents new_contents : List ℕ)
    → (old_arrays new_arrays : List CellArray) → RowSources
sources all old_contents new_contents old_arrays new_arrays = record {
  all = all;
  old_contents = old_contents;
  new_contents = new_contents;
  old_arrays = old_arrays;
  new_arrays = new_arrays;
}

sources_are : (old new : Option JudgedApp) (releases others : List Release) (c : ContentNumbers)
    (arrays more : List CellArray) → releases ≡ releases_or_none old
    → others ≡ releases_or_none new → HasContents old new c → arrays ≡ arrays_or_none old
    → more ≡ arrays_or_none new
    → sources (releases ++ others) c.old.items c.new.items arrays more ≡ sources_of old new
sources_are old new releases others c arrays more r s has a b =
    ap (λ (all : List Release). sources all c.old.items c.new.items arrays more)
    (ap (λ (rs : List Release). rs ++ others) r
    ∙ ap (λ (rs : List Release). releases_or_none old ++ rs) s)
    ∙ ap (λ (cs : List ℕ). sources (releases_in old new) cs c.new.items arrays more) has.old_are
    ∙ ap (λ (cs : List ℕ). sources (releases_in old new)
    (contents_in (releases_in old new) old) cs arrays more) has.new_are
    ∙ ap (λ (xs : List CellArray). sources (releases_in old new)
    (contents_in (releases_in old new) old) (contents_in (releases_in old new) new) xs more) a
    ∙ ap (λ (xs : List CellArray). sources (releases_in old new)
    (contents_in (releases_in old new) old) (contents_in (releases_in old new) new)
    (arrays_or_none old) xs) b

shows_rows : (x : Scope) (old new : Option JudgedApp) (old_side new_side : Side)
    (space : Space) (rows : List DiffRow) (releases others : List Release) (c : ContentNumbers)
    (arrays more : List CellArray) (shown : AppRows)
    → IsSideBy (releases_in old new) old old_side → IsSideBy (releases_in old new) new new_side
    → IsDiff x old_side new_side space rows → releases ≡ releases_or_none old
    → others ≡ releases_or_none new → HasContents old new c → arrays ≡ arrays_or_none old
    → more ≡ arrays_or_none new
    → AreShown x space.dimensions
    (sources (releases ++ others) c.old.items c.new.items arrays more) rows shown.rows.items
    → ShowsRows x old new shown
shows_rows x old new old_side new_side space rows releases others c arrays more shown old_is new_is
    is r s has a b are = record {
      space = space;
      rows = rows;
      has_rows = record {
        old_side = old_side;
        new_side = new_side;
        old_is = old_is;
        new_is = new_is;
        is_diff = is;
      };
      are_shown = subst (λ (s : RowSources). AreShown x space.dimensions s rows shown.rows.items)
          (sources_are old new releases others c arrays more r s has a b) are;
    }

-- and none, if a condition isn't shown
pub shows_rows_if_any : (x : Scope) (old new : Option JudgedApp) (old_side new_side : Side)
    (space : Space) (rows : List DiffRow) (releases others : List Release) (c : ContentNumbers)
    (arrays more : List CellArray) (shown : Option AppRows)
    → IsSideBy (releases_in old new) old old_side → IsSideBy (releases_in old new) new new_side
    → IsDiff x old_side new_side space rows → releases ≡ releases_or_none old
    → others ≡ releases_or_none new → HasContents old new c → arrays ≡ arrays_or_none old
    → more ≡ arrays_or_none new
    → (All (IsLine x) space.dimensions → IfSome shown (λ s. AreShown x space.dimensions
    (sources (releases ++ others) c.old.items c.new.items arrays more) rows s.rows.items))
    → IfSome shown (ShowsRows x old new)
shows_rows_if_any x old new old_side new_side space rows releases others c arrays more None old_is
    new_is is r s has a b are = tt
shows_rows_if_any x old new old_side new_side space rows releases others c arrays more (Some shown)
    old_is new_is is r s has a b are =
    shows_rows x old new old_side new_side space rows releases others c arrays more shown old_is
    new_is is r s has a b (are is.of.lines)
