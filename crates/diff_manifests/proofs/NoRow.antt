-- The promise of a comparison, from what is proved of rules.
use Rattle.std.proofs.Common.{◌≡◌, ◌∙◌, refl, sym, ap, ℕ, List, inl, inr}
use Rattle.std.specs.Prelude.{Bool, true, false, Contains, Option, Some, None}
use Rattle.std.specs.List.{list_any}
use Rattle.std.proofs.lemmas.Bool.{both_ways}
use Rattle.std.proofs.lemmas.List.Folds.{Any-from_list_any, list_any_at}
use Rattle.attrs.specs.Attributes.{Attributes}
use Rattle.diff_rules.specs.Replies.{RunsAreInStates}
use Rattle.diff_rules.specs.Rows.{DiffRow, row_agrees}
use Rattle.diff_space.specs.Coordinates.{place_of}
use Rattle.diff_space.specs.Machines.{Side, State, gets}
use Rattle.diff_space.specs.Scopes.{IsWithin, Scope}
use Rattle.diff_space.specs.Spaces.{Space}
use Rattle.load.specs.declared.judged.JudgedApp.{JudgedApp}
use Rattle.diff_manifests.specs.Apps.IsSameApp.{same_rule, same_program}
use Rattle.diff_manifests.specs.NoRow.{DiffSound, GivesAlike, HasMachine, IsAlike, IsRowValue}
use Rattle.diff_manifests.specs.NoRow.{RowsMatchRuns, Serves}
use Rattle.diff_manifests.specs.NoRow.{served_side}
use Rattle.diff_manifests.specs.NoRow.IsAlike.{same_content, same_program as alike_program}
use Rattle.diff_manifests.specs.Outcomes.{IsSame}
use Rattle.diff_manifests.specs.Sides.{IsRuleSide}
use Rattle.diff_manifests.proofs.Declared.{fits_alike}
use Rattle.diff_manifests.proofs.Reported.{reported}
use Rattle.diff_manifests.proofs.Served.{gets_alike}

-- ---- runs of servers

-- the rule also fits the server's shape
given : RunsAreInStates → (x : Scope) (side : Side) → IsRuleSide side → (a : Attributes)
    (content : ℕ) (run : Serves x side a content) → GivesAlike x side a content run
given law x side is a content run =
    let other = served_side side run.shape in
    let fit = fits_alike side.shape run.shape run.served.releases run.served.arrays side.statements
    is.fits in
    let found = law x other a run.events run.choice run.served.shape fit run.machine run.run
    run.rise run.from in record {
      state = found.0;
      within = found.1;
      gives = gets_alike side run.shape a found.0 is.shape run.served.shape run.served.arrays
          is.fits ∙ found.2 ∙ sym run.content_is;
      alike = found.3;
    }

-- ---- rows

none : (p : DiffRow → Bool) (rows : List DiffRow) → list_any p rows ≡ false → (row : DiffRow)
    → Contains rows row → p row ≡ true → ⊥
none p rows fails row there passes =
    both_ways (list_any p rows) fails
    (list_any_at p rows there.0 row there.1 (ap p there.2 ∙ passes))

-- what a run of a side gives is said by a row, or the other side gives it in the state
module _ (x : Scope) (space : Space) (rows : List DiffRow) (side other : Side)
    (row_value : DiffRow → ℕ)
    (complete : (a : Attributes) (g : State) → IsWithin x a g
    → ((row : DiffRow) → Contains rows row → HasMachine space row a g → ⊥)
    → gets side a g ≡ gets other a g)
    (says : (a : Attributes) (g : State) → IsWithin x a g → (row : DiffRow) → Contains rows row
    → HasMachine space row a g → gets side a g ≡ row_value row) where
  is_row_value : (a : Attributes) (g : State) (content : ℕ) → IsWithin x a g → gets side a g
      ≡ content
      → (any : Bool) → list_any (λ row. row_agrees row (place_of space.dimensions a g)) rows ≡ any
      → IsRowValue space rows row_value other a g content
  is_row_value a g content within gives true any =
      let f = Any-from_list_any (λ row. row_agrees row (place_of space.dimensions a g)) rows any in
      let there : Contains rows f.1 = (f.0, f.2, f.3) in
      inl (f.1, there, f.4, sym (says a g within f.1 there f.4) ∙ gives)
  is_row_value a g content within gives false any =
      inr (sym (complete a g within
      (none (λ row. row_agrees row (place_of space.dimensions a g)) rows any)) ∙ gives)

  rows_match_runs : RunsAreInStates → IsRuleSide side → RowsMatchRuns x space rows side other
      row_value
  rows_match_runs law is a content run =
      let state = given law x side is a content run in (
        state,
        is_row_value a state.state content state.within state.gives
            (list_any (λ row. row_agrees row (place_of space.dimensions a state.state)) rows) refl,
      )

-- ---- the promise

is_alike : (old new : Option JudgedApp) → IsSame old new → (a : Attributes) (g : State)
    → IsAlike old new a g
is_alike (Some old) (Some new) (same_rule side first second) a g =
    same_content (record {
      old_side = side;
      new_side = side;
      old_is = first;
      new_is = second;
      same = refl;
    })
is_alike (Some old) (Some new) (same_program is) a g =
    alike_program old new refl refl is
is_alike (Some old) None is a g = absurd is
is_alike None new is a g = absurd is

pub diff_sound : RunsAreInStates → DiffSound
diff_sound law = record {
  report = reported;
  rows = λ x old new space rows has. record {
    no_row = has.is_diff.complete;
    true_of = has.is_diff.are_true;
    apart = has.is_diff.apart;
    old_runs = rows_match_runs x space rows has.old_side has.new_side (λ row. row.current)
        has.is_diff.complete
        (λ a g within row there is. (has.is_diff.are_true a g within row there is).0)
        law has.old_is.of_rule;
    new_runs = rows_match_runs x space rows has.new_side has.old_side (λ row. row.next)
        (λ a g within none_has. sym (has.is_diff.complete a g within none_has))
        (λ a g within row there is. (has.is_diff.are_true a g within row there is).1)
        law has.new_is.of_rule;
  };
  same = is_alike;
}
