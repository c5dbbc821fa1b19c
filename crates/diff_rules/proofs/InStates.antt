-- The state of a run: each cell grants as many takes as got a reply below the quota.
use Rattle.std.proofs.Common.{◌≡◌, ◌∙◌, ℕ, ◌+◌, ◌-◌, ◌<◌, ◌≤◌, List, [], ◌∷◌}
use Rattle.std.proofs.Common.{inl, inr, refl, ap, sym, subst, arith}
use Rattle.std.specs.Prelude.{All, Bool, true, false, Contains, nat_le, nat_lt}
use Rattle.std.specs.Prelude.{Option, Some, None, if◌then◌else◌, is_some}
use Rattle.std.specs.List.{count_by, find, list_all, list_any}
use Rattle.std.proofs.lemmas.Bool.{and_from, and_parts, false≢true, le-leb, leb-true, lt-ltb}
use Rattle.std.proofs.lemmas.Bool.{ltb-true}
use Rattle.std.proofs.lemmas.List.Elements.{All-contains, All-contains_itself}
use Rattle.std.proofs.lemmas.List.Elements.{All-weaker}
use Rattle.std.proofs.lemmas.List.Recursion.{or_at}
use Rattle.attrs.specs.Attributes.{Attributes}
use Rattle.cells.specs.Arrays.{AppShape, HasCell, IsArray, IsShape}
use Rattle.cells.specs.declared.array.CellArray.{CellArray}
use Rattle.cells.specs.declared.event.CellEvent.{CellEvent}
use Rattle.rule_lang.specs.declared.condition.Step.{Step}
use Rattle.rule_lang.specs.declared.condition.Step.TheVariants as step
use Rattle.rule_lang.specs.declared.rule.Statement.{Statement}
use Rattle.rule_lang.specs.declared.rule.Statement.TheVariants.{Count, When}
use Rattle.rule_lang.specs.declared.test.Test.{Test}
use Rattle.rule_lang.specs.declared.test.Test.TheVariants as test
use Rattle.rule_lang.specs.Fits.{can_take, fits, is_release, statement_fits, step_fits, test_fits}
use Rattle.rule_lang.specs.Meaning.{behaviour}
use Rattle.rule_lang.specs.Shapes.{array_named, cell_of, granted, quota_of}
use Rattle.rule_lang.specs.Trees.{Tree, Leaf, Negated, Both, Either, trees_from}
use Rattle.diff_space.specs.declared.bounds.CellBound.{CellBound}
use Rattle.diff_space.specs.Machines.{State, content_of, declared, has_cell, left_in, left_of}
use Rattle.diff_space.specs.Scopes.{least_value}
use Rattle.diff_rules.specs.Replies.{GrantsAlike, RepliesAreFrom, RepliesRise, RisesOn}
use Rattle.diff_rules.specs.Replies.{RunsAreInStates, on_cell}
use Rattle.diff_rules.proofs.NamedArrays.{IsNamed, found, itself, named}
use Rattle.diff_rules.proofs.Played.{AllPlayed, IsPlayed, Plays, SomePlayed, a_take, count_plays}
use Rattle.diff_rules.proofs.Played.{no_cell, none_plays, one_plays}
use Rattle.diff_rules.proofs.Rising.{few_granted, granted_in, granted_is}

-- ---- the state

abbrev granted_at : Option CellArray → (index quota : ℕ) → List CellEvent → ℕ
granted_at o index quota events =
    if can_take o index then granted_in (cell_of o index) quota events else 0

abbrev state_of : AppShape → List CellEvent → State
state_of s events array index =
    granted_at (array_named array.name s.arrays) index (granted array.quota) events

module _ (used : List CellBound) (s : AppShape) (events : List CellEvent)
    (rise : RepliesRise s events) (from : RepliesAreFrom used s events) (array : CellArray)
    (index : ℕ) where
  few_at : (b : CellArray) → IsNamed array.name s.arrays b
      → array_named array.name s.arrays ≡ Some b → (can : Bool) → can_take (Some b) index ≡ can
      → (if can then granted_in (b.base + index) (granted array.quota) events else 0)
      ≤ granted array.quota - least_value used array.name index
  few_at b own is true can =
      let both = and_parts (is_some b.quota) (nat_lt index b.length) can in
      let within = ltb-true index b.length both.1 in
      let by_name = itself array.name s.arrays b own is in
      few_granted (b.base + index) (granted array.quota) (least_value used array.name index) events
      (rise b index by_name both.0 within)
      (subst (λ (name : List ℕ). All (λ (e : CellEvent). e.cell ≡ b.base + index
      → least_value used name index ≤ e.reply) events) own.name_is
      (from b index by_name both.0 within))
  few_at b own is false can = omega arith

  few_in : (o : Option CellArray) → array_named array.name s.arrays ≡ o
      → granted_at o index (granted array.quota) events
      ≤ granted array.quota - least_value used array.name index
  few_in None is = omega arith
  few_in (Some b) is =
      few_at b (named array.name s.arrays b is) is (can_take (Some b) index) refl

-- ---- the tests

has_in : (a : CellArray) (cell : ℕ) → HasCell a cell → has_cell a cell ≡ true
has_in a cell has =
    and_from (nat_le a.base cell) (nat_lt cell (a.base + a.length)) (le-leb a.base cell has.0)
    (lt-ltb cell (a.base + a.length) has.1)

in_has : (a : CellArray) (cell : ℕ) → has_cell a cell ≡ true → HasCell a cell
in_has a cell is =
    let both = and_parts (nat_le a.base cell) (nat_lt cell (a.base + a.length)) is in
    (leb-true a.base cell both.0, ltb-true cell (a.base + a.length) both.1)

quota_there : (o : Option ℕ) → is_some o ≡ true → (q : ℕ) × (o ≡ Some q)
quota_there (Some q) is = (q, refl)
quota_there None is = absurd (false≢true is)

module _ (a : Attributes) (s : AppShape) (shape : IsShape s) (events : List CellEvent)
    (rise : RepliesRise s events) where
  abbrev left : ℕ → ℕ
  left = left_in (state_of s events) s

  one_has : (b : CellArray) (cell : ℕ) → Contains s.arrays b → HasCell b cell
      → find (λ (x : CellArray). has_cell x cell) s.arrays ≡ Some b
  one_has b cell there has =
      let p = λ (x : CellArray). has_cell x cell in
      found p b s.arrays
      (All-weaker (λ (x : CellArray). Contains s.arrays x)
      (λ (x : CellArray). p x ≡ true → x ≡ b)
      (λ x is own. elim (shape.apart x b is there) [
        | inl same ↦ same
        | inr apart ↦ absurd (apart cell (in_has x cell own) has)
      ]) s.arrays (All-contains_itself s.arrays))
      (or_at (list_any p) p refl (λ _ _. refl) s.arrays there.0 b there.1
      (ap p there.2 ∙ has_in b cell has))

  state_is : (b : CellArray) (index : ℕ) → array_named b.name s.arrays ≡ Some b
      → can_take (Some b) index ≡ true
      → state_of s events (declared b) index
      ≡ granted_in (b.base + index) (granted b.quota) events
  state_is b index is can =
      ap (λ (o : Option CellArray). granted_at o index (granted b.quota) events) is
      ∙ ap (λ (h : Bool). if h then granted_in (b.base + index) (granted b.quota) events else 0) can

  left_is : (b : CellArray) (index : ℕ) → Contains s.arrays b
      → array_named b.name s.arrays ≡ Some b → can_take (Some b) index ≡ true → index < b.length
      → left (b.base + index) ≡ granted_in (b.base + index) (granted b.quota) events
  left_is b index there is can within =
      let cell = b.base + index in
      let back : cell - b.base ≡ index = omega arith in
      ap (λ (o : Option CellArray). left_of (state_of s events) o cell)
      (one_has b cell there (omega arith, omega (arith, within)))
      ∙ ap (λ (n : ℕ). state_of s events (declared b) n) back
      ∙ state_is b index is can

  grants_alike : GrantsAlike s events (state_of s events)
  grants_alike b index is quota within done rest e splits here =
      let cell = b.base + index in
      let can = and_from (is_some b.quota) (nat_lt index b.length) quota
      (lt-ltb index b.length within) in
      granted_is cell (granted b.quota) done rest e here
      (subst (λ (es : List CellEvent). RisesOn cell es) splits (rise b index is quota within))
      ∙ ap (λ (es : List CellEvent). nat_lt (count_by (on_cell cell) done)
      (granted_in cell (granted b.quota) es)) (sym splits)
      ∙ ap (λ (n : ℕ). nat_lt (count_by (on_cell cell) done) n) (sym (state_is b index is can))

  take_is : (name : List ℕ) (index : ℕ) (o : Option CellArray) → array_named name s.arrays ≡ o
      → can_take o index ≡ true → IsPlayed a s left events (test.Take name index)
  take_is name index None is can = absurd (false≢true can)
  take_is name index (Some b) is can =
      let both = and_parts (is_some b.quota) (nat_lt index b.length) can in
      let own = named name s.arrays b is in
      let within = ltb-true index b.length both.1 in
      let q = quota_there b.quota both.0 in
      let array = All-contains IsArray s.arrays b shape.arrays own.there in
      let by_name = itself name s.arrays b own is in
      let quota = array.ranges.quota_is q.0 q.1 in
      let same : granted b.quota ≡ q.0 = ap granted q.1 in
      let some = quota.from in
      let few = quota.to in
      a_take (test.Take name index) (b.base + index) (granted b.quota)
      (ap (λ (o : Option CellArray). Some (cell_of o index)) is)
      (λ reply. ap (λ (o : Option CellArray). nat_lt reply (quota_of o)) is)
      (omega (arith, same, some)) (omega (arith, same, few))
      (left_is b index own.there by_name can within) (rise b index by_name both.0 within)

  test_is : (t : Test) → test_fits s t ≡ true → IsPlayed a s left events t
  test_is (test.Version r w) fit = no_cell (test.Version r w) refl
  test_is (test.Bucket salt modulus r n) fit = no_cell (test.Bucket salt modulus r n) refl
  test_is (test.Today r n) fit = no_cell (test.Today r n) refl
  test_is (test.Installed r n) fit = no_cell (test.Installed r n) refl
  test_is (test.Flag f) fit = no_cell (test.Flag f) refl
  test_is (test.Attr n text) fit = no_cell (test.Attr n text) refl
  test_is (test.Take name index) fit =
      take_is name index (array_named name s.arrays) refl fit

  -- ---- from steps to trees

  steps_are_played : (cs : List Tree) (ss : List Step) → AllPlayed a s left events cs
      → list_all (step_fits s) ss ≡ true → SomePlayed a s left events (trees_from cs ss)
  steps_are_played cs [] have fit = have
  steps_are_played cs (step.Test line t ∷ ss) have fit =
      let both = and_parts (test_fits s t) (list_all (step_fits s) ss) fit in
      steps_are_played (Leaf line t ∷ cs) ss (test_is t both.0, have) both.1
  steps_are_played [] (step.Not ∷ ss) have fit = tt
  steps_are_played (c ∷ cs) (step.Not ∷ ss) have fit =
      steps_are_played (Negated c ∷ cs) ss have fit
  steps_are_played [] (step.And ∷ ss) have fit = tt
  steps_are_played (b ∷ []) (step.And ∷ ss) have fit = tt
  steps_are_played (b ∷ c ∷ cs) (step.And ∷ ss) have fit =
      steps_are_played (Both c b ∷ cs) ss ((have.1.0, have.0), have.1.1) fit
  steps_are_played [] (step.Or ∷ ss) have fit = tt
  steps_are_played (b ∷ []) (step.Or ∷ ss) have fit = tt
  steps_are_played (b ∷ c ∷ cs) (step.Or ∷ ss) have fit =
      steps_are_played (Either c b ∷ cs) ss ((have.1.0, have.0), have.1.1) fit

  rule_plays : (rule : List Statement) → fits s rule ≡ true
      → Plays a s left events (behaviour a s rule)
  rule_plays [] fit = none_plays a s left events
  rule_plays (Count name index ∷ rule) fit =
      let both = and_parts (statement_fits s (Count name index)) (fits s rule) fit in
      count_plays a s left events (cell_of (array_named name s.arrays) index)
      (behaviour a s rule) (rule_plays rule both.1)
  rule_plays (When steps release ∷ rule) fit =
      let both = and_parts (statement_fits s (When steps release)) (fits s rule) fit in
      let own = and_parts (list_all (step_fits s) steps) (is_release s release) both.0 in
      one_plays a s left events (trees_from [] steps)
      (steps_are_played [] steps tt own.0) release (behaviour a s rule) (rule_plays rule both.1)

pub runs_are_in_states : RunsAreInStates
runs_are_in_states x side a events choice shape fit machine trace rise from = (
  state_of side.shape events,
  record {
    machine = machine;
    left = λ array index. few_in x.used side.shape events rise from array index
        (array_named array.name side.shape.arrays) refl;
  },
  ap (content_of side.contents)
      (rule_plays a side.shape shape events rise side.statements fit [] events [] choice refl
      (λ cell. refl) trace),
  grants_alike a side.shape shape events rise,
)
