-- A rule gives a machine the same on arrays that are declared alike, whichever cells they have.
use Rattle.std.proofs.Common.{◌≡◌, ℕ, List, [], ◌∷◌, map, refl, ap, subst}
use Rattle.std.specs.Prelude.{true, not, nat_lt, Option, Some, None, if◌then◌else◌, is_some}
use Rattle.std.specs.List.{list_all}
use Rattle.std.proofs.lemmas.Bool.{and_parts, false≢true, ltb-true}
use Rattle.attrs.specs.Attributes.{Attributes}
use Rattle.cells.specs.Arrays.{AppShape, IsShape}
use Rattle.cells.specs.declared.array.CellArray.{CellArray}
use Rattle.cells.specs.declared.event.CellOp.TheVariants.{Add}
use Rattle.rule_lang.specs.declared.condition.Step.{Step}
use Rattle.rule_lang.specs.declared.condition.Step.TheVariants as step
use Rattle.rule_lang.specs.declared.rule.Statement.{Statement}
use Rattle.rule_lang.specs.declared.rule.Statement.TheVariants.{Count, When}
use Rattle.rule_lang.specs.declared.test.Test.{Test}
use Rattle.rule_lang.specs.declared.test.Test.TheVariants as test
use Rattle.rule_lang.specs.Fits.{can_count, can_take, fits, is_release, statement_fits}
use Rattle.rule_lang.specs.Fits.{step_fits, test_fits}
use Rattle.rule_lang.specs.Meaning.{Operates, Behaviour, Chooses, behaviour, decide, decide_one}
use Rattle.rule_lang.specs.Meaning.{test_holds, test_then}
use Rattle.rule_lang.specs.Shapes.{array_named, cell_of}
use Rattle.rule_lang.specs.Trees.{Tree, Leaf, Negated, Both, Either, trees_from}
use Rattle.diff_space.specs.Machines.{Side, State, content_of, declared, gets}
use Rattle.diff_manifests.proofs.SameCells.{ChooseAlike as Alike, asks_alike as asks}
use Rattle.diff_manifests.proofs.SameCells.{cell_alike as cell, choice_alike as choice}
use Rattle.diff_manifests.proofs.SameCells.{either_alike as either, quota_alike as quota}

module _ (a : Attributes) (g : State) (s t : AppShape) (shape : IsShape s) (other : IsShape t)
    (alike : map declared s.arrays ≡ map declared t.arrays) where
  abbrev ChooseAlike : (b c : Behaviour) → Type 0
  ChooseAlike b c = Alike g s t shape other alike b c

  take_alike : (name : List ℕ) (index : ℕ) (o : Option CellArray) → array_named name s.arrays ≡ o
      → can_take o index ≡ true → (met unmet met' unmet' : Behaviour) → ChooseAlike met met'
      → ChooseAlike unmet unmet'
      → ChooseAlike (test_then a s (test.Take name index) met unmet)
      (test_then a t (test.Take name index) met' unmet')
  take_alike name index None is can met unmet met' unmet' f h = absurd (false≢true can)
  take_alike name index (Some b) is can met unmet met' unmet' f h =
      let both = and_parts (is_some b.quota) (nat_lt index b.length) can in
      asks g s t shape other alike (cell_of (array_named name s.arrays) index)
      (cell_of (array_named name t.arrays) index) (Add 1)
      (λ reply. if test_holds a s reply (test.Take name index) then met else unmet)
      (λ reply. if test_holds a t reply (test.Take name index) then met' else unmet')
      (cell g s t shape other alike name index b is (ltb-true index b.length both.1))
      (λ reply. subst (λ (q : ℕ). ChooseAlike
      (if test_holds a s reply (test.Take name index) then met else unmet)
      (if nat_lt reply q then met' else unmet')) (quota g s t shape other alike name b is)
      (either g s t shape other alike (test_holds a s reply (test.Take name index)) met unmet met'
      unmet' f h))

  test_alike : (one : Test) → test_fits s one ≡ true → (met unmet met' unmet' : Behaviour)
      → ChooseAlike met met' → ChooseAlike unmet unmet'
      → ChooseAlike (test_then a s one met unmet) (test_then a t one met' unmet')
  test_alike (test.Version r w) fit met unmet met' unmet' f h =
      either g s t shape other alike (test_holds a s 0 (test.Version r w)) met unmet met' unmet'
      f h
  test_alike (test.Bucket salt modulus r n) fit met unmet met' unmet' f h =
      either g s t shape other alike (test_holds a s 0 (test.Bucket salt modulus r n)) met unmet
      met' unmet' f h
  test_alike (test.Today r n) fit met unmet met' unmet' f h =
      either g s t shape other alike (test_holds a s 0 (test.Today r n)) met unmet met' unmet' f h
  test_alike (test.Installed r n) fit met unmet met' unmet' f h =
      either g s t shape other alike (test_holds a s 0 (test.Installed r n)) met unmet met' unmet'
      f h
  test_alike (test.Flag flag) fit met unmet met' unmet' f h =
      either g s t shape other alike (test_holds a s 0 (test.Flag flag)) met unmet met' unmet' f h
  test_alike (test.Attr n text) fit met unmet met' unmet' f h =
      either g s t shape other alike (test_holds a s 0 (test.Attr n text)) met unmet met' unmet' f h
  test_alike (test.Take name index) fit met unmet met' unmet' f h =
      take_alike name index (array_named name s.arrays) refl fit met unmet met' unmet' f h

  -- ---- conditions

  abbrev TreeFits : Tree → Type 0
  TreeFits (Leaf line one) = test_fits s one ≡ true
  TreeFits (Negated c) = TreeFits c
  TreeFits (Both b c) = TreeFits b × TreeFits c
  TreeFits (Either b c) = TreeFits b × TreeFits c

  tree_alike : (c : Tree) → TreeFits c → (met unmet met' unmet' : Behaviour)
      → ChooseAlike met met' → ChooseAlike unmet unmet'
      → ChooseAlike (decide a s c met unmet) (decide a t c met' unmet')
  tree_alike (Leaf line one) fit met unmet met' unmet' f h =
      test_alike one fit met unmet met' unmet' f h
  tree_alike (Negated c) fit met unmet met' unmet' f h =
      tree_alike c fit unmet met unmet' met' h f
  tree_alike (Both b c) fit met unmet met' unmet' f h =
      tree_alike b fit.0 (decide a s c met unmet) unmet (decide a t c met' unmet') unmet'
      (tree_alike c fit.1 met unmet met' unmet' f h) h
  tree_alike (Either b c) fit met unmet met' unmet' f h =
      tree_alike b fit.0 met (decide a s c met unmet) met' (decide a t c met' unmet') f
      (tree_alike c fit.1 met unmet met' unmet' f h)

  abbrev TreesFit : List Tree → Type 0
  TreesFit [] = Unit {0}
  TreesFit (c ∷ cs) = TreeFits c × TreesFit cs

  abbrev SomeFit : Option (List Tree) → Type 0
  SomeFit None = Unit {0}
  SomeFit (Some cs) = TreesFit cs

  trees_fit : (cs : List Tree) (ss : List Step) → TreesFit cs → list_all (step_fits s) ss ≡ true
      → SomeFit (trees_from cs ss)
  trees_fit cs [] have fit = have
  trees_fit cs (step.Test line one ∷ ss) have fit =
      let both = and_parts (test_fits s one) (list_all (step_fits s) ss) fit in
      trees_fit (Leaf line one ∷ cs) ss (both.0, have) both.1
  trees_fit [] (step.Not ∷ ss) have fit = tt
  trees_fit (c ∷ cs) (step.Not ∷ ss) have fit = trees_fit (Negated c ∷ cs) ss have fit
  trees_fit [] (step.And ∷ ss) have fit = tt
  trees_fit (b ∷ []) (step.And ∷ ss) have fit = tt
  trees_fit (b ∷ c ∷ cs) (step.And ∷ ss) have fit =
      trees_fit (Both c b ∷ cs) ss ((have.1.0, have.0), have.1.1) fit
  trees_fit [] (step.Or ∷ ss) have fit = tt
  trees_fit (b ∷ []) (step.Or ∷ ss) have fit = tt
  trees_fit (b ∷ c ∷ cs) (step.Or ∷ ss) have fit =
      trees_fit (Either c b ∷ cs) ss ((have.1.0, have.0), have.1.1) fit

  one_alike : (trees : Option (List Tree)) → SomeFit trees → (release : ℕ)
      (rest rest' : Behaviour) → ChooseAlike rest rest'
      → ChooseAlike (decide_one a s trees (Chooses release) rest)
      (decide_one a t trees (Chooses release) rest')
  one_alike None fit release rest rest' same = same
  one_alike (Some []) fit release rest rest' same = same
  one_alike (Some (c ∷ [])) fit release rest rest' same =
      tree_alike c fit.0 (Chooses release) rest (Chooses release) rest'
      (choice g s t shape other alike release) same
  one_alike (Some (b ∷ c ∷ cs)) fit release rest rest' same = same

  -- ---- rules

  count_alike : (name : List ℕ) (index : ℕ) (o : Option CellArray)
      → array_named name s.arrays ≡ o → can_count o index ≡ true → (rest rest' : Behaviour)
      → ChooseAlike rest rest'
      → ChooseAlike (Operates (cell_of (array_named name s.arrays) index) (Add 1) (λ reply. rest))
      (Operates (cell_of (array_named name t.arrays) index) (Add 1) (λ reply. rest'))
  count_alike name index None is can rest rest' same = absurd (false≢true can)
  count_alike name index (Some b) is can rest rest' same =
      let both = and_parts (not (is_some b.quota)) (nat_lt index b.length) can in
      asks g s t shape other alike (cell_of (array_named name s.arrays) index)
      (cell_of (array_named name t.arrays) index) (Add 1) (λ reply. rest) (λ reply. rest')
      (cell g s t shape other alike name index b is (ltb-true index b.length both.1))
      (λ reply. same)

  rule_alike : (rule : List Statement) → fits s rule ≡ true
      → ChooseAlike (behaviour a s rule) (behaviour a t rule)
  rule_alike [] fit = choice g s t shape other alike 0
  rule_alike (Count name index ∷ rule) fit =
      let both = and_parts (statement_fits s (Count name index)) (fits s rule) fit in
      count_alike name index (array_named name s.arrays) refl both.0 (behaviour a s rule)
      (behaviour a t rule) (rule_alike rule both.1)
  rule_alike (When steps release ∷ rule) fit =
      let both = and_parts (statement_fits s (When steps release)) (fits s rule) fit in
      let own = and_parts (list_all (step_fits s) steps) (is_release s release) both.0 in
      one_alike (trees_from [] steps) (trees_fit [] steps tt own.0) release (behaviour a s rule)
      (behaviour a t rule) (rule_alike rule both.1)

-- the content that a machine gets depends on how arrays are declared, and not on their cells
pub gets_alike : (side : Side) (t : AppShape) (a : Attributes) (g : State) → IsShape side.shape
    → IsShape t → map declared side.shape.arrays ≡ map declared t.arrays
    → fits side.shape side.statements ≡ true
    → gets side a g
    ≡ gets (record { shape = t; statements = side.statements; contents = side.contents }) a g
gets_alike side t a g shape other alike fit =
    ap (content_of side.contents)
    (rule_alike a g side.shape t shape other alike side.statements fit [] [] (λ c d is. refl))
