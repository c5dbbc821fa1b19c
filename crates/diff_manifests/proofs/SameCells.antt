-- The cells of two shapes whose arrays are declared alike, and runs that take of them.
use Rattle.std.proofs.Common.{◌≡◌, ◌∙◌, ℕ, ◌+◌, ◌<◌, List, ◌∷◌, map, refl, ap, ap₂, sym, arith}
use Rattle.std.specs.Prelude.{Bool, cond, ◌==◌, Option, Some, if◌then◌else◌, true, false}
use Rattle.std.specs.Cmp.{both_ways}
use Rattle.std.proofs.lemmas.Bool.{eq-eqb, eqb-true}
use Rattle.std.proofs.lemmas.List.Sums.{sum_by-cons}
use Rattle.std.proofs.lemmas.Option.{same_Some}
use Rattle.cells.specs.Arrays.{AppShape, IsShape}
use Rattle.cells.specs.declared.array.CellArray.{CellArray}
use Rattle.cells.specs.declared.event.CellOp.{CellOp}
use Rattle.rule_lang.specs.Meaning.{Operates, Behaviour, Chooses}
use Rattle.rule_lang.specs.Shapes.{array_named, cell_of, granted, quota_of}
use Rattle.diff_space.specs.Machines.{State, chooses_in, declared, left_in, reply_after, takes_of}
use Rattle.diff_rules.proofs.NamedArrays.{named}
use Rattle.diff_manifests.proofs.CellsLeft.{left_is, one_array}
use Rattle.diff_manifests.proofs.Declared.{IsAlike, alike_named}

module _ (g : State) (s t : AppShape) (shape : IsShape s) (other : IsShape t)
    (alike : map declared s.arrays ≡ map declared t.arrays) where
  -- a cell of an array of the one shape, and that of the array of this name of the other
  pub record IsSameCell (c d : ℕ) : Type 0 where
    name : List ℕ
    index : ℕ
    array : CellArray
    found : array_named name s.arrays ≡ Some array
    within : index < array.length
    same : IsAlike name array t.arrays
    cell_is : c ≡ array.base + index
    other_is : d ≡ same.other.base + index

  grants_same : (c d : ℕ) → IsSameCell c d → left_in g s c ≡ left_in g t d
  grants_same c d is =
      let own = named is.name s.arrays is.array is.found in
      let more = named is.name t.arrays is.same.other is.same.is_named in
      let long : is.same.other.length ≡ is.array.length =
      ap (λ (b : CellArray). b.length) is.same.alike in
      let below = is.within in
      ap (left_in g s) is.cell_is ∙ left_is g s is.array is.index shape own.there is.within
      ∙ sym (ap (left_in g t) is.other_is
      ∙ left_is g t is.same.other is.index other more.there (omega (arith, long, below))
      ∙ ap (λ (b : CellArray). g b is.index) is.same.alike)

  -- equal cells have one name and one index
  one_name : (c d e f : ℕ) (x : IsSameCell c d) (y : IsSameCell e f) → c ≡ e
      → (x.name ≡ y.name) × (x.index ≡ y.index)
  one_name c d e f x y same =
      let own = named x.name s.arrays x.array x.found in
      let more = named y.name s.arrays y.array y.found in
      let first = x.within in
      let second = y.within in
      let at = sym x.cell_is ∙ same ∙ y.cell_is in
      let array : x.array ≡ y.array = one_array s x.array y.array (x.array.base + x.index) shape
      own.there more.there (omega arith, omega (arith, first))
      (omega (arith, at), omega (arith, at, second)) in
      let base : x.array.base ≡ y.array.base = ap (λ (b : CellArray). b.base) array in (
        sym own.name_is ∙ ap (λ (b : CellArray). b.name) array ∙ more.name_is,
        omega (arith, at, base),
      )

  -- cells of arrays with one name and one index are equal
  same_other : (c d e f : ℕ) (x : IsSameCell c d) (y : IsSameCell e f) → x.name ≡ y.name
      → x.index ≡ y.index → d ≡ f
  same_other c d e f x y name index =
      let arrays : x.same.other ≡ y.same.other = same_Some x.same.other y.same.other
      (sym x.same.is_named ∙ ap (λ (n : List ℕ). array_named n t.arrays) name
      ∙ y.same.is_named) in
      x.other_is ∙ ap₂ (λ (b : CellArray) (k : ℕ). b.base + k) arrays index ∙ sym y.other_is

  same_one : (c d e f : ℕ) (x : IsSameCell c d) (y : IsSameCell e f) → x.name ≡ y.name
      → x.index ≡ y.index → c ≡ e
  same_one c d e f x y name index =
      let arrays : x.array ≡ y.array = same_Some x.array y.array
      (sym x.found ∙ ap (λ (n : List ℕ). array_named n s.arrays) name ∙ y.found) in
      x.cell_is ∙ ap₂ (λ (b : CellArray) (k : ℕ). b.base + k) arrays index ∙ sym y.cell_is

  -- equal cells of the other shape also have one name and one index
  other_name : (c d e f : ℕ) (x : IsSameCell c d) (y : IsSameCell e f) → d ≡ f
      → (x.name ≡ y.name) × (x.index ≡ y.index)
  other_name c d e f x y same =
      let own = named x.name t.arrays x.same.other x.same.is_named in
      let more = named y.name t.arrays y.same.other y.same.is_named in
      let long : x.same.other.length ≡ x.array.length =
      ap (λ (b : CellArray). b.length) x.same.alike in
      let tall : y.same.other.length ≡ y.array.length =
      ap (λ (b : CellArray). b.length) y.same.alike in
      let first = x.within in
      let second = y.within in
      let at = sym x.other_is ∙ same ∙ y.other_is in
      let array : x.same.other ≡ y.same.other =
      one_array t x.same.other y.same.other (x.same.other.base + x.index) other own.there more.there
      (omega arith, omega (arith, first, long))
      (omega (arith, at), omega (arith, at, second, tall)) in
      let base : x.same.other.base ≡ y.same.other.base = ap (λ (b : CellArray). b.base) array in (
        sym own.name_is ∙ ap (λ (b : CellArray). b.name) array ∙ more.name_is,
        omega (arith, at, base),
      )

  same_truth : (c d e f : ℕ) → IsSameCell c d → IsSameCell e f → (e == c) ≡ (f == d)
  same_truth c d e f x y = both_ways (e == c) (f == d)
      (λ h. let names = one_name e f c d y x (eqb-true e c h) in
      eq-eqb f d (same_other e f c d y x names.0 names.1))
      (λ h. let names = other_name e f c d y x (eqb-true f d h) in
      eq-eqb e c (same_one e f c d y x names.0 names.1))

  -- ---- runs

  -- both runs have taken as often of the same cells
  abbrev pub AreTaken : (taken others : List ℕ) → Type 0
  AreTaken taken others = (c d : ℕ) → IsSameCell c d → takes_of c taken ≡ takes_of d others

  taken_more : (taken others : List ℕ) (e f : ℕ) → IsSameCell e f → AreTaken taken others
      → AreTaken (e ∷ taken) (f ∷ others)
  taken_more taken others e f both are c d is =
      sum_by-cons (λ (n : ℕ). cond (n == c) 1 0) e taken
      ∙ ap₂ (λ (b : Bool) (n : ℕ). cond b 1 0 + n) (same_truth c d e f is both) (are c d is)
      ∙ sym (sum_by-cons (λ (n : ℕ). cond (n == d) 1 0) f others)

  -- both choose the same, after such runs
  abbrev pub ChooseAlike : (b c : Behaviour) → Type 0
  ChooseAlike b c = (taken others : List ℕ) → AreTaken taken others
      → chooses_in (left_in g s) taken b ≡ chooses_in (left_in g t) others c

  pub choice_alike : (k : ℕ) → ChooseAlike (Chooses k) (Chooses k)
  choice_alike k taken others are = refl

  pub either_alike : (b : Bool) (met unmet met' unmet' : Behaviour) → ChooseAlike met met'
      → ChooseAlike unmet unmet'
      → ChooseAlike (if b then met else unmet) (if b then met' else unmet')
  either_alike true met unmet met' unmet' f h = f
  either_alike false met unmet met' unmet' f h = h

  pub asks_alike : (c d : ℕ) (op : CellOp) (next next' : ℕ → Behaviour) → IsSameCell c d
      → ((reply : ℕ) → ChooseAlike (next reply) (next' reply))
      → ChooseAlike (Operates c op next) (Operates d op next')
  asks_alike c d op next next' both alike taken others are =
      alike (reply_after (left_in g s c) (takes_of c taken)) (c ∷ taken) (d ∷ others)
      (taken_more taken others c d both are)
      ∙ ap (λ (n : ℕ). chooses_in (left_in g t) (d ∷ others) (next' n))
      (ap₂ reply_after (grants_same c d both) (are c d both))

  -- the cell of an array with this name
  pub cell_alike : (name : List ℕ) (index : ℕ) (b : CellArray) → array_named name s.arrays ≡ Some b
      → index < b.length
      → IsSameCell (cell_of (array_named name s.arrays) index)
      (cell_of (array_named name t.arrays) index)
  cell_alike name index b is within =
      let same = alike_named name s.arrays t.arrays b alike is in record {
        name = name;
        index = index;
        array = b;
        found = is;
        within = within;
        same = same;
        cell_is = ap (λ (o : Option CellArray). cell_of o index) is;
        other_is = ap (λ (o : Option CellArray). cell_of o index) same.is_named;
      }

  pub quota_alike : (name : List ℕ) (b : CellArray) → array_named name s.arrays ≡ Some b
      → quota_of (array_named name s.arrays) ≡ quota_of (array_named name t.arrays)
  quota_alike name b is =
      let same = alike_named name s.arrays t.arrays b alike is in
      ap quota_of is ∙ sym (ap quota_of same.is_named
      ∙ ap (λ (c : CellArray). granted c.quota) same.alike)
