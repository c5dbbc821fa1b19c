-- What a cell of a shape grants in a state.
use Rattle.std.proofs.Common.{◌≡◌, ◌∙◌, ℕ, zero, suc, ◌+◌, ◌-◌, ◌<◌, List, [], ◌∷◌, length}
use Rattle.std.proofs.Common.{inl, inr}
use Rattle.std.proofs.Common.{refl, ap, sym, arith}
use Rattle.std.specs.Prelude.{Bool, true, false, cond, Contains, nat_le, nat_lt, Option, Some}
use Rattle.std.specs.Prelude.{slice_index_or}
use Rattle.std.specs.List.{find}
use Rattle.std.proofs.lemmas.Bool.{and_from, and_parts, false≢true, leb-true, le-leb, lt-ltb}
use Rattle.std.proofs.lemmas.Bool.{ltb-true}
use Rattle.cells.specs.Arrays.{AppShape, HasCell, IsShape}
use Rattle.cells.specs.declared.array.CellArray.{CellArray}
use Rattle.diff_space.specs.Machines.{State, declared, has_cell, left_in, left_of}

has_in : (a : CellArray) (cell : ℕ) → HasCell a cell → has_cell a cell ≡ true
has_in a cell has =
    and_from (nat_le a.base cell) (nat_lt cell (a.base + a.length)) (le-leb a.base cell has.0)
    (lt-ltb cell (a.base + a.length) has.1)

in_has : (a : CellArray) (cell : ℕ) → has_cell a cell ≡ true → HasCell a cell
in_has a cell is =
    let both = and_parts (nat_le a.base cell) (nat_lt cell (a.base + a.length)) is in
    (leb-true a.base cell both.0, ltb-true cell (a.base + a.length) both.1)

-- of the arrays of a shape only one has the cell
pub one_array : (s : AppShape) (a b : CellArray) (cell : ℕ) → IsShape s → Contains s.arrays a
    → Contains s.arrays b → HasCell a cell → HasCell b cell → a ≡ b
one_array s a b cell shape there other has also = elim (shape.apart a b there other) [
  | inl same ↦ same
  | inr apart ↦ absurd (apart cell has also)
]

in_front : {X : Type 0} (x : X) (xs : List X) → Contains (x ∷ xs) x
in_front x xs = (0, omega arith, refl)

in_back : {X : Type 0} (x : X) (xs : List X) (a : X) → Contains xs a → Contains (x ∷ xs) a
in_back x xs a h = (suc h.0, (let below = h.1 in omega (arith, below)), h.2)

-- the first array with the cell is one of these
record IsFound (cell : ℕ) (arrays : List CellArray) : Type 0 where
  array : CellArray
  is : find (λ (b : CellArray). has_cell b cell) arrays ≡ Some array
  there : Contains arrays array
  has : HasCell array cell

found_step : (cell : ℕ) (b a : CellArray) (bs : List CellArray) (k : ℕ) (holds : Bool)
    → has_cell b cell ≡ holds → k < length (b ∷ bs) → slice_index_or (b ∷ bs) k a ≡ a
    → HasCell a cell
    → ((h : Contains bs a) → IsFound cell bs) → IsFound cell (b ∷ bs)
found_step cell b a bs k true is below at has later = record {
  array = b;
  is = ap (λ (t : Bool). cond t (Some b) (find (λ (c : CellArray). has_cell c cell) bs)) is;
  there = in_front b bs;
  has = in_has b cell is;
}
found_step cell b a bs zero false is below at has later =
    absurd (false≢true (sym is ∙ ap (λ (c : CellArray). has_cell c cell) at ∙ has_in a cell has))
found_step cell b a bs (suc k) false is below at has later =
    let f = later (k, omega (arith, below), at) in record {
      array = f.array;
      is = ap (λ (t : Bool). cond t (Some b) (find (λ (c : CellArray). has_cell c cell) bs)) is
          ∙ f.is;
      there = in_back b bs f.array f.there;
      has = f.has;
    }

finds : (cell : ℕ) (arrays : List CellArray) (a : CellArray) → Contains arrays a → HasCell a cell
    → IsFound cell arrays
finds cell [] a h has = absurd (let below = h.1 in omega (arith, below))
finds cell (b ∷ bs) a h has =
    found_step cell b a bs h.0 (has_cell b cell) refl h.1 h.2 has (λ more. finds cell bs a more has)

pub left_is : (g : State) (s : AppShape) (a : CellArray) (index : ℕ) → IsShape s
    → Contains s.arrays a → index < a.length
    → left_in g s (a.base + index) ≡ g (declared a) index
left_is g s a index shape there within =
    let cell = a.base + index in
    let has : HasCell a cell = (omega arith, omega (arith, within)) in
    let f = finds cell s.arrays a there has in
    let same = one_array s f.array a cell shape f.there there f.has has in
    let back : cell - a.base ≡ index = omega arith in
    ap (λ (o : Option CellArray). left_of g o cell) (f.is ∙ ap (λ (b : CellArray). Some b) same)
    ∙ ap (g (declared a)) back
