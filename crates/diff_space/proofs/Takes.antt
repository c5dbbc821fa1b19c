-- A take of a plan is granted as the rule's take is.
use Rattle.std.proofs.Common.{◌≡◌, ℕ, zero, suc, ◌+◌, ◌-◌, ◌^◌, ◌<◌, ◌≤◌, List, [], ◌∷◌, All}
use Rattle.std.proofs.Common.{Contains, length, Option, Some, None, Bool, true, false, inl, inr}
use Rattle.std.proofs.Common.{refl, sym, ap, ap₂, subst, ◌∙◌, arith, find, le-leb, lt-ltb, le-ltb}
use Rattle.std.proofs.Common.{ltb-true, leb-true, cond}
use Rattle.std.specs.Prelude.{nat_le, nat_lt, slice_index_or, if◌then◌else◌}
use Rattle.std.specs.Str.{bytes_eq}
use Rattle.std.proofs.lemmas.List.Elements.{All-contains}
use Rattle.std.proofs.lemmas.Option.{same_Some}
use Rattle.std.proofs.lemmas.Bool.{and_from, and_parts, cases_Bool}
use Rattle.attrs.specs.Attributes.{Attributes}
use Rattle.cells.specs.Arrays.{AppShape, HasCell, IsArray, IsQuota, IsShape}
use Rattle.cells.specs.declared.array.CellArray.{CellArray}
use Rattle.rule_lang.specs.Shapes.{array_named, cell_of, granted, quota_of}
use Rattle.rule_lang.specs.declared.test.Test.TheVariants as test
use Rattle.diff_space.specs.declared.coordinate.Coordinate.{Coordinate}
use Rattle.diff_space.specs.declared.coordinate.Coordinate.TheVariants as coordinate
use Rattle.diff_space.specs.Coordinates.{Dimension, number_in}
use Rattle.diff_space.specs.Lines.{IsLine}
use Rattle.diff_space.specs.Machines.{State, declared, has_cell, left_in, left_of, reply_after}
use Rattle.diff_space.specs.Plans.{TakesOf}
use Rattle.diff_space.specs.Scopes.{IsWithin, Scope}
use Rattle.diff_space.specs.Tests.{IsGrantAt, IsGrantOf}
use Rattle.diff_space.proofs.Ranges.{in_cell}
use Rattle.diff_space.proofs.Tests.{all_at}

-- ---- the array of a cell

here : {X : Type 0} (x : X) (xs : List X) → Contains (x ∷ xs) x
here x xs = (0, omega arith, refl)

later : {X : Type 0} (x : X) (xs : List X) (a : X) → Contains xs a → Contains (x ∷ xs) a
later x xs a h = (suc h.0, (let below = h.1 in omega arith), h.2)

pick : (b : CellArray) (bs : List CellArray) (a : CellArray) (t : Bool) (rest : Option CellArray)
    → (rest ≡ Some a → Contains bs a) → (if t then Some b else rest) ≡ Some a
    → Contains (b ∷ bs) a
pick b bs a true rest more is = subst (Contains (b ∷ bs)) (same_Some b a is) (here b bs)
pick b bs a false rest more is = later b bs a (more is)

contained : (name : List ℕ) (arrays : List CellArray) (a : CellArray)
    → array_named name arrays ≡ Some a → Contains arrays a
contained name [] a is = absurd cc
contained name (b ∷ bs) a is =
    pick b bs a (bytes_eq b.name name) (array_named name bs) (contained name bs a) is

record Finds (p : CellArray → Bool) (arrays : List CellArray) : Type 0 where
  array : CellArray
  is : find p arrays ≡ Some array
  among : Contains arrays array
  holds : p array ≡ true

in_rest : (p : CellArray → Bool) (b : CellArray) (bs : List CellArray) (a : CellArray) (k : ℕ)
    → k < length (b ∷ bs) → slice_index_or (b ∷ bs) k a ≡ a → p b ≡ false → p a ≡ true
    → Contains bs a
in_rest p b bs a zero below is fails holds =
    absurd (let both = sym fails ∙ ap p is ∙ holds in cc)
in_rest p b bs a (suc k) below is fails holds = (k, omega arith, is)

finds : (p : CellArray → Bool) (arrays : List CellArray) (a : CellArray) → Contains arrays a
    → p a ≡ true → Finds p arrays
finds p [] a h holds = absurd (let below = h.1 in omega arith)
finds p (b ∷ bs) a h holds = elim (cases_Bool (p b)) [
  | inl first ↦ record {
    array = b;
    is = ap (λ (t : Bool). cond t (Some b) (find p bs)) first;
    among = here b bs;
    holds = first;
  }
  | inr fails ↦
      let f = finds p bs a (in_rest p b bs a h.0 h.1 h.2 fails holds) holds in record {
        array = f.array;
        is = ap (λ (t : Bool). cond t (Some b) (find p bs)) fails ∙ f.is;
        among = later b bs f.array f.among;
        holds = f.holds;
      }
]

has : (a : CellArray) (cell : ℕ) → has_cell a cell ≡ true → HasCell a cell
has a cell is =
    let both = and_parts (nat_le a.base cell) (nat_lt cell (a.base + a.length)) is in
    (leb-true a.base cell both.0, ltb-true cell (a.base + a.length) both.1)

left_is : (g : State) (s : AppShape) (a : CellArray) (index : ℕ) → IsShape s
    → Contains s.arrays a → index < a.length
    → left_in g s (a.base + index) ≡ g (declared a) index
left_is g s a index shape among within =
    let cell = a.base + index in
    let its : has_cell a cell ≡ true =
    and_from (nat_le a.base cell) (nat_lt cell (a.base + a.length))
    (le-leb a.base cell (omega arith)) (lt-ltb cell (a.base + a.length) (omega arith)) in
    let f = finds (λ (b : CellArray). has_cell b cell) s.arrays a among its in
    let same : f.array ≡ a = elim (shape.apart a f.array among f.among) [
      | inl same ↦ sym same
      | inr apart ↦ absurd (apart cell (has a cell its) (has f.array cell f.holds))
    ] in
    ap (λ (o : Option CellArray). left_of g o cell) (f.is ∙ ap (λ (b : CellArray). Some b) same)
    ∙ ap (g (declared a)) (add-sub_cancel_left a.base index)
  where
    add-sub_cancel_left : (m n : ℕ) → (m + n) - m ≡ n
    add-sub_cancel_left m n = omega arith

-- ---- whether a take is granted

small : (s : AppShape) (a : CellArray) → IsShape s → Contains s.arrays a
    → granted a.quota < 2 ^ 63
small s a shape among =
    by a.quota (All-contains IsArray s.arrays a shape.arrays among).ranges.quota_is
  where
    by : (quota : Option ℕ) → ((q : ℕ) → quota ≡ Some q → IsQuota a.width q)
        → granted quota < 2 ^ 63
    by None is = omega arith
    by (Some q) is = (is q refl).to

granted_if : (left quota taken : ℕ) → left ≤ quota → quota < 2 ^ 63
    → nat_lt (reply_after left taken) quota ≡ nat_lt taken left
granted_if left quota taken most below = by (nat_lt taken left) refl
  where
    by : (b : Bool) → nat_lt taken left ≡ b → nat_lt (if b then 0 else 2 ^ 63) quota ≡ b
    by true is =
        let more : taken < left = ltb-true taken left is in
        lt-ltb 0 quota (omega arith)
    by false is = le-ltb (2 ^ 63) quota (omega arith)

number_is : (of : Coordinate) (texts : List (List ℕ)) (array : CellArray) (index : ℕ)
    → IsGrantOf of array index → (a : Attributes) (g : State)
    → number_in of texts a g ≡ g (declared array) index
number_is (coordinate.Takes own place) texts array index is a g =
    ap₂ (λ (b : CellArray) (k : ℕ). g b k) is.0 is.1
number_is of texts array index is a g = absurd is

pub takes : (x : Scope) (ds : List Dimension) (s : AppShape) (at : ℕ) (name : List ℕ)
    (index cell : ℕ) → IsShape s → All (IsLine x) ds → IsGrantAt ds at s name index cell
    → TakesOf (IsWithin x) ds s (test.Take name index) at cell
takes x ds s at name index cell shape lines h =
    let line = all_at (IsLine x) ds at h.dimension h.is_at lines in
    let among = contained name s.arrays h.array h.is_named in
    record {
      dimension = h.dimension;
      is_at = h.is_at;
      its_cell =
          ap (λ (o : Option CellArray). Some (cell_of o index)) h.is_named
          ∙ ap (λ (n : ℕ). Some n) (sym h.its_cell);
      in_cell = λ a g within. in_cell x h.dimension a g line within;
      holds = λ a g within taken.
          let left : left_in g s cell ≡ g (declared h.array) index =
          ap (left_in g s) h.its_cell ∙ left_is g s h.array index shape among h.within in
          let most : g (declared h.array) index ≤ granted h.array.quota =
          let bound = within.left (declared h.array) index in omega arith in
          ap₂ (λ (n : ℕ) (o : Option CellArray). nat_lt (reply_after n taken) (quota_of o)) left
          h.is_named
          ∙ granted_if (g (declared h.array) index) (granted h.array.quota) taken most
          (small s h.array shape among)
          ∙ ap (nat_lt taken)
          (sym (number_is h.dimension.of h.dimension.texts h.array index h.grants a g));
    }
