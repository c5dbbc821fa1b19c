-- Arrays by their names: the number of the first array with a name, and its properties if a rule
-- fits.
use Rattle.std.proofs.Common.{◌≡◌, ℕ, suc, ◌+◌, ◌<◌, ◌≤◌, ◌^◌, List, [], ◌∷◌, All, Option}
use Rattle.std.proofs.Common.{Some, None, Bool, true, false, refl, sym, ap, subst, ◌∙◌, arith}
use Rattle.std.specs.Prelude.{slice_get, nat_lt, ◌&&◌, not, is_some, if◌then◌else◌}
use Rattle.std.specs.Str.{bytes_eq}
use Rattle.std.proofs.lemmas.List.Elements.{All-head, All-tail}
use Rattle.cells.specs.Arrays.{IsArray, first_cell}
use Rattle.cells.specs.declared.array.CellArray.{CellArray}
use Rattle.cells.specs.declared.array.CellWidth.{CellWidth}
use Rattle.cells.specs.declared.array.CellWidth.TheVariants.{Bits32, Bits64}
use Rattle.rule_lang.specs.Fits.{can_take, can_count}
use Rattle.rule_lang.specs.Shapes.{array_named, cell_of, quota_of, granted}
use Rattle.rule_compile.specs.Code.{place_named, array_size, size_of}
use Rattle.rule_compile.proofs.Counters.{IsCellOf}

pub both_true : (b c : Bool) → (b && c) ≡ true → (b ≡ true) × (c ≡ true)
both_true true c h = (refl, h)
both_true false c h = absurd cc

not_true : (b : Bool) → not b ≡ true → b ≡ false
not_true true h = absurd cc
not_true false h = refl

pub lt_of : (i n : ℕ) → nat_lt i n ≡ true → i < n
lt_of i n h = grind (arith, h)

-- the first array with this name has this number, and is one of the shape's
pub record IsFound (name : List ℕ) (arrays : List CellArray) (a : CellArray) : Type 0 where
  pub named : array_named name arrays ≡ Some a
  pub place : slice_get arrays (place_named name arrays) ≡ Some a
  pub array : IsArray a

pub found : (name : List ℕ) (arrays : List CellArray) (a : CellArray) → All IsArray arrays
    → array_named name arrays ≡ Some a → IsFound name arrays a
found name [] a all is = absurd cc
found name (b ∷ rest) a all is = by_name (bytes_eq b.name name) refl
    (λ later. found name rest a (All-tail IsArray b rest all) later)
  where
    by_name : (t : Bool) → bytes_eq b.name name ≡ t
        → (array_named name rest ≡ Some a → IsFound name rest a) → IsFound name (b ∷ rest) a
    by_name true e go =
        let same : Some b ≡ Some a = ap (λ (t : Bool). if t then Some b else array_named name rest)
        (sym e) ∙ is in
        record {
          named = is;
          place = ap (λ (t : Bool). slice_get (b ∷ rest)
              (if t then 0 else suc (place_named name rest))) e ∙ same;
          array = let eq : b ≡ a = cc in subst IsArray eq (All-head IsArray b rest all);
        }
    by_name false e go =
        let later : array_named name rest ≡ Some a =
        ap (λ (t : Bool). if t then Some b else array_named name rest) (sym e) ∙ is in
        let f = go later in
        record {
          named = is;
          place = ap (λ (t : Bool). slice_get (b ∷ rest)
              (if t then 0 else suc (place_named name rest))) e ∙ f.place;
          array = f.array;
        }

-- ---- what fits

-- a cell of the array, with the array's width
cell_fits : (a : CellArray) (index : ℕ) → IsArray a → index < a.length
    → IsCellOf (size_of a.width) (a.base + index)
cell_fits a index h lt = by_width a.width h.from h.to
  where
    by_width : (w : CellWidth) → first_cell w ≤ a.base → a.base + a.length ≤ first_cell w + 4096
        → IsCellOf (size_of w) (a.base + index)
    by_width Bits64 low high = omega (arith, low, high, lt)
    by_width Bits32 low high = (omega (arith, low, high, lt), omega (arith, low, high, lt))

-- what a count needs: its array, and a cell in that array
pub record CanCount (arrays : List CellArray) (name : List ℕ) (index : ℕ) : Type 0 where
  pub array : CellArray
  pub found : IsFound name arrays array
  pub within : index < array.length
  pub cell : IsCellOf (array_size (array_named name arrays))
      (cell_of (array_named name arrays) index)
  pub sum : array.base + index ≡ cell_of (array_named name arrays) index
  pub free : is_some array.quota ≡ false

count_fits : (arrays : List CellArray) (name : List ℕ) (index : ℕ) (a : CellArray)
    → IsFound name arrays a → index < a.length → is_some a.quota ≡ false
    → CanCount arrays name index
count_fits arrays name index a f lt free = record {
  array = a;
  free = free;
  found = f;
  within = lt;
  cell = subst (λ (o : Option CellArray). IsCellOf (array_size o) (cell_of o index)) (sym f.named)
      (cell_fits a index f.array lt);
  sum = subst (λ (o : Option CellArray). a.base + index ≡ cell_of o index) (sym f.named) refl;
}

pub can_count_is : (arrays : List CellArray) (name : List ℕ) (index : ℕ) → All IsArray arrays
    → can_count (array_named name arrays) index ≡ true → CanCount arrays name index
can_count_is arrays name index all h = on_found (array_named name arrays) refl h
  where
    on_found : (o : Option CellArray) → array_named name arrays ≡ o → can_count o index ≡ true
        → CanCount arrays name index
    on_found None is h = absurd cc
    on_found (Some a) is h =
        let two = both_true (not (is_some a.quota)) (nat_lt index a.length) h in
        count_fits arrays name index a (found name arrays a all is) (lt_of index a.length two.1)
        (not_true (is_some a.quota) two.0)

-- what a take needs: also, the array has a quota, and its cell has 64 bits
pub record CanTake (arrays : List CellArray) (name : List ℕ) (index : ℕ) : Type 0 where
  pub array : CellArray
  pub found : IsFound name arrays array
  pub within : index < array.length
  pub cell : cell_of (array_named name arrays) index < 4096
  pub sum : array.base + index ≡ cell_of (array_named name arrays) index
  pub quota : quota_of (array_named name arrays) < 2 ^ 63

take_fits : (arrays : List CellArray) (name : List ℕ) (index : ℕ) (a : CellArray)
    → IsFound name arrays a → index < a.length → is_some a.quota ≡ true → CanTake arrays name index
take_fits arrays name index a f lt some = on_quota a.quota refl some
  where
    on_quota : (o : Option ℕ) → a.quota ≡ o → is_some o ≡ true → CanTake arrays name index
    on_quota None is some = absurd cc
    on_quota (Some q) is some =
        let quota = f.array.ranges.quota_is q is in
        let wide : first_cell a.width ≡ 0 = ap first_cell quota.width in
        let to = f.array.to in
        record {
          array = a;
          found = f;
          within = lt;
          cell = subst (λ (o : Option CellArray). cell_of o index < 4096) (sym f.named)
              (omega (arith, to, wide, lt));
          sum = subst (λ (o : Option CellArray). a.base + index ≡ cell_of o index)
              (sym f.named) refl;
          quota = subst (λ (o : Option CellArray). quota_of o < 2 ^ 63) (sym f.named)
              (subst (λ (o : Option ℕ). granted o < 2 ^ 63) (sym is) quota.to);
        }

pub can_take_is : (arrays : List CellArray) (name : List ℕ) (index : ℕ) → All IsArray arrays
    → can_take (array_named name arrays) index ≡ true → CanTake arrays name index
can_take_is arrays name index all h = on_found (array_named name arrays) refl h
  where
    on_found : (o : Option CellArray) → array_named name arrays ≡ o → can_take o index ≡ true
        → CanTake arrays name index
    on_found None is h = absurd cc
    on_found (Some a) is h =
        let two = both_true (is_some a.quota) (nat_lt index a.length) h in
        take_fits arrays name index a (found name arrays a all is)
        (lt_of index a.length two.1) two.0

-- the array with this number is the one with this name, or neither exists
pub named_place : (name : List ℕ) (arrays : List CellArray)
    → slice_get arrays (place_named name arrays) ≡ array_named name arrays
named_place name [] = refl
named_place name (b ∷ rest) = by_name (bytes_eq b.name name) (named_place name rest)
  where
    by_name : (t : Bool) → slice_get rest (place_named name rest) ≡ array_named name rest
        → slice_get (b ∷ rest) (if t then 0 else suc
        (place_named name rest)) ≡ (if t then Some b else array_named name rest)
    by_name true h = refl
    by_name false h = h
