-- The array that a name finds among several.
use Rattle.std.proofs.Common.{◌≡◌, ◌∙◌, ℕ, suc, List, [], ◌∷◌}
use Rattle.std.proofs.Common.{refl, ap, subst, arith}
use Rattle.std.specs.Prelude.{All, Bool, true, false, cond, Contains, ◌||◌}
use Rattle.std.specs.Prelude.{Some, if◌then◌else◌}
use Rattle.std.specs.List.{find, list_any}
use Rattle.std.specs.Str.{bytes_eq}
use Rattle.std.proofs.lemmas.Bool.{false≢true}
use Rattle.std.proofs.lemmas.List.Elements.{All-head, All-tail}
use Rattle.std.proofs.lemmas.Option.{same_Some}
use Rattle.std.proofs.lemmas.Slice.Eq.{bytes_eq-Decides}
use Rattle.cells.specs.declared.array.CellArray.{CellArray}
use Rattle.rule_lang.specs.Shapes.{array_named}

pub record IsNamed (name : List ℕ) (arrays : List CellArray) (a : CellArray) : Type 0 where
  pub there : Contains arrays a
  pub name_is : a.name ≡ name

first_or_later : (name : List ℕ) (arrays : List CellArray) (a b : CellArray) (same : Bool)
    → bytes_eq b.name name ≡ same
    → (if same then Some b else array_named name arrays) ≡ Some a
    → (array_named name arrays ≡ Some a → IsNamed name arrays a) → IsNamed name (b ∷ arrays) a
first_or_later name arrays a b true same is later =
    subst (λ (c : CellArray). IsNamed name (b ∷ arrays) c) (same_Some b a is) (record {
      there = (0, omega arith, refl);
      name_is = (bytes_eq-Decides b.name name).0 same;
    })
first_or_later name arrays a b false same is later =
    let rest = later is in
    let there = rest.there in
    record {
      there = (suc there.0, (let within = there.1 in omega (arith, within)), there.2);
      name_is = rest.name_is;
    }

pub named : (name : List ℕ) (arrays : List CellArray) (a : CellArray)
    → array_named name arrays ≡ Some a → IsNamed name arrays a
named name [] a is = absurd cc
named name (b ∷ arrays) a is =
    first_or_later name arrays a b (bytes_eq b.name name) refl is (λ h. named name arrays a h)

found_step : (p : CellArray → Bool) (xs : List CellArray) (x a : CellArray) (b : Bool)
    → p x ≡ b → (p x ≡ true → x ≡ a) → (b || list_any p xs) ≡ true
    → (list_any p xs ≡ true → find p xs ≡ Some a)
    → cond b (Some x) (find p xs) ≡ Some a
found_step p xs x a true is only any later = ap (λ (c : CellArray). Some c) (only is)
found_step p xs x a false is only any later = later any

pub found : (p : CellArray → Bool) (a : CellArray) (xs : List CellArray)
    → All (λ x. p x ≡ true → x ≡ a) xs → list_any p xs ≡ true → find p xs ≡ Some a
found p a [] only any = absurd (false≢true any)
found p a (x ∷ xs) only any =
    let P = λ (y : CellArray). p y ≡ true → y ≡ a in
    found_step p xs x a (p x) refl (All-head P x xs only) any
    (λ later. found p a xs (All-tail P x xs only) later)

-- the array that a name finds is found by its own name
pub itself : (name : List ℕ) (arrays : List CellArray) (a : CellArray) → IsNamed name arrays a
    → array_named name arrays ≡ Some a → array_named a.name arrays ≡ Some a
itself name arrays a own is = ap (λ (n : List ℕ). array_named n arrays) own.name_is ∙ is
