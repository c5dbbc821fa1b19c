-- One declaration after others.
use Rattle.std.proofs.Common.{◌≡◌, ℕ, suc, ◌+◌, ◌<◌, List, [], ◌∷◌, ◌++◌}
use Rattle.std.proofs.Common.{length, take, get_or, Option, arith, ◌≤◌, refl, sym, ap, ◌∙◌}
use Rattle.std.proofs.Common.{append_assoc, append-nil}
use mathlib.Core.List.{IsPrefix}
use Rattle.std.specs.Prelude.{All}
use Rattle.std.proofs.Math.Seq.{take-suc}
use Rattle.std.proofs.lemmas.List.{length-append}
use Rattle.std.proofs.lemmas.List.Elements.{All-cons, All-nil}
use Rattle.std.proofs.lemmas.Option.{slice_get_within}
use Rattle.cells.specs.declared.array.ArrayNo.{ArrayNo}
use Rattle.cells.specs.declared.array.CellArray.{CellArray}
use Rattle.cells.specs.Directory.{Declaration, declaration, Declares, next_array}
use Rattle.cells.specs.declared.array.CellWidth.{CellWidth}
use Rattle.cells.specs.Directory.Declares.{again, anew}
use Rattle.declarations.specs.Order.{AreDeclared}
use Rattle.declarations.specs.Order.AreDeclared.{none, next}

-- the declarations of a list, and then one more
pub after_them : {old between new : List CellArray} {ds : List Declaration} {d : Declaration}
    {numbers : List ArrayNo} {n : ArrayNo} → AreDeclared old ds numbers between
    → Declares d between n.number new → AreDeclared old (ds ++ d ∷ []) (numbers ++ n ∷ []) new
after_them none declares = next declares none
after_them (next first others) declares = next first (after_them others declares)

-- one more declaration of a list
pub one_more : {old between new : List CellArray} {numbers : List ArrayNo} {n : ArrayNo}
    {d : Declaration} (all : List Declaration) (k : ℕ) (x : Declaration)
    → AreDeclared old (take k all) numbers between → k < length all → d ≡ get_or all k x
    → Declares d between n.number new
    → AreDeclared old (take (k + 1) all) (numbers ++ n ∷ []) new
one_more all k x are within d_is declares =
    let next_place : k + 1 ≡ suc k = omega arith in
    rw (next_place, take-suc all k x within, ← d_is) (after_them are declares)

grown : {d : Declaration} {old new : List CellArray} {n : ℕ} → Declares d old n new
    → (n < length new) × (length old ≤ length new)
grown {d} {old} (again {n} {a} declaration_is declared) =
    (slice_get_within old n a declaration_is, omega arith)
grown {d} {old} (anew is_new room) =
    let longer = length-append old (next_array d old ∷ []) in
    (omega (arith, longer), omega (arith, longer))

begins : {d : Declaration} {old new : List CellArray} {n : ℕ} → Declares d old n new
    → IsPrefix old new
begins {old = old} (again declaration_is declared) = ([], append-nil old)
begins {d = d} {old = old} (anew is_new room) = (next_array d old ∷ [], refl)

begins_on : (u v w : List CellArray) → IsPrefix u v → IsPrefix v w → IsPrefix u w
begins_on u v w first later = (
  first.0 ++ later.0,
  sym (append_assoc u first.0 later.0)
      ∙ ap (λ (l : List CellArray). l ++ later.0) first.1 ∙ later.1,
)

-- the directory before is a prefix of the directory after
pub all_begin : {old new : List CellArray} {ds : List Declaration} {numbers : List ArrayNo}
    → AreDeclared old ds numbers new → IsPrefix old new
all_begin {old = old} none = ([], append-nil old)
all_begin {old = old} {new = new} (next {between = between} first others) =
    begins_on old between new (begins first) (all_begin others)

-- the numbers are those of arrays
pub all_within : {old new : List CellArray} {ds : List Declaration} {numbers : List ArrayNo}
    → AreDeclared old ds numbers new
    → All (λ n. n.number < length new) numbers × (length old ≤ length new)
all_within none = (All-nil _, omega arith)
all_within {new = new} (next {between = between} {n = n} {numbers = numbers} first others) =
    let one = grown first in
    let more = all_within others in
    let here : n.number < length new = omega (arith, one.0, more.1) in
    (All-cons (λ n. n.number < length new) n numbers here more.0, omega (arith, one.1, more.1))

pub as_declared : {d : Declaration} {name : List ℕ} {width : CellWidth} {length : ℕ}
    {quota : Option ℕ} {old new : List CellArray} {n : ℕ} → name ≡ d.name → width ≡ d.width
    → length ≡ d.length → quota ≡ d.quota
    → Declares (declaration name width length quota) old n new → Declares d old n new
as_declared a b c e h = rw (a, b, c, e) at h
