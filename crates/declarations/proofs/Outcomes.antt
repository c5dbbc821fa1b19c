-- A list of declarations has one outcome, since each declaration has one.
use Rattle.std.proofs.Common.{◌≡◌, ◌≢◌, ℕ, zero, suc, ◌+◌, List, [], ◌∷◌, take}
use Rattle.std.proofs.Common.{refl, sym, ◌∙◌, ap, subst}
use Rattle.std.specs.Prelude.{Some, slice_get}
use Rattle.std.proofs.lemmas.Option.{same_Some, none-some}
use Rattle.cells.specs.declared.array.ArrayNo.{ArrayNo}
use Rattle.cells.specs.declared.array.CellArray.{CellArray}
use Rattle.cells.specs.declared.cells_fault.CellsFault.{CellsFault}
use Rattle.cells.specs.declared.cells_fault.CellsFault.TheVariants.{Memory}
use Rattle.cells.specs.Directory.{Declaration, Declares, IsRefusedDeclaration, HasDistinctNames}
use Rattle.cells.specs.OneWay.{DeclareOneWay, KeepsNames}
use Rattle.declarations.specs.Order.{AreDeclared, IsRefusedArray}
use Rattle.declarations.specs.Order.AreDeclared.{none, next}
use Rattle.declarations.specs.OneWay.{AreDeclaredOneWay}

same_number : (n m : ArrayNo) → n.number ≡ m.number → n ≡ m
same_number n m e = ap (λ k. record { number = k }) e

-- the rest after the first declaration
pub record Rest (old : List CellArray) (d : Declaration) (ds : List Declaration)
    (numbers : List ArrayNo) (new : List CellArray) : Type 0 where
  pub n : ArrayNo
  pub others : List ArrayNo
  pub between : List CellArray
  pub numbers_are : numbers ≡ n ∷ others
  pub first : Declares d old n.number between
  pub rest : AreDeclared between ds others new

rest_of : {old new : List CellArray} {d : Declaration} {ds : List Declaration}
    {numbers : List ArrayNo} → AreDeclared old (d ∷ ds) numbers new → Rest old d ds numbers new
rest_of (next {between = between} {n = n} {numbers = others} first rest) = record {
  n = n;
  others = others;
  between = between;
  numbers_are = refl;
  first = first;
  rest = rest;
}

nothing_new : {old new : List CellArray} {numbers : List ArrayNo} → AreDeclared old [] numbers new
    → (numbers ≡ []) × (new ≡ old)
nothing_new none = (refl, refl)

-- the refusal of an array, by the number of declarations before it
pub record IsRefusedAfter (old : List CellArray) (ds : List Declaration) (before : ℕ)
    (fault : CellsFault) : Type 0 where
  pub numbers : List ArrayNo
  pub new : List CellArray
  pub declared : AreDeclared old (take before ds) numbers new
  pub d : Declaration
  pub declaration_is : slice_get ds before ≡ Some d
  pub refused : IsRefusedDeclaration d new fault

after_of : {old new : List CellArray} {ds : List Declaration} {number : ℕ} {e : CellsFault}
    → (r : IsRefusedArray old ds number e new) → IsRefusedAfter old ds r.before e
after_of {new = new} r = record {
  numbers = r.numbers;
  new = new;
  declared = r.declared;
  d = r.d;
  declaration_is = r.declaration_is;
  refused = r.refused;
}

first_refused : (d : Declaration) (ds : List Declaration) (old : List CellArray) (e : CellsFault)
    → IsRefusedAfter old (d ∷ ds) zero e → IsRefusedDeclaration d old e
first_refused d ds old e r =
    subst (λ (x : Declaration). IsRefusedDeclaration x old e)
    (sym (same_Some d r.d r.declaration_is))
    (subst (λ (l : List CellArray). IsRefusedDeclaration r.d l e) (nothing_new r.declared).1
    r.refused)

module _ (declare : DeclareOneWay) (keep : KeepsNames) where
  same_arrays : (ds : List Declaration) {old new last : List CellArray}
      {numbers others : List ArrayNo} → HasDistinctNames old → AreDeclared old ds numbers new
      → AreDeclared old ds others last → (numbers ≡ others) × (new ≡ last)
  same_arrays [] apart are also =
      let one = nothing_new are in
      let two = nothing_new also in (one.0 ∙ sym two.0, one.1 ∙ sym two.1)
  same_arrays (d ∷ ds) {old} {new} {last} apart are also =
      let one = rest_of are in
      let two = rest_of also in
      let here = (declare d old apart).array _ _ _ _ one.first two.first in
      let again : AreDeclared one.between ds two.others last =
      subst (λ (l : List CellArray). AreDeclared l ds two.others last) (sym here.1) two.rest in
      let there = same_arrays ds (keep d old _ _ apart one.first) one.rest again in (
        one.numbers_are ∙ ap (λ (n : ArrayNo). n ∷ one.others) (same_number _ _ here.0)
            ∙ ap (λ (l : List ArrayNo). two.n ∷ l) there.0 ∙ sym two.numbers_are,
        there.1,
      )

  -- after the first declaration, the refusal is one of the others
  after_first : (d : Declaration) (ds : List Declaration) (k n : ℕ) (old between : List CellArray)
      (e : CellsFault) → HasDistinctNames old → Declares d old n between
      → IsRefusedAfter old (d ∷ ds) (suc k) e → IsRefusedAfter between ds k e
  after_first d ds k n old between e apart first r =
      let one = rest_of r.declared in
      let same = (declare d old apart).array _ _ _ _ one.first first in record {
        numbers = one.others;
        new = r.new;
        declared = subst (λ (l : List CellArray). AreDeclared l (take k ds) one.others r.new)
            same.1 one.rest;
        d = r.d;
        declaration_is = r.declaration_is;
        refused = r.refused;
      }

  -- a declared list has no refusal
  not_refused : (ds : List Declaration) (before : ℕ) (old new : List CellArray)
      (numbers : List ArrayNo) (e : CellsFault) → HasDistinctNames old
      → AreDeclared old ds numbers new → IsRefusedAfter old ds before e → e ≡ Memory
  not_refused [] before old new numbers e apart are r = absurd (none-some _ r.declaration_is)
  not_refused (d ∷ ds) zero old new numbers e apart are r =
      (declare d old apart).either _ _ e (rest_of are).first (first_refused d ds old e r)
  not_refused (d ∷ ds) (suc k) old new numbers e apart are r =
      let one = rest_of are in
      not_refused ds k one.between new one.others e (keep d old _ _ apart one.first) one.rest
      (after_first d ds k _ old one.between e apart one.first r)

  same_refusal : (ds : List Declaration) (j k : ℕ) (old : List CellArray) (e f : CellsFault)
      → HasDistinctNames old → e ≢ Memory → f ≢ Memory → IsRefusedAfter old ds j e
      → IsRefusedAfter old ds k f → (j ≡ k) × (e ≡ f)
  same_refusal [] j k old e f apart known also r q = absurd (none-some _ r.declaration_is)
  same_refusal (d ∷ ds) zero zero old e f apart known also r q = (
    refl,
    (declare d old apart).fault e f (first_refused d ds old e r)
        (first_refused d ds old f q) known also,
  )
  same_refusal (d ∷ ds) zero (suc k) old e f apart known also r q =
      absurd (known ((declare d old apart).either _ _ e (rest_of q.declared).first
      (first_refused d ds old e r)))
  same_refusal (d ∷ ds) (suc j) zero old e f apart known also r q =
      absurd (also ((declare d old apart).either _ _ f (rest_of r.declared).first
      (first_refused d ds old f q)))
  same_refusal (d ∷ ds) (suc j) (suc k) old e f apart known also r q =
      let one = rest_of r.declared in
      let more = same_refusal ds j k one.between e f (keep d old _ _ apart one.first) known also
      (after_first d ds j _ old one.between e apart one.first r)
      (after_first d ds k _ old one.between f apart one.first q) in
      (ap (λ n. suc n) more.0, more.1)

  pub one_way : (old : List CellArray) (ds : List Declaration) → HasDistinctNames old
      → AreDeclaredOneWay old ds
  one_way old ds apart = record {
    arrays = λ numbers others new last are also. same_arrays ds apart are also;
    refused = λ number other e f new last r q known also.
        let same = same_refusal ds r.before q.before old e f apart known also
        (after_of r) (after_of q) in
        (r.number_is ∙ ap (λ n. n + 1) same.0 ∙ sym q.number_is, same.1);
    either = λ numbers number e new last are r.
        not_refused ds r.before old new numbers e apart are (after_of r);
  }
