-- A declaration has one outcome.
use Rattle.std.proofs.Common.{◌≡◌, ◌≢◌, ℕ, List}
use Rattle.std.proofs.Common.{sym, ◌∙◌, ap, subst, arith, refl}
use Rattle.std.specs.Prelude.{Some, slice_get, Contains}
use Rattle.std.proofs.lemmas.Option.{slice_get-get_or, same_Some}
use Rattle.cells.specs.declared.array.CellArray.{CellArray}
use Rattle.cells.specs.declared.cells_fault.CellsFault.{CellsFault}
use Rattle.cells.specs.declared.cells_fault.CellsFault.TheVariants.{CellsFull, Redefined, Memory}
use Rattle.cells.specs.Directory.{Declaration, IsDeclaration, IsNew, IsAsDeclared, Declares}
use Rattle.cells.specs.Directory.{IsRefusedDeclaration, HasDistinctNames, IsDirectory}
use Rattle.cells.specs.Directory.Declares.{again, anew}
use Rattle.cells.specs.OneWay.{DeclaresOneWay}
use Rattle.cells.proofs.Directories.{all_at, name_after, added}

-- the name exists, so it isn't new
not_new : (d : Declaration) (old : List CellArray) (n : ℕ) (a : CellArray)
    → slice_get old n ≡ Some a → a.name ≡ d.name → ¬ IsNew d old
not_new d old n a at name new = all_at (λ x. x.name ≢ d.name) old n a new at name

pub place_of : (old : List CellArray) (a : CellArray) → Contains old a
    → (n : ℕ) × (slice_get old n ≡ Some a)
place_of old a there =
    (there.0, slice_get-get_or old there.0 a there.1 ∙ ap (λ x. Some x) there.2)

-- two arrays with one name are equal
same_array : (old : List CellArray) → HasDistinctNames old → (i j : ℕ) (a b : CellArray)
    → slice_get old i ≡ Some a → slice_get old j ≡ Some b → a.name ≡ b.name → a ≡ b
same_array old apart i j a b at_i at_j same =
    let one : i ≡ j = apart i j a b at_i at_j same in
    same_Some a b (sym at_i ∙ ap (λ n. slice_get old n) one ∙ at_j)

same_outcome : (d : Declaration) {old : List CellArray} {n m : ℕ} {new last : List CellArray}
    → HasDistinctNames old → Declares d old n new → Declares d old m last
    → (n ≡ m) × (new ≡ last)
same_outcome d apart (again {n = i} {a = a} at is) (again {n = j} {a = b} there are) =
    (apart i j a b at there (is.name ∙ sym are.name), refl)
same_outcome d {old} apart (again {n = i} {a = a} at is) (anew fresh cells_fit) =
    absurd (not_new d old i a at is.name fresh)
same_outcome d {old} apart (anew fresh cells_fit) (again {n = i} {a = a} at is) =
    absurd (not_new d old i a at is.name fresh)
same_outcome d apart (anew fresh cells_fit) (anew new more) = (refl, refl)

same_fault : (d : Declaration) (old : List CellArray) (e f : CellsFault)
    → IsRefusedDeclaration d old e → IsRefusedDeclaration d old f → e ≢ Memory → f ≢ Memory
    → e ≡ f
same_fault d old Memory f h k given other = absurd (given refl)
same_fault d old e Memory h k given other = absurd (other refl)
same_fault d old Redefined Redefined h k given other = refl
same_fault d old CellsFull CellsFull h k given other = refl
same_fault d old Redefined CellsFull h k given other =
    let there = place_of old h.0 h.1 in absurd (not_new d old there.0 h.0 there.1 h.2 k.0)
same_fault d old CellsFull Redefined h k given other =
    let there = place_of old k.0 k.1 in absurd (not_new d old there.0 k.0 there.1 k.2 h.0)

not_both : (d : Declaration) {old : List CellArray} {n : ℕ} {new : List CellArray}
    (e : CellsFault) → HasDistinctNames old → Declares d old n new → IsRefusedDeclaration d old e
    → e ≡ Memory
not_both d Memory apart declares h = refl
not_both d {old} CellsFull apart (again {n = i} {a = a} at is) h =
    absurd (not_new d old i a at is.name h.0)
not_both d CellsFull apart (anew fresh cells_fit) h = absurd (omega (arith, cells_fit, h.1))
not_both d {old} Redefined apart (again {n = i} {a = a} at is) h =
    let there = place_of old h.0 h.1 in
    let same : a ≡ h.0 = same_array old apart i there.0 a h.0 at there.1 (is.name ∙ sym h.2) in
    absurd (h.3 (subst (IsAsDeclared d) same is))
not_both d {old} Redefined apart (anew fresh cells_fit) h =
    let there = place_of old h.0 h.1 in absurd (not_new d old there.0 h.0 there.1 h.2 fresh)

pub one_way : (d : Declaration) (old : List CellArray) → HasDistinctNames old
    → DeclaresOneWay d old
one_way d old apart = record {
  array = λ n m new last h k. same_outcome d apart h k;
  fault = same_fault d old;
  either = λ n new e declares refused. not_both d e apart declares refused;
}

pub names_kept : (d : Declaration) {old : List CellArray} {n : ℕ} {new : List CellArray}
    → HasDistinctNames old → Declares d old n new → HasDistinctNames new
names_kept d apart (again at is) = apart
names_kept d {old} apart (anew fresh cells_fit) = name_after d old apart fresh

pub directory_kept : (d : Declaration) {old : List CellArray} {n : ℕ} {new : List CellArray}
    → IsDeclaration d → IsDirectory old → Declares d old n new → IsDirectory new
directory_kept d lawful known (again at is) = known
directory_kept d {old} lawful known (anew fresh cells_fit) =
    added d old lawful known fresh cells_fit
