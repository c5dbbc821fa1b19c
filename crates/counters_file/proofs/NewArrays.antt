-- An array that is declared anew, or that isn't.
use Rattle.std.proofs.Common.{◌≡◌, ℕ, ◌+◌, ◌<◌, Bool, true, false, List, [], ◌∷◌, ◌++◌}
use Rattle.std.proofs.Common.{ap, ◌∙◌, arith, Option, Some, None, length, get_or}
use Rattle.std.specs.Prelude.{if◌then◌else◌, ◌&&◌, not, nat_le}
use Rattle.std.specs.Str.{bytes_eq}
use Rattle.std.proofs.lemmas.Bool.{le-leb}
use Rattle.std.proofs.lemmas.List.Folds.{list_any_at}
use Rattle.std.proofs.lemmas.Option.{slice_get_within, get_or_from_slice_get}
use Rattle.std.proofs.lemmas.Slice.Eq.{bytes_eq-Decides}
use Rattle.cells.specs.declared.array.CellArray.{CellArray}
use Rattle.cells.specs.declared.array.CellWidth.{CellWidth}
use Rattle.cells.specs.declared.cells_fault.CellsFault.{CellsFault}
use Rattle.cells.specs.declared.cells_fault.CellsFault.TheVariants.{Redefined}
use Rattle.cells.specs.Directory.{Declaration, declaration, Declares, next_array}
use Rattle.cells.specs.Directory.{IsRefusedDeclaration, taken}
use Rattle.cells.specs.Directory.Declares.{again, anew}
use Rattle.counters_file.specs.Lines.{has_name, array_declared}

same_text : (a b : List ℕ) → a ≡ b → bytes_eq a b ≡ true
same_text a b e = grind (arith, bytes_eq-Decides)

-- an array at this place has the name
named : (arrays : List CellArray) (name : List ℕ) (n : ℕ) (a : CellArray)
    → n < length arrays → get_or arrays n a ≡ a → a.name ≡ name → has_name arrays name ≡ true
named arrays name n a within at is =
    list_any_at (λ (x : CellArray). bytes_eq x.name name) arrays n a within
    (ap (λ (x : CellArray). bytes_eq x.name name) at ∙ same_text a.name name is)

-- a declaration by its parts
pub as_declared : {d : Declaration} {name : List ℕ} {width : CellWidth} {size : ℕ}
    {quota : Option ℕ} {old new : List CellArray} {n : ℕ} → name ≡ d.name → width ≡ d.width
    → size ≡ d.length → quota ≡ d.quota → Declares (declaration name width size quota) old n new
    → Declares d old n new
as_declared a b c e h = rw (a, b, c, e) at h

pub as_refused : {d : Declaration} {name : List ℕ} {width : CellWidth} {size : ℕ}
    {quota : Option ℕ} (old : List CellArray) {fault : CellsFault} → name ≡ d.name
    → width ≡ d.width → size ≡ d.length → quota ≡ d.quota → fault ≡ Redefined
    → IsRefusedDeclaration (declaration name width size quota) old fault
    → IsRefusedDeclaration d old Redefined
as_refused old a b c e f h = rw (a, b, c, e, f) at h

pub declared_anew : (d : Declaration) (old : List CellArray) {n : ℕ} {new : List CellArray}
    → has_name old d.name ≡ false → Declares d old n new → array_declared d old ≡ Some new
declared_anew d old none (again {n} {a} at is) =
    let there = named old d.name n a (slice_get_within old n a at)
    (get_or_from_slice_get old n a a at) is.name in
    cc
declared_anew d old none (anew is_new room) =
    ap (λ (b : Bool). if not b && nat_le (taken d.width old + d.length) 4096
    then Some (old ++ next_array d old ∷ []) else None) none
    ∙ ap (λ (b : Bool). if true && b then Some (old ++ next_array d old ∷ []) else None)
    (le-leb (taken d.width old + d.length) 4096 room)

-- a name that an array has isn't declared again
pub not_redefined : (d : Declaration) (old : List CellArray) → has_name old d.name ≡ false
    → IsRefusedDeclaration d old Redefined → array_declared d old ≡ None
not_redefined d old none found =
    let a = found.0 in
    let there = named old d.name found.1.0 a found.1.1 found.1.2 found.2 in
    cc
