-- The faults of arrays, in order, each declared together with the declarable ones before it.
use Rattle.std.proofs.Common.{◌≡◌, ◌≢◌, ℕ, ◌+◌, List, [], ◌∷◌, ◌++◌, Option, Some, None}
use Rattle.std.proofs.Common.{sym, ap, ◌∙◌, subst, append_assoc, append-nil}
use Rattle.why_refused_manifest.specs.Undeclared.{AreFaultsOfArrays, JudgesArray, fault_of_array}
use Rattle.why_refused_manifest.specs.Undeclared.AreFaultsOfArrays.{none, next}
use Rattle.why_refused_manifest.specs.Undeclared.JudgesArray.{declared, refused}
use Rattle.load.specs.declared.load_fault.LoadFault.{LoadFault}
use Rattle.cells.specs.Directory.{Declaration, Declares, IsRefusedDeclaration, declaration}
use Rattle.cells.specs.declared.array.CellArray.{CellArray}
use Rattle.cells.specs.declared.array.CellWidth.{CellWidth}
use Rattle.cells.specs.declared.cells_fault.CellsFault.{CellsFault}
use Rattle.cells.specs.declared.cells_fault.CellsFault.TheVariants.{Memory}

-- an array of these values is declared
pub declared_by : {d : Declaration} {name : List ℕ} {width : CellWidth} {length : ℕ}
    {quota : Option ℕ} {old new : List CellArray} {n : ℕ} → name ≡ d.name → width ≡ d.width
    → length ≡ d.length → quota ≡ d.quota
    → Declares (declaration name width length quota) old n new → JudgesArray d old new None
declared_by a b c e h = declared _ (rw (a, b, c, e) at h)

-- or it isn't declared
pub refused_by : {d : Declaration} {name : List ℕ} {width : CellWidth} {length : ℕ}
    {quota : Option ℕ} {old new : List CellArray} {first fault : CellsFault} → name ≡ d.name
    → width ≡ d.width → length ≡ d.length → quota ≡ d.quota → new ≡ old → fault ≡ first
    → fault ≢ Memory → IsRefusedDeclaration (declaration name width length quota) old first
    → JudgesArray d old new (Some fault)
refused_by a b c e same is other h = rw same (refused _ other (rw (a, b, c, e, ← is) at h))

-- one more array
pub declared_more : (number : ℕ) (judged : Option CellsFault) (d : Declaration)
    (left others : List Declaration) (before after : List CellArray)
    (old new rest : List LoadFault) (all : List LoadFault → Type 0)
    → ((more : List LoadFault) → AreFaultsOfArrays number before left more → all (old ++ more))
    → JudgesArray d before after judged → left ≡ d ∷ others
    → new ≡ old ++ fault_of_array number judged
    → AreFaultsOfArrays (number + 1) after others rest → all (new ++ rest)
declared_more number judged d left others before after old new rest all so_far judges left_is new_is
    later =
    let faults : AreFaultsOfArrays number before left (fault_of_array number judged ++ rest) =
    rw left_is (next judged judges later) in
    subst all
    (sym (ap (λ n. n ++ rest) new_is ∙ append_assoc old (fault_of_array number judged) rest))
    (so_far (fault_of_array number judged ++ rest) faults)

-- no array is left
pub declared_all : (number : ℕ) (left : List Declaration) (directory : List CellArray)
    (faults : List LoadFault) (all : List LoadFault → Type 0)
    → ((more : List LoadFault) → AreFaultsOfArrays number directory left more
    → all (faults ++ more))
    → left ≡ [] → all faults
declared_all number left directory faults all so_far is =
    let nothing : AreFaultsOfArrays number directory left [] = rw is none in
    subst all (append-nil faults) (so_far [] nothing)
