-- The faults of apps, in order, each judged by itself.
use Rattle.std.proofs.Common.{◌≡◌, ℕ, ◌+◌, List, [], ◌∷◌, ◌++◌, Option}
use Rattle.std.proofs.Common.{sym, ap, ◌∙◌, subst, append_assoc, append-nil}
use Rattle.why_refused_manifest.specs.Further.{AreFaultsOf, JudgesApp, fault_of_app}
use Rattle.why_refused_manifest.specs.Further.AreFaultsOf.{none, next}
use Rattle.load.specs.declared.load_fault.AppFault.{AppFault}
use Rattle.load.specs.declared.load_fault.LoadFault.{LoadFault}
use Rattle.load.specs.declared.sources.AppSources.{AppSources}

-- one more app
pub judged_more : (number : ℕ) (judged : Option AppFault) (app : AppSources)
    (left others : List AppSources) (old new rest : List LoadFault)
    (all : List LoadFault → Type 0)
    → ((more : List LoadFault) → AreFaultsOf number left more → all (old ++ more))
    → JudgesApp app judged → left ≡ app ∷ others → new ≡ old ++ fault_of_app number judged
    → AreFaultsOf (number + 1) others rest → all (new ++ rest)
judged_more number judged app left others old new rest all so_far judges left_is new_is later =
    let faults : AreFaultsOf number left (fault_of_app number judged ++ rest) =
    rw left_is (next judged judges later) in
    subst all
    (sym (ap (λ n. n ++ rest) new_is ∙ append_assoc old (fault_of_app number judged) rest))
    (so_far (fault_of_app number judged ++ rest) faults)

-- no app is left
pub judged_all : (number : ℕ) (left : List AppSources) (faults : List LoadFault)
    (all : List LoadFault → Type 0)
    → ((more : List LoadFault) → AreFaultsOf number left more → all (faults ++ more))
    → left ≡ [] → all faults
judged_all number left faults all so_far is =
    let nothing : AreFaultsOf number left [] = rw is none in
    subst all (append-nil faults) (so_far [] nothing)
