-- A fault with its cause is a fault, and a cause for its arrays is one for its bytes.
use Rattle.std.proofs.Common.{◌≡◌, ℕ, List, Option, Some, None, refl, subst}
use Rattle.std.specs.Prelude.{IfSome}
use Rattle.std.specs.String.{string_bytes}
use Rattle.std.specs.declared.alloc.Global.{Global}
use Rattle.std.specs.declared.string.String.{String}
use Rattle.bounded_files.specs.Files.{KnownFiles}
use Rattle.cells.specs.Directory.{Declaration}
use Rattle.cells.specs.declared.array.CellArray.{CellArray}
use Rattle.load.specs.Cause.{IsCause, RefusesWithCause, cause_in, cause_of}
use Rattle.load.specs.Sources.{AreArraysWithFault}
use Rattle.load.specs.Loaded.{RefusesPath}
use Rattle.load.specs.declared.load_fault.LoadFault.{LoadFault}
use Rattle.load.specs.declared.load_fault.LoadFault.TheVariants as load
use Rattle.load.specs.declared.load_fault.PathFault.{PathFault}
use Rattle.load.specs.declared.load_fault.PathFault.TheVariants.{Resource, Load}

pub refuses : (known : KnownFiles) (path : List ℕ) (old : List CellArray) (fault : PathFault)
    (cause : Option (String Global)) → RefusesWithCause known path old fault cause
    → RefusesPath known path old fault
refuses known path old (Resource fault) cause told = told.0
refuses known path old (Load fault) cause told = (told.0, told.1, told.2.fault_is)

-- a fault without a cause
pub no_cause : (known : KnownFiles) (path : List ℕ) (old : List CellArray) (fault : PathFault)
    → RefusesPath known path old fault → RefusesWithCause known path old fault None
no_cause known path old (Resource fault) refused = (refused, refl)
no_cause known path old (Load fault) refused =
    (refused.0, refused.1, record { fault_is = refused.2; cause_is = tt })

is_cause : (old : List CellArray) (bytes : List ℕ) (arrays : List Declaration) (fault : LoadFault)
    (text : List ℕ) → AreArraysWithFault bytes fault arrays → cause_of old arrays fault ≡ Some text
    → IsCause old bytes fault text
is_cause old bytes arrays (load.Manifest fault) text are is = is
is_cause old bytes arrays (load.Cells number fault) text of is =
    (of.0, of.1, subst (λ (l : List Declaration). cause_in old l number fault ≡ Some text) of.2 is)
is_cause old bytes arrays (load.File app) text are is = absurd cc
is_cause old bytes arrays (load.Program app fault) text are is = absurd cc
is_cause old bytes arrays (load.Rule app fault) text are is = absurd cc
is_cause old bytes arrays load.Memory text are is = absurd cc

pub cause_told : (old : List CellArray) (bytes : List ℕ) (arrays : List Declaration)
    (fault : LoadFault) (cause : Option (String Global)) → AreArraysWithFault bytes fault arrays
    → IfSome cause (λ text. cause_of old arrays fault ≡ Some (string_bytes text))
    → IfSome cause (λ text. IsCause old bytes fault (string_bytes text))
cause_told old bytes arrays fault None are told = tt
cause_told old bytes arrays fault (Some text) are told =
    is_cause old bytes arrays fault (string_bytes text) are told
