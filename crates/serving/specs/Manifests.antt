-- Why a server isn't ready.
use Rattle.std.specs.Prelude.{◌≡◌, ℕ, List}
use Rattle.cells.specs.declared.array.CellArray.{CellArray}
use Rattle.bounded_files.specs.Files.{KnownFiles}
use Rattle.bounded_files.specs.declared.resource_fault.ResourceFault.TheVariants as resource
use Rattle.load.specs.Cause.{RefusesWithCause}
use Rattle.load.specs.Loaded.{IsLoadedFrom}
use Rattle.ruleset.specs.Rules.{Rules}
use Rattle.serving.specs.declared.serving_fault.ServingFault.{ServingFault}
use Rattle.serving.specs.declared.serving_fault.ServingFault.TheVariants as serving

-- the manifest has a ruleset over the arrays that are declared already
pub record HasRuleset (known : KnownFiles) (manifest : List ℕ) (declared : List CellArray)
    : Type 0 where
  pub rules : Rules
  pub arrays : List CellArray
  pub loaded : IsLoadedFrom known manifest declared rules arrays

-- the manifest has no ruleset; or it has one, and out of memory for its path, or a port can't be
-- bound
abbrev pub RefusesToServe : KnownFiles → List ℕ → List CellArray → ServingFault → Type 0
RefusesToServe known manifest declared (serving.Manifest refusal) =
    RefusesWithCause known manifest declared refusal.fault refusal.cause
RefusesToServe known manifest declared (serving.Resource fault) =
    (fault ≡ resource.Memory) × HasRuleset known manifest declared
RefusesToServe known manifest declared serving.Bind = HasRuleset known manifest declared
RefusesToServe known manifest declared fault = ⊥
