-- A manifest, and the body of a request, in files.
use Rattle.std.specs.Prelude.{ℕ, ◌^◌, ◌≤◌, List, [], length, codes, Some, None}
use Rattle.std.specs.Prelude.{if◌then◌else◌}
use Rattle.std.specs.Str.{bytes_eq}
use Rattle.bounded_files.specs.Files.{KnownFiles, Gives, HasMore}
use Rattle.bounded_files.specs.declared.resource_fault.ResourceFault.TheVariants.{File}
use Rattle.bounded_files.specs.declared.resource_fault.ResourceFault.TheVariants as resource
use Rattle.cells.specs.declared.array.CellArray.{CellArray}
use Rattle.load.specs.Loaded.{IsLoadedFrom, RefusesPath}
use Rattle.ruleset.specs.Rules.{Rules}
use Rattle.dry_run.specs.declared.dry_run_fault.DryRunFault.{DryRunFault}
use Rattle.dry_run.specs.declared.dry_run_fault.DryRunFault.TheVariants as fault

-- the most bytes of a body: 1 MiB
abbrev pub most_body : ℕ
most_body = 2 ^ 20

-- the path of the body: `-` is standard input
abbrev pub body_path : List ℕ → List ℕ
body_path path = if bytes_eq path (codes "-") then codes "/dev/stdin" else path

-- what the files give: a ruleset with the arrays that it declares, and a body
pub record AreOpened (known : KnownFiles) (manifest request : List ℕ) (rules : Rules)
    (arrays : List CellArray) (body : List ℕ) : Type 0 where
  pub loaded : IsLoadedFrom known manifest [] rules arrays
  pub given : Gives known (body_path request) (Some body)
  pub short : length body ≤ most_body

-- a body
pub record IsBodyIn (known : KnownFiles) (request body : List ℕ) : Type 0 where
  pub given : Gives known (body_path request) (Some body)
  pub short : length body ≤ most_body

-- why no body was read
abbrev pub IsBodyFault : KnownFiles → (request : List ℕ) → DryRunFault → Type 0
IsBodyFault known request (fault.Resource File) = Gives known (body_path request) None
IsBodyFault known request (fault.Resource resource.Memory) = Unit {0}
IsBodyFault known request fault.TooLarge = HasMore most_body known (body_path request)
IsBodyFault known request why = ⊥

-- the manifest gives a ruleset
pub record ComesToRuleset (known : KnownFiles) (manifest : List ℕ) : Type 0 where
  pub rules : Rules
  pub arrays : List CellArray
  pub loaded : IsLoadedFrom known manifest [] rules arrays

-- why the files give nothing: the manifest's fault first, then the body's
abbrev pub IsOpenFault : KnownFiles → (manifest request : List ℕ) → DryRunFault → Type 0
IsOpenFault known manifest request (fault.Manifest why) = RefusesPath known manifest [] why
IsOpenFault known manifest request (fault.Resource File) =
    ComesToRuleset known manifest × Gives known (body_path request) None
IsOpenFault known manifest request (fault.Resource resource.Memory) = Unit {0}
IsOpenFault known manifest request fault.TooLarge =
    ComesToRuleset known manifest × HasMore most_body known (body_path request)
IsOpenFault known manifest request why = ⊥
