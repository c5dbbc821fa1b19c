-- Which faults of a manifest are reported after the first. After a schema error: all others. After
-- a duplicate name: all others. After an array's fault: those of the arrays after it, each declared
-- together with the declarable ones before it. After an app's fault: those of the apps after it,
-- each judged by itself from what was gathered of it. After any other: none.
use Rattle.std.specs.Prelude.{◌≡◌, ◌≢◌, ℕ, ◌+◌, List, [], ◌∷◌, ◌++◌, drop, Option, Some, None}
use Rattle.bpf_semantics.specs.Program.{ShapedProgram}
use Rattle.cells.specs.Directory.{Declaration}
use Rattle.why_refused_manifest.specs.Others.{AreOtherSchemaErrors, AreOtherDuplicates}
use Rattle.why_refused_manifest.specs.Undeclared.{AreUndeclared}
use Rattle.load.specs.Apps.{in_app}
use Rattle.load.specs.Judged.{IsJudged, RefusesSources}
use Rattle.load.specs.declared.load_fault.AppFault.{AppFault}
use Rattle.load.specs.declared.load_fault.AppFault.TheVariants as app
use Rattle.load.specs.declared.load_fault.LoadFault.{LoadFault}
use Rattle.load.specs.declared.load_fault.LoadFault.TheVariants.{Manifest as NoManifest, File}
use Rattle.load.specs.declared.load_fault.LoadFault.TheVariants.{Program}
use Rattle.load.specs.declared.load_fault.LoadFault.TheVariants.{Rule, Cells, Memory}
use Rattle.load.specs.declared.sources.AppSources.{AppSources}
use Rattle.manifest.specs.declared.manifest_fault.ManifestFault.TheVariants as unread
use Rattle.manifest.specs.declared.refused.Parsed.{Parsed}

-- the fault of the app with this number, if it has one
abbrev pub fault_of_app : ℕ → Option AppFault → List LoadFault
fault_of_app number None = []
fault_of_app number (Some fault) = in_app number fault ∷ []

-- the verdict on an app by itself: a program, or a fault
pub data JudgesApp (one : AppSources) : Option AppFault → Type 0 where
  supplied : (program : ShapedProgram) → IsJudged one program → JudgesApp one None
  refused : (fault : AppFault) → fault ≢ app.Memory → RefusesSources one fault
      → JudgesApp one (Some fault)

-- the faults of these apps, the first of which has this number
pub data AreFaultsOf : ℕ → List AppSources → List LoadFault → Type 0 where
  none : {number : ℕ} → AreFaultsOf number [] []
  next : {number : ℕ} {one : AppSources} {apps : List AppSources} {faults : List LoadFault}
      (judged : Option AppFault) → JudgesApp one judged → AreFaultsOf (number + 1) apps faults
      → AreFaultsOf number (one ∷ apps) (fault_of_app number judged ++ faults)

-- the faults of the apps after the one with this number
abbrev pub AreFaultsAfter : List AppSources → ℕ → List LoadFault → Type 0
AreFaultsAfter apps number faults = AreFaultsOf (number + 1) (drop number apps) faults

module _ (parsed : Parsed) (arrays : List Declaration) (apps : List AppSources) where
  -- the faults after this fault of a manifest, from what its bytes were parsed as and what was
  -- gathered
  abbrev pub AreFurther : LoadFault → List LoadFault → Type 0
  AreFurther (File number) faults = AreFaultsAfter apps number faults
  AreFurther (Program number fault) faults = AreFaultsAfter apps number faults
  AreFurther (Rule number fault) faults = AreFaultsAfter apps number faults
  AreFurther (NoManifest (unread.Field schema_error)) faults = AreOtherSchemaErrors parsed faults
  AreFurther (NoManifest (unread.Duplicate duplicate)) faults = AreOtherDuplicates parsed faults
  AreFurther (NoManifest fault) faults = faults ≡ []
  AreFurther (Cells number fault) faults = AreUndeclared arrays number faults
  AreFurther Memory faults = faults ≡ []
