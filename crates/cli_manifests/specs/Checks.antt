-- Manifests that are checked, one or several, and which of them pass.
use Rattle.std.specs.Prelude.{◌≡◌, ℕ, List, [], ◌∷◌, ◌++◌, Bool, true, false, not, ◌&&◌, codes}
use Rattle.std.specs.Prelude.{if◌then◌else◌}
use Rattle.std.specs.Borrow.{Bor}
use Rattle.std.specs.String.{string_bytes}
use Rattle.bounded_files.specs.Files.{KnownFiles}
use Rattle.bounded_files.specs.declared.resource_fault.ResourceFault.TheVariants as resource
use Rattle.why_refused_manifest.specs.declared.accepted.CheckedManifest.{CheckedManifest}
use Rattle.hex.specs.Hex.{encode_lower}
use Rattle.cli_manifests.specs.Manifests.{IsChecked, IsCheckRefusal}
use Rattle.cli_manifests.specs.declared.checks.CheckOutput.{CheckOutput}
use Rattle.cli_manifests.specs.declared.manifest_tool_fault.ManifestToolFault.{ManifestToolFault}
use Rattle.cli_manifests.specs.declared.manifest_tool_fault.ManifestToolFault.TheVariants as fault
use Rattle.ruleset.specs.Texts.{line}
use Rattle.warnings.specs.Names.{some_counts}
use Rattle.warnings.specs.Warnings.{warnings_text}
use Rattle.warnings.specs.declared.warning.Warning.{Warning}

-- ---- of one manifest

-- an accepted manifest passes, unless the check is strict and some warning isn't allowed
abbrev pub passes : (strict : Bool) → (allowed : List (Bor (List ℕ))) → List Warning → Bool
passes strict allowed warnings = not (strict && some_counts allowed warnings)

-- the digest of it and of its files, in hexadecimal digits
abbrev pub digest_line : List ℕ → List ℕ
digest_line digest = line (codes "digest " ++ encode_lower digest)

-- that nothing is wrong: no warning, or only allowed ones
abbrev pub ok_line : (allowed : List (Bor (List ℕ))) → List Warning → List ℕ
ok_line allowed warnings = if some_counts allowed warnings then [] else codes "ok\n"

-- the report on an accepted manifest: its lines, the last of which are `ok` and the digest; those
-- of its warnings; and whether it passes
pub record FormatsChecked (strict : Bool) (allowed : List (Bor (List ℕ))) (one : CheckedManifest)
    (output : CheckOutput) : Type 0 where
  pub text_is : string_bytes output.text ≡ string_bytes one.text
      ++ ok_line allowed one.warnings.items ++ digest_line one.digest
  pub stderr_is : string_bytes output.stderr ≡ warnings_text one.warnings.items
  pub passes_is : output.passes ≡ passes strict allowed one.warnings.items

-- ---- which manifests are reported

module _ (known : KnownFiles) (strict : Bool) (allowed : List (Bor (List ℕ))) where
  -- the check of a single manifest
  pub record IsCheckedAlone (path : List ℕ) (output : CheckOutput) : Type 0 where
    pub one : CheckedManifest
    pub checked : IsChecked known path one
    pub formats : FormatsChecked strict allowed one output

  -- one of several, and whether it passes. No clause says how the lines of several look
  pub data IsCheckedAmong (path : List ℕ) : (passes : Bool) → Type 0 where
    accepted : (output : CheckOutput) → IsCheckedAlone path output
        → IsCheckedAmong path output.passes
    refused : (why : ManifestToolFault) → IsCheckRefusal known path why
        → IsCheckedAmong path false

  -- adds one more manifest; all have to pass
  pub record AddsChecked (path : List ℕ) (old new : CheckOutput) : Type 0 where
    pub one : Bool
    pub checked : IsCheckedAmong path one
    pub passes_is : new.passes ≡ (old.passes && one)

  -- several manifests, in order
  pub data AreCheckedEach : List (Bor (List ℕ)) → (passes : Bool) → Type 0 where
    none : AreCheckedEach [] true
    next : (paths : List (Bor (List ℕ))) (path : Bor (List ℕ)) (all one : Bool)
        → AreCheckedEach paths all → IsCheckedAmong path.now one
        → AreCheckedEach (paths ++ path ∷ []) (all && one)

  abbrev pub AreChecked : List (Bor (List ℕ)) → CheckOutput → Type 0
  AreChecked (path ∷ []) output = IsCheckedAlone path.now output
  AreChecked paths output = AreCheckedEach paths output.passes

-- a single manifest is refused; for several, each is reported, unless memory runs out
abbrev pub AreCheckRefusal : KnownFiles → List (Bor (List ℕ)) → ManifestToolFault → Type 0
AreCheckRefusal known (path ∷ []) why = IsCheckRefusal known path.now why
AreCheckRefusal known paths (fault.Resource resource.Memory) = Unit {0}
AreCheckRefusal known paths why = ⊥
