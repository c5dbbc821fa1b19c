-- Manifests that are checked, and the texts of refusals.
use Rattle.std.specs.Prelude.{ℕ, List, ◌++◌, codes, None}
use Rattle.why_refused_manifest.specs.Check.{PassesCheck, FailsCheck}
use Rattle.why_refused_manifest.specs.declared.accepted.CheckedManifest.{CheckedManifest}
use Rattle.load.specs.Folder.{files_in_folder}
use Rattle.load.specs.Texts.{load_fault_text, path_fault_text}
use Rattle.bounded_files.specs.Files.{KnownFiles, Gives, OfFile, regular_files}
use Rattle.bounded_files.specs.Texts.{resource_text}
use Rattle.bounded_files.specs.declared.resource_fault.ResourceFault.TheVariants as resource
use Rattle.cli_manifests.specs.declared.manifest_tool_fault.ManifestToolFault.{ManifestToolFault}
use Rattle.cli_manifests.specs.declared.manifest_tool_fault.ManifestToolFault.TheVariants as fault

module _ (known : KnownFiles) where
  -- the manifest of the file loads as a ruleset, whose arrays and apps are reported, with its
  -- warnings
  abbrev pub IsChecked : (path : List ℕ) → CheckedManifest → Type 0
  IsChecked path checked = OfFile (regular_files known) path (λ bytes.
      PassesCheck (files_in_folder known path) bytes checked)

  -- the file can't be read or isn't regular, or its manifest is refused, with where and why;
  -- running out of memory for the file is always allowed
  abbrev pub IsCheckRefusal : List ℕ → ManifestToolFault → Type 0
  IsCheckRefusal path (fault.Resource resource.File) = Gives (regular_files known) path None
  IsCheckRefusal path (fault.Resource resource.Memory) = Unit {0}
  IsCheckRefusal path (fault.Diagnosed refused) =
      OfFile (regular_files known) path (λ bytes.
      FailsCheck (files_in_folder known path) bytes refused)
  IsCheckRefusal path refused = ⊥

-- ---- texts; B8: a simulated manifest doesn't have the one app that is to be reported

abbrev pub fault_text : ManifestToolFault → List ℕ
fault_text (fault.Resource refused) = resource_text refused
fault_text (fault.Diagnosed refused) = load_fault_text refused.fault
fault_text (fault.Load refused) = path_fault_text refused
fault_text fault.NoApp = codes "B8 App"
fault_text (fault.Against refused) = path_fault_text refused ++ codes " in --against"
