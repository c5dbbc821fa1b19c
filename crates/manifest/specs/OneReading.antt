-- Bytes have at most one reading.
use Rattle.std.specs.Prelude.{◌≡◌, ℕ, List, Result}
use Rattle.manifest.specs.Manifest.{Manifest, ReadsManifest}
use Rattle.manifest.specs.declared.manifest_fault.ManifestFault.{ManifestFault}

-- bytes have one manifest or one fault
abbrev pub HasOneManifest : List ℕ → Type 0
HasOneManifest bytes = (r s : Result Manifest ManifestFault) → ReadsManifest bytes r
    → ReadsManifest bytes s → r ≡ s
