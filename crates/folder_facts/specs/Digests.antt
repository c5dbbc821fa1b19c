-- The digests of what a folder has in place, and of what its steps found and left.
use Rattle.std.specs.Prelude.{◌≡◌, ℕ, List, All, String, string_bytes}
use Rattle.std.specs.declared.alloc.Global.{Global}
use Rattle.hex.specs.Hex.{encode_lower}
use Rattle.bounded_files.specs.Files.{KnownFiles}
use Rattle.load.specs.declared.opened.CollectedManifest.{CollectedManifest}
use Rattle.stage_records.specs.Steps.{ReplacedFile, StagingStep}
use Rattle.stage_servers.specs.Earlier.{AreNamedAs, IsCollectedWith, files_at}
use Rattle.stage_servers.specs.Served.{HasDigest}

-- the hexadecimal digits of the digest of a manifest with its files
pub record IsDigestOf (manifest : CollectedManifest) (text : String Global) : Type 0 where
  pub digest : List ℕ
  pub has : HasDigest digest manifest
  pub digits : string_bytes text ≡ encode_lower digest

module _ (known : KnownFiles) (path : List ℕ) where
  -- the digest is that of the manifest with the files as the first of these steps left them, of
  -- which those from the place `first` on count as done
  pub record IsLeft (steps : List StagingStep) (text : String Global) : Type 0 where
    pub first : ℕ
    pub count : ℕ
    pub files : List ReplacedFile
    pub named : AreNamedAs files (files_at steps first count)
    pub manifest : CollectedManifest
    pub are : IsCollectedWith known path files manifest
    pub digest : IsDigestOf manifest text

  abbrev pub AreLeft : List StagingStep → List (String Global) → Type 0
  AreLeft steps digests = All (IsLeft steps) digests
