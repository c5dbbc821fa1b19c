-- A manifest that is judged, to be compared, or to be put in place.
use Rattle.std.specs.Prelude.{ℕ, List, [], ◌∷◌, All, true}
use Rattle.bounded_files.specs.Files.{KnownFiles}
use Rattle.load.specs.Folder.{files_in_folder}
use Rattle.load.specs.JudgedApps.{IsJudgedApp, IsJudgedOf}
use Rattle.load.specs.Opened.{IsCollected}
use Rattle.load.specs.Sources.{AreSources}
use Rattle.load.specs.declared.judged.JudgedManifest.{JudgedManifest}
use Rattle.load.specs.declared.opened.CollectedManifest.{CollectedManifest}
use Rattle.load.specs.declared.sources.Sources.{Sources}
use Rattle.stage_records.specs.Steps.{ReplacedFile}
use Rattle.stage_servers.specs.Replaced.{files_then}

-- each app has its program, and its rule
abbrev pub AreAllJudged : JudgedManifest → Type 0
AreAllJudged j = All IsJudgedApp j.apps.items

-- no file of a gathered manifest is at fault: each app has the program that its file is judged to
-- be
pub record IsAccepted (manifest : CollectedManifest) : Type 0 where
  pub judged : JudgedManifest
  pub is_judged : IsJudgedOf manifest.bytes.items manifest.sources judged

-- what a manifest of these bytes is judged to be, once a file next to it is replaced
pub record IsJudgedWith (known : KnownFiles) (path bytes : List ℕ) (file : ReplacedFile)
    (judged : JudgedManifest) : Type 0 where
  pub sources : Sources
  pub are_sources :
      AreSources (files_then true (file ∷ []) (files_in_folder known path)) [] bytes sources
  pub is_judged : IsJudgedOf bytes sources judged

-- no file of the manifest in place is at fault, once this one is replaced
pub record IsAcceptedWith (known : KnownFiles) (path : List ℕ) (file : ReplacedFile) : Type 0
  where
    pub manifest : CollectedManifest
    pub collected : IsCollected known path manifest
    pub judged : JudgedManifest
    pub is_judged : IsJudgedWith known path manifest.bytes.items file judged
