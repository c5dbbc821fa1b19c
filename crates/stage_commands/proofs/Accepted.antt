-- A manifest with another file is judged.
use Rattle.std.proofs.Common.{◌≡◌, ℕ, List, [], ◌∷◌, true}
use Rattle.std.proofs.Common.{subst}
use Rattle.bounded_files.specs.Files.{KnownFiles}
use Rattle.load.specs.Folder.{files_in_folder}
use Rattle.load.specs.JudgedApps.{IsJudgedOf}
use Rattle.load.specs.Opened.{IsCollected}
use Rattle.load.specs.Sources.{AreSources}
use Rattle.load.specs.declared.judged.JudgedManifest.{JudgedManifest}
use Rattle.load.specs.declared.opened.CollectedManifest.{CollectedManifest}
use Rattle.load.specs.declared.sources.Sources.{Sources}
use Rattle.stage_records.specs.Steps.{ReplacedFile}
use Rattle.stage_servers.specs.Replaced.{files_then}
use Rattle.stage_commands.specs.Compared.{IsAcceptedWith, IsJudgedWith}

pub judged_with : (known : KnownFiles) (path bytes : List ℕ) (file : ReplacedFile)
    (replaced : List ReplacedFile) (sources : Sources) (judged : JudgedManifest)
    → replaced ≡ file ∷ []
    → AreSources (files_then true replaced (files_in_folder known path)) [] bytes sources
    → IsJudgedOf bytes sources judged → IsJudgedWith known path bytes file judged
judged_with known path bytes file replaced sources judged is are by = record {
  sources = sources;
  are_sources = subst
      (λ fs. AreSources (files_then true fs (files_in_folder known path)) [] bytes sources) is are;
  is_judged = by;
}

pub accepted_with : (known : KnownFiles) (path : List ℕ) (file : ReplacedFile)
    (manifest : CollectedManifest) (judged : JudgedManifest) → IsCollected known path manifest
    → IsJudgedWith known path manifest.bytes.items file judged → IsAcceptedWith known path file
accepted_with known path file manifest judged collected by = record {
  manifest = manifest;
  collected = collected;
  judged = judged;
  is_judged = by;
}
