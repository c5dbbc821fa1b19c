-- The manifest at a path, opened as by a load on a server without arrays: gathered with the files
-- of its folder, and judged.
use Rattle.std.specs.Prelude.{ℕ, List, [], Some}
use Rattle.bounded_files.specs.Files.{KnownFiles, Gives, regular_files}
use Rattle.load.specs.Folder.{files_in_folder}
use Rattle.load.specs.JudgedApps.{IsJudgedOf, ruleset_of}
use Rattle.load.specs.Made.{IsMadeFrom}
use Rattle.load.specs.Sources.{AreSources}
use Rattle.load.specs.declared.judged.JudgedManifest.{JudgedManifest}
use Rattle.load.specs.declared.opened.CollectedManifest.{CollectedManifest}
use Rattle.load.specs.declared.sources.Sources.{Sources}

-- the file gives these bytes, and this is gathered from them and the files of its folder
pub record IsCollected (known : KnownFiles) (path : List ℕ) (c : CollectedManifest) : Type 0 where
  pub given : Gives (regular_files known) path (Some c.bytes.items)
  pub are_sources : AreSources (files_in_folder known path) [] c.bytes.items c.sources

-- and judged
pub record IsOpened (known : KnownFiles) (path : List ℕ) (j : JudgedManifest) : Type 0 where
  pub bytes : List ℕ
  pub given : Gives (regular_files known) path (Some bytes)
  pub sources : Sources
  pub are_sources : AreSources (files_in_folder known path) [] bytes sources
  pub judged_of : IsJudgedOf bytes sources j

-- the ruleset of what is opened is the one that a load makes
abbrev pub OpenedIsMade : Type 0
OpenedIsMade = (known : KnownFiles) (path : List ℕ) (j : JudgedManifest) → IsOpened known path j
    → IsMadeFrom known path [] (ruleset_of j)
