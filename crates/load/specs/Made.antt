-- A ruleset made of a manifest and its files, as they were gathered, with the digest of all of
-- them.
use Rattle.std.specs.Prelude.{◌≡◌, ℕ, List, Some}
use Rattle.bounded_files.specs.Files.{KnownFiles, Gives, regular_files}
use Rattle.bpf_semantics.specs.Program.{ShapedProgram}
use Rattle.cells.specs.declared.array.CellArray.{CellArray}
use Rattle.load.specs.Digest.{digest_of}
use Rattle.load.specs.Folder.{files_in_folder}
use Rattle.load.specs.Sources.{AreSources}
use Rattle.load.specs.Judged.{AreJudged, apps_of}
use Rattle.load.specs.Load.{IsRulesetOf}
use Rattle.load.specs.declared.sources.Sources.{Sources}
use Rattle.ruleset.specs.declared.loaded.LoadedRuleset.{LoadedRuleset}
use Rattle.ruleset.specs.Rules.{HasDuplicate, appids_of}

-- Each app has the program that its file is judged to be; the digest is that of the manifest's
-- bytes and of exactly the bytes that were judged.
pub record IsMadeOf (bytes : List ℕ) (g : Sources) (made : LoadedRuleset) : Type 0 where
  pub programs : List ShapedProgram
  pub judged : AreJudged g.apps.items programs
  pub server_is : made.rules.server ≡ g.server
  pub apps_are : made.rules.apps ≡ apps_of g.apps.items programs
  pub directory_is : made.directory ≡ g.directory
  pub digest_is : digest_of bytes g.apps.items ≡ Some made.digest

-- The ruleset is made of what is gathered from these bytes and from files, over the existing
-- arrays.
pub record IsMadeOver (known : KnownFiles) (old : List CellArray) (bytes : List ℕ)
    (made : LoadedRuleset) : Type 0 where
  pub sources : Sources
  pub are_sources : AreSources known old bytes sources
  pub made_of : IsMadeOf bytes sources made

-- The file at a path gives these bytes. The ruleset is made of what is gathered from them and from
-- the files of its folder, over the existing arrays.
pub record IsMadeFrom (known : KnownFiles) (path : List ℕ) (old : List CellArray)
    (made : LoadedRuleset) : Type 0 where
  pub bytes : List ℕ
  pub given : Gives (regular_files known) path (Some bytes)
  pub sources : Sources
  pub are_sources : AreSources (files_in_folder known path) old bytes sources
  pub made_of : IsMadeOf bytes sources made

-- ---- the ruleset made of what was gathered is the one that is loaded

-- whatever programs the gathered apps have, no appid is a duplicate; and the ruleset made of them
-- is the one that the manifest's load gives
pub record IsMadeLoad (known : KnownFiles) (old : List CellArray) (bytes : List ℕ) (g : Sources)
    : Type 0 where
  pub once : (programs : List ShapedProgram) → AreJudged g.apps.items programs
      → ¬ HasDuplicate (appids_of (apps_of g.apps.items programs))
  pub made : (made : LoadedRuleset) → IsMadeOf bytes g made
      → IsRulesetOf known old bytes made.rules made.directory

abbrev pub SourcesAreMade : Type 0
SourcesAreMade = (known : KnownFiles) (old : List CellArray) (bytes : List ℕ) (g : Sources)
    → AreSources known old bytes g → IsMadeLoad known old bytes g
