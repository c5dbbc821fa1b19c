-- An app of the manifest in place, and a file that is replaced.
use Rattle.std.specs.Prelude.{◌≡◌, ◌⊎◌, ℕ, List, Option, Some, None, Bool, true, false, not, ◌&&◌}
use Rattle.std.specs.List.{list_any}
use Rattle.std.specs.Str.{bytes_eq}
use Rattle.bounded_files.specs.Files.{KnownFiles}
use Rattle.load.specs.Opened.{IsCollected}
use Rattle.load.specs.declared.opened.CollectedManifest.{CollectedManifest}
use Rattle.load.specs.declared.sources.AppSources.{AppSources}
use Rattle.manifest.specs.App.{file_of}
use Rattle.stage_folder.specs.Folders.{GivesFile, KnownFolder, put_known}
use Rattle.stage_folder.specs.Steps.{is_change}
use Rattle.stage_records.specs.Steps.{ReplacedFile}
use Rattle.stage_servers.specs.Apps.{app_named}

-- another app, which names the same file
abbrev pub names_file_of : (app other : AppSources) → Bool
names_file_of app other = not (bytes_eq other.entry.appid app.entry.appid)
    && bytes_eq (file_of other.entry.source) (file_of app.entry.source)

-- some other of these apps names the file of this one
abbrev pub shares_file : List AppSources → AppSources → Bool
shares_file apps app = list_any (names_file_of app) apps

-- the app with this appid of the manifest at a path, which without `--anyway` is the only one that
-- names its file
pub record IsAppOf (known : KnownFiles) (path appid : List ℕ) (anyway : Bool) (app : AppSources)
    : Type 0 where
  pub manifest : CollectedManifest
  pub collected : IsCollected known path manifest
  pub found : app_named manifest.sources.apps.items appid ≡ Some app
  pub alone : anyway ≡ false → shares_file manifest.sources.apps.items app ≡ false

-- ---- one file

-- what replaces a file by these bytes, if it has others; nothing only if it has them already
abbrev pub ReplacesBy : KnownFolder → (name bytes : List ℕ) → Option ReplacedFile → Type 0
ReplacesBy known name bytes None = GivesFile known name (Some bytes)
ReplacesBy known name bytes (Some file) =
    (file.name ≡ name) × (file.after ≡ bytes) × (is_change file ≡ true)
    × GivesFile known name file.before

-- the file of this name is replaced by these bytes, and no other file changes; or it has them
-- already, and nothing changes
abbrev pub Replaces : (old new : KnownFolder) → (name bytes : List ℕ) → Type 0
Replaces old new name bytes =
    (new ≡ put_known name (Some bytes) old) ⊎ ((new ≡ old) × GivesFile old name (Some bytes))
