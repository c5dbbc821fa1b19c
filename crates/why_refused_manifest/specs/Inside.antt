-- Names that stay in the folder from which they are resolved.
use Rattle.std.specs.Prelude.{ℕ, List, Bool, not, ◌&&◌, ◌||◌}
use Rattle.std.specs.List.{list_any}
use Rattle.std.specs.Path.{parent_dir, path_components, root_dir}
use Rattle.std.specs.Str.{bytes_eq}
use Rattle.load.specs.declared.sources.AppSources.{AppSources}
use Rattle.manifest.specs.App.{file_of}

-- the part of a path begins at the root, or goes up
abbrev pub leads_out : List ℕ → Bool
leads_out part = bytes_eq part root_dir || bytes_eq part parent_dir

-- none of its parts leads out
abbrev pub is_inside : List ℕ → Bool
is_inside name = not (list_any leads_out (path_components name))

-- the file of an app is in the manifest's folder, by its name and with no symbolic link in its path
abbrev pub lies_inside : AppSources → Bool
lies_inside app = is_inside (file_of app.entry.source) && not app.through_link
