-- All duplicate names of a manifest: of its arrays, and of its apps.
use Rattle.std.specs.Prelude.{◌≡◌, ℕ, List, [], ◌∷◌, ◌++◌, map, Ok, if◌then◌else◌, not}
use Rattle.std.specs.List.{filter, list_any}
use Rattle.std.specs.Str.{bytes_eq}
use Rattle.toml.specs.Data.{Members}
use Rattle.cells.specs.Directory.{Declaration}
use Rattle.manifest.specs.declared.manifest_fault.DuplicateName.{DuplicateName}
use Rattle.manifest.specs.declared.manifest_fault.DuplicateName.TheVariants as duplicate
use Rattle.manifest.specs.App.{AppEntry}
use Rattle.manifest.specs.Manifest.{Manifest, tables_of}

abbrev pub names_without : List ℕ → List (List ℕ) → List (List ℕ)
names_without name names = filter (λ other. not (bytes_eq other name)) names

-- each name that occurs again later, once, in the order of first occurrences
abbrev pub duplicate_names : List (List ℕ) → List (List ℕ)
duplicate_names [] = []
duplicate_names (name ∷ rest) =
    if list_any (bytes_eq name) rest then name ∷ names_without name (duplicate_names rest)
    else duplicate_names rest

-- in the order in which a manifest is read
abbrev pub all_duplicates : Manifest → List DuplicateName
all_duplicates manifest =
    map duplicate.Array (duplicate_names (map (λ (a : Declaration). a.name) manifest.arrays))
    ++ map duplicate.App (duplicate_names (map (λ (a : AppEntry). a.appid) manifest.apps))

-- the duplicates of a document's tables, if these have no schema error
pub record HasAllDuplicates (tree : Members) (duplicates : List DuplicateName) : Type 0 where
  pub manifest : Manifest
  pub tables_are : tables_of tree ≡ Ok manifest
  pub duplicates_are : duplicates ≡ all_duplicates manifest
