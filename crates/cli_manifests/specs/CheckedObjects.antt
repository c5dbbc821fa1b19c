-- One more object of a check that is reported as JSON.
use Rattle.std.specs.Prelude.{◌≡◌, ℕ, List, [], ◌∷◌, ◌++◌, Bool, ◌&&◌, map}
use Rattle.std.specs.Borrow.{Bor}
use Rattle.bounded_files.specs.Files.{KnownFiles}
use Rattle.cli_manifests.specs.CheckObjects.{IsCheckObject}
use Rattle.cli_manifests.specs.declared.check_json.ManifestObjects.{ManifestObjects}
use Rattle.serde_json.specs.Data.{Data}
use Rattle.serde_json.specs.View.{view}

-- adds the object of a manifest; all have to pass
pub record AddsCheckObject (known : KnownFiles) (strict : Bool) (allowed : List (Bor (List ℕ)))
    (path : List ℕ) (old new : ManifestObjects) : Type 0 where
  pub value : Data
  pub one : Bool
  pub object : IsCheckObject known strict allowed path value one
  pub values_are : map view new.values.items ≡ map view old.values.items ++ value ∷ []
  pub passes_is : new.passes ≡ (old.passes && one)
