-- Manifests that are checked and reported as JSON, in order.
use Rattle.std.proofs.Common.{◌≡◌, ℕ, ◌+◌, ◌<◌, List, [], ◌∷◌, ◌++◌, length, map}
use Rattle.std.proofs.Common.{Bool, true, add-one, get_or, take}
use Rattle.std.proofs.Math.Seq.{take-suc}
use Rattle.std.specs.Borrow.{Bor}
use Rattle.bounded_files.specs.Files.{KnownFiles}
use Rattle.cli_manifests.specs.CheckObjects.{AreCheckObjects}
use Rattle.cli_manifests.specs.CheckObjects.AreCheckObjects.{none, next}
use Rattle.cli_manifests.specs.CheckedObjects.{AddsCheckObject}
use Rattle.cli_manifests.specs.declared.check_json.ManifestObjects.{ManifestObjects}
use Rattle.serde_json.specs.View.{view}
use Rattle.serde_json.specs.declared.value.Value.{Value}

-- the first `n` manifests are reported
abbrev pub AreCheckedSoFar : KnownFiles → (strict : Bool) → (allowed paths : List (Bor (List ℕ)))
    → (n : ℕ) → ManifestObjects → Type 0
AreCheckedSoFar known strict allowed paths n objects =
    AreCheckObjects known strict allowed (take n paths) (map view objects.values.items)
    objects.passes

pub none_checked : (known : KnownFiles) (strict : Bool) (allowed paths : List (Bor (List ℕ)))
    (values : List Value) → values ≡ []
    → AreCheckObjects known strict allowed (take 0 paths) (map view values) true
none_checked known strict allowed paths values nothing = rw nothing none

pub one_more_checked : (known : KnownFiles) (strict : Bool) (allowed paths : List (Bor (List ℕ)))
    (n : ℕ) (d : Bor (List ℕ)) (old new : ManifestObjects)
    → AreCheckedSoFar known strict allowed paths n old → n < length paths
    → AddsCheckObject known strict allowed (get_or paths n d).now old new
    → AreCheckedSoFar known strict allowed paths (n + 1) new
one_more_checked known strict allowed paths n d old new so_far within added =
    let paths_are : take (n + 1) paths ≡ take n paths ++ get_or paths n d ∷ [] =
    rw add-one (take-suc paths n d within) in
    rw (paths_are, added.values_are, added.passes_is)
    (next (take n paths) (get_or paths n d) (map view old.values.items) added.value old.passes
    added.one so_far added.object)
