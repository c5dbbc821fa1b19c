-- Values without a float: the report on a check has none.
use Rattle.std.proofs.Common.{◌≡◌, refl, ℕ, List, [], ◌∷◌, ◌++◌, Bool, false, map}
use Rattle.std.proofs.Common.{Option, None, Some}
use Rattle.std.proofs.lemmas.Bool.{or_from, or_parts}
use Rattle.std.specs.Borrow.{Bor}
use Rattle.bounded_files.specs.Files.{KnownFiles}
use Rattle.cells.specs.Directory.{Declaration}
use Rattle.why_refused_manifest.specs.declared.accepted.CheckedManifest.{CheckedManifest}
use Rattle.cli_manifests.specs.CheckObjects.{AreCheckObjects, IsCheckObject}
use Rattle.cli_manifests.specs.CheckObjects.{accepted_object, array_object}
use Rattle.cli_manifests.specs.CheckObjects.{checked_app_object, checks_object, fault_objects}
use Rattle.cli_manifests.specs.CheckObjects.{further_object, quota_object, refused_object}
use Rattle.cli_manifests.specs.CheckObjects.{warning_object}
use Rattle.cli_manifests.specs.CheckObjects.IsCheckObject.{accepted, refused}
use Rattle.cli_manifests.specs.CheckObjects.AreCheckObjects.{none, next}
use Rattle.cli_manifests.specs.declared.manifest_tool_fault.ManifestToolFault.{ManifestToolFault}
use Rattle.cli_manifests.specs.declared.manifest_tool_fault.ManifestToolFault.TheVariants as fault
use Rattle.serde_json.specs.Data.{Data}
use Rattle.serde_json.specs.View.{items_of}
use Rattle.serde_json.specs.Written.{has_float, items_have_float}

abbrev pub AreFloatless : List Data → Type 0
AreFloatless values = items_have_float (items_of values) ≡ false

mapped : {X : Type 0} (f : X → Data) (xs : List X) → ((x : X) → has_float (f x) ≡ false)
    → AreFloatless (map f xs)
mapped f [] each = refl
mapped f (x ∷ xs) each = or_from (has_float (f x)) _ (each x) (mapped f xs each)

one_more : (xs : List Data) (x : Data) → AreFloatless xs → has_float x ≡ false
    → AreFloatless (xs ++ x ∷ [])
one_more [] x so_far last = or_from (has_float x) false last refl
one_more (y ∷ xs) x so_far last =
    or_from (has_float y) (items_have_float (items_of (xs ++ x ∷ [])))
    (or_parts (has_float y) (items_have_float (items_of xs)) so_far).0
    (one_more xs x (or_parts (has_float y) (items_have_float (items_of xs)) so_far).1 last)

-- ---- objects

quota : (q : Option ℕ) → has_float (quota_object q) ≡ false
quota None = refl
quota (Some q) = refl

of_array : (d : Declaration) → has_float (array_object d) ≡ false
of_array d = or_from (has_float (quota_object d.quota)) false (quota d.quota) refl

of_accepted : (allowed : List (Bor (List ℕ))) (path : List ℕ) (checked : CheckedManifest)
    → has_float (accepted_object allowed path checked) ≡ false
of_accepted allowed path checked =
    or_from _ _ (mapped checked_app_object checked.apps.items (λ a. refl))
    (or_from _ _ (mapped array_object checked.arrays.items of_array)
    (or_from _ false (mapped (warning_object allowed) checked.warnings.items (λ w. refl)) refl))

of_faults : (reason : List ℕ) (why : ManifestToolFault) → AreFloatless (fault_objects reason why)
of_faults reason (fault.Diagnosed found) = mapped further_object found.further.items (λ f. refl)
of_faults reason why = refl

of_refused : (path reason : List ℕ) (why : ManifestToolFault)
    → has_float (refused_object path reason why) ≡ false
of_refused path reason why = or_from _ false (of_faults reason why) refl

-- ---- all of them

of_object : (known : KnownFiles) (strict : Bool) (allowed : List (Bor (List ℕ))) (path : List ℕ)
    (value : Data) (one : Bool) → IsCheckObject known strict allowed path value one
    → has_float value ≡ false
of_object known strict allowed path value one (accepted manifest checked) =
    of_accepted allowed path manifest
of_object known strict allowed path value one (refused why reason refuses) =
    of_refused path reason why

of_each : (known : KnownFiles) (strict : Bool) (allowed : List (Bor (List ℕ)))
    (paths : List (Bor (List ℕ))) (values : List Data) (all : Bool)
    → AreCheckObjects known strict allowed paths values all → AreFloatless values
of_each known strict allowed paths values all none = refl
of_each known strict allowed paths values all
    (next before path so_far value passed one objects last) =
    one_more so_far value (of_each known strict allowed before so_far passed objects)
    (of_object known strict allowed path.now value one last)

pub of_checks : (known : KnownFiles) (strict : Bool) (allowed : List (Bor (List ℕ)))
    (paths : List (Bor (List ℕ))) (values : List Data) (all : Bool)
    → AreCheckObjects known strict allowed paths values all
    → has_float (checks_object values all) ≡ false
of_checks known strict allowed paths values all objects =
    or_from _ false (of_each known strict allowed paths values all objects) refl
