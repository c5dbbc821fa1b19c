-- The appids of a manifest are distinct, and so are those of its apps.
use Rattle.std.proofs.Common.{◌≡◌, ℕ, zero, suc, ◌<◌, List, [], ◌∷◌, length, map}
use Rattle.std.proofs.Common.{Option, Some, None, Result, Ok}
use Rattle.std.proofs.Common.{Bool, true, false, refl, slice_index_or, if◌then◌else◌, arith}
use Rattle.std.proofs.lemmas.List.Folds.{list_any_at}
use Rattle.std.proofs.lemmas.Slice.Eq.{bytes_eq-Decides}
use Rattle.std.specs.List.{list_any}
use Rattle.std.specs.Str.{bytes_eq}
use Rattle.cells.specs.declared.array.ArrayNo.{ArrayNo}
use Rattle.cells.specs.declared.array.CellArray.{CellArray}
use Rattle.manifest.specs.App.{AppEntry}
use Rattle.manifest.specs.Manifest.{Manifest, none_of, once}
use Rattle.manifest.specs.DuplicateNames.{repeated}
use Rattle.ruleset.specs.Rules.{AppRule, HasDuplicate, appids_of}
use Rattle.bounded_files.specs.Files.{KnownFiles}
use Rattle.load.specs.Apps.{AreAppsOf, none, next}

abbrev pub entry_appids : List AppEntry → List (List ℕ)
entry_appids entries = map (λ (a : AppEntry). a.appid) entries

module _ (known : KnownFiles) (directory : List CellArray) (numbers : List ArrayNo) where
  pub same_appids : (entries : List AppEntry) (apps : List AppRule)
      → AreAppsOf known directory numbers entries apps → appids_of apps ≡ entry_appids entries
  same_appids [] [] none = refl
  same_appids [] (a ∷ apps) are = elim are [ ]
  same_appids (e ∷ entries) [] are = elim are [ ]
  same_appids (e ∷ entries) (a ∷ apps) (next head tail) =
      let rest = same_appids entries apps tail in
      let first = head.appid_is in cc

-- a name that doesn't occur again leaves the others
rest_of : {A : Type 0} (again : Bool) (name : A) (rest : Option A)
    → (if again then Some name else rest) ≡ None → (again ≡ false) × (rest ≡ None)
rest_of true name rest e = absurd cc
rest_of false name rest e = (refl, e)

apart_names : (names : List (List ℕ)) → repeated names ≡ None → (first second : ℕ)
    → first < second → second < length names
    → slice_index_or names first [] ≡ slice_index_or names second [] → ⊥
apart_names [] free first second apart within same = absurd (omega (arith, within))
apart_names (name ∷ rest) free first zero apart within same = absurd (omega (arith, apart))
apart_names (name ∷ rest) free zero (suc k) apart within same =
    let parts = rest_of (list_any (bytes_eq name) rest) name (repeated rest) free in
    let again = list_any_at (bytes_eq name) rest k [] (omega (arith, within))
    ((bytes_eq-Decides name (slice_index_or rest k [])).1 same) in
    absurd cc
apart_names (name ∷ rest) free (suc j) (suc k) apart within same =
    let parts = rest_of (list_any (bytes_eq name) rest) name (repeated rest) free in
    apart_names rest parts.1 j k (omega (arith, apart)) (omega (arith, within)) same

none_in : {X Y E : Type 0} (found : Option X) (fault : X → E) (other : Result Y E) (y : Y)
    → none_of found fault other ≡ Ok y → (found ≡ None) × (other ≡ Ok y)
none_in None fault other y e = (refl, e)
none_in (Some x) fault other y e = absurd cc

-- so the apps of a manifest with distinct names have no duplicate appid
module _ (known : KnownFiles) (directory : List CellArray) (numbers : List ArrayNo) where
  pub never_duplicate : (manifest : Manifest) (apps : List AppRule) → once manifest ≡ Ok manifest
      → AreAppsOf known directory numbers manifest.apps apps → ¬ HasDuplicate (appids_of apps)
  never_duplicate manifest apps is are duplicate =
      let arrays = none_in _ _ _ _ is in
      let appids = none_in _ _ _ _ arrays.1 in
      let h = rw (same_appids known directory numbers manifest.apps apps are) at duplicate in
      apart_names (entry_appids manifest.apps) appids.0 h.first h.second h.apart h.within h.same
