-- The first of all schema errors, and of all duplicate names, is the reported one.
use Rattle.std.proofs.Common.{◌≡◌, ℕ, ◌+◌, Bool, true, false, cond, List, [], ◌∷◌, ◌++◌, map}
use Rattle.std.proofs.Common.{codes, Option, Some, None, option_map, Result, Ok, Err}
use Rattle.std.proofs.Common.{refl, sym, ap, ◌∙◌}
use Rattle.std.proofs.lemmas.Option.{same_Some, none-some}
use Rattle.std.specs.List.{list_any}
use Rattle.std.specs.Option.{option_to_list}
use Rattle.std.specs.Str.{bytes_eq}
use Rattle.toml.specs.Data.{Data, Members, get_member, as_str}
use Rattle.cells.specs.Directory.{Declaration}
use Rattle.manifest.specs.declared.kind.Kind.TheVariants as kind
use Rattle.manifest.specs.declared.manifest_fault.DuplicateName.{DuplicateName}
use Rattle.manifest.specs.declared.manifest_fault.DuplicateName.TheVariants as duplicate
use Rattle.manifest.specs.declared.schema_error.InList.{InList}
use Rattle.manifest.specs.declared.schema_error.InList.TheVariants.{Count}
use Rattle.manifest.specs.declared.schema_error.AppError.{AppError}
use Rattle.manifest.specs.declared.schema_error.ArrayError.{ArrayError}
use Rattle.manifest.specs.declared.schema_error.SchemaError.{SchemaError}
use Rattle.manifest.specs.declared.schema_error.SchemaError.TheVariants as schema_error
use Rattle.why_refused_manifest.specs.AllDuplicates.{all_duplicates, duplicate_names, names_without}
use Rattle.manifest.specs.App.{AppEntry, app_of}
use Rattle.manifest.specs.Array.{array_of}
use Rattle.why_refused_manifest.specs.FirstFault.{HasSchemaErrorFirst, HasDuplicateFirst}
use Rattle.manifest.specs.Kind.{only_or, unknown_member}
use Rattle.manifest.specs.Manifest.{Manifest, IsTree, arrays_of, apps_of, none_of, once}
use Rattle.manifest.specs.Manifest.{tables_of}
use Rattle.manifest.specs.Member.{fits, needs, required}
use Rattle.why_refused_manifest.specs.SchemaErrors.{errors_or_count, schema_error_in}
use Rattle.why_refused_manifest.specs.SchemaErrors.{schema_errors_from}
use Rattle.why_refused_manifest.specs.SchemaErrors.{schema_errors_of}
use Rattle.why_refused_manifest.specs.SchemaErrors.{app_schema_errors, array_schema_errors}
use Rattle.why_refused_manifest.specs.SchemaErrors.{schema_errors_of_rows, server_of}
use Rattle.manifest.specs.Rows.{item_of, items_between, items_from, rows_of, rows_or_count}
use Rattle.manifest.specs.Rows.{with_first}
use Rattle.manifest.specs.DuplicateNames.{repeated}

abbrev first : {X : Type 0} → List X → Option X
first [] = None
first (x ∷ xs) = Some x

abbrev fault_in : {X E : Type 0} → Result X E → Option E
fault_in (Ok x) = None
fault_in (Err e) = Some e

abbrev or_else : {X : Type 0} → Option X → Option X → Option X
or_else None next = next
or_else (Some x) next = Some x

first-append : {X : Type 0} (xs ys : List X) → first (xs ++ ys) ≡ or_else (first xs) (first ys)
first-append [] ys = refl
first-append (x ∷ xs) ys = refl

first-map : {X Y : Type 0} (f : X → Y) (xs : List X)
    → first (map f xs) ≡ option_map f (first xs)
first-map f [] = refl
first-map f (x ∷ xs) = refl

begins : {X : Type 0} (xs : List X) (x : X) → first xs ≡ Some x
    → (others : List X) × (xs ≡ x ∷ others)
begins [] x is = absurd (none-some x is)
begins (y ∷ ys) x is = (ys, ap (λ z. z ∷ ys) (same_Some y x is))

-- ---- the rows of a list

first_of_two : {X M : Type 0} (r : Result X M) (behind : List M) (rest : Result (List X) M)
    → first behind ≡ fault_in rest
    → first (schema_error_in r ++ behind) ≡ fault_in (with_first r rest)
first_of_two (Err m) behind rest same = refl
first_of_two (Ok x) behind (Err m) same = same
first_of_two (Ok x) behind (Ok xs) same = same

module _ {X M : Type 0} (row_of : Members → Result X M) where
  first_from : (n : ℕ) (ds : List Data)
      → first (schema_errors_from row_of n ds) ≡ fault_in (items_from row_of n ds)
  first_from n [] = refl
  first_from n (d ∷ ds) =
      first_of_two (item_of row_of n d) (schema_errors_from row_of (n + 1) ds)
      (items_from row_of (n + 1) ds) (first_from (n + 1) ds)

  first_or_count : (items : Option (List Data))
      → first (errors_or_count row_of items) ≡ fault_in (rows_or_count row_of items)
  first_or_count None = refl
  first_or_count (Some ds) = first_from 1 ds

  first_row : (from to : ℕ) (value : Option Data)
      → first (schema_errors_of_rows row_of from to value) ≡ fault_in (rows_of row_of from to value)
  first_row from to value = first_or_count (items_between from to value)

-- ---- a manifest

first_of_parts : (key server : Option (List ℕ))
    (arrays : Result (List Declaration) (InList ArrayError))
    (apps : Result (List AppEntry) (InList AppError))
    → or_else (or_else (or_else (first (map schema_error.Unknown (option_to_list key)))
    (first (server_of server)))
    (option_map schema_error.Arrays (fault_in arrays)))
    (option_map schema_error.Apps (fault_in apps))
    ≡ fault_in {X = Manifest} (only_or key schema_error.Unknown (
    needs server schema_error.Server (λ server.
    fits arrays schema_error.Arrays (λ arrays.
    fits apps schema_error.Apps (λ apps.
    Ok (record { server = server; arrays = arrays; apps = apps }))))))
first_of_parts (Some key) server arrays apps = refl
first_of_parts None None arrays apps = refl
first_of_parts None (Some server) (Err m) apps = refl
first_of_parts None (Some server) (Ok arrays) (Err m) = refl
first_of_parts None (Some server) (Ok arrays) (Ok apps) = refl

first_of_tree : (tree : Members) → first (schema_errors_of tree) ≡ fault_in (tables_of tree)
first_of_tree tree =
    let unknown = map schema_error.Unknown (option_to_list (unknown_member kind.Manifest tree)) in
    let server = server_of (required as_str (codes "server") tree) in
    let arrays = map schema_error.Arrays (array_schema_errors tree) in
    let apps = map schema_error.Apps (app_schema_errors tree) in
    first-append ((unknown ++ server) ++ arrays) apps
    ∙ ap (λ o. or_else o (first apps)) (first-append (unknown ++ server) arrays
    ∙ ap (λ o. or_else o (first arrays)) (first-append unknown server))
    ∙ ap (λ o. or_else (or_else (or_else (first unknown) (first server)) o) (first apps))
    (first-map schema_error.Arrays (array_schema_errors tree) ∙ ap (option_map schema_error.Arrays)
    (first_row array_of 0 64 (get_member (codes "array") tree)))
    ∙ ap (λ o. or_else (or_else (or_else (first unknown) (first server))
    (option_map schema_error.Arrays (fault_in (arrays_of tree)))) o)
    (first-map schema_error.Apps (app_schema_errors tree) ∙ ap (option_map schema_error.Apps)
    (first_row app_of 1 256 (get_member (codes "app") tree)))
    ∙ first_of_parts (unknown_member kind.Manifest tree) (required as_str (codes "server") tree)
    (arrays_of tree) (apps_of tree)

-- ---- names

first_name_of : (again : Bool) (name : List ℕ) (some all : List (List ℕ))
    (r : Option (List ℕ))
    → first all ≡ r → first (cond again (name ∷ some) all) ≡ cond again (Some name) r
first_name_of true name some all r same = refl
first_name_of false name some all r same = same

first_name : (names : List (List ℕ)) → first (duplicate_names names) ≡ repeated names
first_name [] = refl
first_name (name ∷ rest) =
    first_name_of (list_any (bytes_eq name) rest) name (names_without name (duplicate_names rest))
    (duplicate_names rest) (repeated rest) (first_name rest)

first_of_names : (manifest : Manifest) (array app : Option (List ℕ))
    → or_else (option_map duplicate.Array array) (option_map duplicate.App app)
    ≡ fault_in (none_of array duplicate.Array (none_of app duplicate.App (Ok manifest)))
first_of_names manifest (Some name) app = refl
first_of_names manifest None (Some appid) = refl
first_of_names manifest None None = refl

first_of_once : (manifest : Manifest) → first (all_duplicates manifest) ≡ fault_in (once manifest)
first_of_once manifest =
    let arrays = map (λ (a : Declaration). a.name) manifest.arrays in
    let apps = map (λ (a : AppEntry). a.appid) manifest.apps in
    first-append (map duplicate.Array (duplicate_names arrays))
    (map duplicate.App (duplicate_names apps))
    ∙ ap (λ o. or_else o (first (map duplicate.App (duplicate_names apps))))
    (first-map duplicate.Array (duplicate_names arrays)
    ∙ ap (option_map duplicate.Array) (first_name arrays))
    ∙ ap (λ o. or_else (option_map duplicate.Array (repeated arrays)) o)
    (first-map duplicate.App (duplicate_names apps)
    ∙ ap (option_map duplicate.App) (first_name apps))
    ∙ first_of_names manifest (repeated arrays) (repeated apps)

-- ---- bytes

one_tree : (bytes : List ℕ) (t u : Members) → IsTree bytes t → IsTree bytes u → t ≡ u
one_tree bytes t u is are = same_Some t u (sym is.document ∙ are.document)

pub schema_error_first : (bytes : List ℕ) → HasSchemaErrorFirst bytes
schema_error_first bytes schema_error tree read is =
    begins (schema_errors_of tree) schema_error
    (first_of_tree tree
    ∙ ap (λ t. fault_in (tables_of t)) (one_tree bytes tree read.tree is read.spelled)
    ∙ ap fault_in read.tables_are)

abbrev duplicate_in : Result Manifest SchemaError → Option DuplicateName
duplicate_in (Ok manifest) = fault_in (once manifest)
duplicate_in (Err schema_error) = None

pub duplicate_first : (bytes : List ℕ) → HasDuplicateFirst bytes
duplicate_first bytes duplicate tree duplicates read is has =
    begins duplicates duplicate
    (ap first has.duplicates_are ∙ first_of_once has.manifest
    ∙ ap duplicate_in (sym has.tables_are)
    ∙ ap (λ t. duplicate_in (tables_of t)) (one_tree bytes tree read.1.tree is read.1.spelled)
    ∙ ap duplicate_in read.1.tables_are
    ∙ ap fault_in read.2)
