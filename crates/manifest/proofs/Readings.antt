-- Bytes have one reading: they have one tree, and a tree determines the result.
use Rattle.std.proofs.Common.{◌≡◌, ℕ, List, Result, Ok, Err}
use Rattle.std.proofs.Common.{refl, sym, ◌∙◌, ap, arith}
use Rattle.std.proofs.lemmas.Option.{same_Some, none-some}
use Rattle.toml.specs.Data.{Members}
use Rattle.manifest.specs.declared.manifest_fault.ManifestFault.{ManifestFault}
use Rattle.manifest.specs.declared.manifest_fault.ManifestFault.TheVariants.{Toml, Field, Duplicate}
use Rattle.manifest.specs.declared.manifest_fault.TomlFault.{TomlFault}
use Rattle.manifest.specs.declared.manifest_fault.TomlFault.TheVariants.{TooLong, Text}
use Rattle.manifest.specs.declared.manifest_fault.DuplicateName.{DuplicateName}
use Rattle.manifest.specs.declared.schema_error.SchemaError.{SchemaError}
use Rattle.manifest.specs.Manifest.{Manifest, IsTree, HasNoTree, ReadsManifest}
use Rattle.manifest.specs.Manifest.{tables_of, once}
use Rattle.manifest.specs.OneReading.{HasOneManifest}

-- the result of a tree's tables
abbrev of_names : Result Manifest DuplicateName → Result Manifest ManifestFault
of_names (Ok manifest) = Ok manifest
of_names (Err duplicate) = Err (Duplicate duplicate)

abbrev of_tables : Result Manifest SchemaError → Result Manifest ManifestFault
of_tables (Ok manifest) = of_names (once manifest)
of_tables (Err schema_error) = Err (Field schema_error)

-- a reading, by its source
data Found (bytes : List ℕ) : Result Manifest ManifestFault → Type 0 where
  no_tree : (fault : TomlFault) → HasNoTree bytes fault → Found bytes (Err (Toml fault))
  tree : (r : Result Manifest ManifestFault) (tree : Members) → IsTree bytes tree
      → r ≡ of_tables (tables_of tree) → Found bytes r

found : (bytes : List ℕ) (r : Result Manifest ManifestFault) → ReadsManifest bytes r → Found bytes r
found bytes (Ok manifest) h =
    tree (Ok manifest) h.0.tree h.0.spelled
    (sym (ap of_tables h.0.tables_are ∙ ap of_names h.1))
found bytes (Err (Toml fault)) h = no_tree fault h
found bytes (Err (Field schema_error)) h =
    tree (Err (Field schema_error)) h.tree h.spelled (sym (ap of_tables h.tables_are))
found bytes (Err (Duplicate duplicate)) h =
    tree (Err (Duplicate duplicate)) h.1.tree h.1.spelled
    (sym (ap of_tables h.1.tables_are ∙ ap of_names h.2))

no_tree_of : (bytes : List ℕ) (fault : TomlFault) (t : Members) → HasNoTree bytes fault
    → IsTree bytes t → ⊥
no_tree_of bytes TooLong t long is = omega (arith, long, is.short)
no_tree_of bytes Text t none is = none-some t (sym (none.1 is.utf8) ∙ is.document)

one_tree_fault : (bytes : List ℕ) (e f : TomlFault) → HasNoTree bytes e → HasNoTree bytes f → e ≡ f
one_tree_fault bytes TooLong TooLong h k = refl
one_tree_fault bytes Text Text h k = refl
one_tree_fault bytes TooLong Text h k = absurd (omega (arith, h, k.0))
one_tree_fault bytes Text TooLong h k = absurd (omega (arith, h.0, k))

same : (bytes : List ℕ) {r s : Result Manifest ManifestFault} → Found bytes r → Found bytes s
    → r ≡ s
same bytes (no_tree e h) (no_tree f k) = ap (λ x. Err (Toml x)) (one_tree_fault bytes e f h k)
same bytes (no_tree e h) (tree s t is read) = absurd (no_tree_of bytes e t h is)
same bytes (tree r t is read) (no_tree f k) = absurd (no_tree_of bytes f t k is)
same bytes (tree r t is read) (tree s u are others) =
    let one : t ≡ u = same_Some t u (sym is.document ∙ are.document) in
    read ∙ ap (λ x. of_tables (tables_of x)) one ∙ sym others

pub one_reading : (bytes : List ℕ) → HasOneManifest bytes
one_reading bytes r s h k = same bytes (found bytes r h) (found bytes s k)
