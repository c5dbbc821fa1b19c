-- The tables of a manifest, and the members that each may have.
use Rattle.std.specs.Prelude.{ℕ, List, [], ◌∷◌, codes, Option, Some, None, if◌then◌else◌}
use Rattle.std.specs.Prelude.{Result, Err}
use Rattle.std.specs.List.{list_any}
use Rattle.std.specs.Str.{bytes_eq}
use Rattle.toml.specs.Data.{Members, no_members, member}
use Rattle.manifest.specs.declared.kind.Kind.{Kind}
use Rattle.manifest.specs.declared.kind.Kind.TheVariants.{Manifest, Array, App, Release, Package}

-- the members that each kind of table may have; the first other one is a schema error
abbrev pub members_of : Kind → List (List ℕ)
members_of Manifest = codes "server" ∷ codes "array" ∷ codes "app" ∷ []
members_of Array = codes "name" ∷ codes "width" ∷ codes "length" ∷ codes "quota" ∷ []
members_of App = codes "appid" ∷ codes "program" ∷ codes "rule" ∷ codes "release" ∷ []
members_of Release = codes "version" ∷ codes "codebase" ∷ codes "package" ∷ []
members_of Package = codes "name" ∷ codes "hash_sha256" ∷ codes "size" ∷ codes "required" ∷ []

-- the first key that isn't allowed in a table of this kind
abbrev pub unknown_member : Kind → Members → Option (List ℕ)
unknown_member kind no_members = None
unknown_member kind (member key value rest) =
    if list_any (bytes_eq key) (members_of kind) then unknown_member kind rest else Some key

abbrev pub only_or : {Y E : Type 0} → Option (List ℕ) → (List ℕ → E) → Result Y E → Result Y E
only_or None fault next = next
only_or (Some key) fault next = Err (fault key)

-- continues if the table has only allowed members; otherwise the first other member is the fault
abbrev pub only :
    {Y E : Type 0} → Kind → Members → (List ℕ → E) → Result Y E → Result Y E
only kind table fault next = only_or (unknown_member kind table) fault next
