-- Arrays that two manifests declare under one name in different ways. A server that has the one
-- refuses the other (M7 N2).
use Rattle.std.specs.Prelude.{ℕ, List, Option, Some, None, Bool, true, false}
use Rattle.std.specs.Prelude.{◌==◌, ◌&&◌, if◌then◌else◌}
use Rattle.std.specs.List.{filter_map, find}
use Rattle.std.specs.Str.{bytes_eq}
use Rattle.cells.specs.Directory.{Declaration, same_width}

-- two arrays of one name
pub record ArrayChange : Type 0 where
  pub old : Declaration
  pub new : Declaration

abbrev pub same_quota : Option ℕ → Option ℕ → Bool
same_quota None None = true
same_quota None (Some q) = false
same_quota (Some q) None = false
same_quota (Some q) (Some r) = q == r

abbrev pub is_declared_alike : (d e : Declaration) → Bool
is_declared_alike d e =
    same_width d.width e.width && (d.length == e.length) && same_quota d.quota e.quota

abbrev pub declared_as : List Declaration → (name : List ℕ) → Option Declaration
declared_as arrays name = find (λ d. bytes_eq d.name name) arrays

abbrev pub change_if_any : Declaration → Option Declaration → Option ArrayChange
change_if_any old None = None
change_if_any old (Some new) =
    if is_declared_alike old new then None else Some (record { old = old; new = new })

-- the change of an array of OLD, if NEW declares it in another way
abbrev pub change_among : List Declaration → Declaration → Option ArrayChange
change_among new d = change_if_any d (declared_as new d.name)

abbrev pub array_changes : (old new : List Declaration) → List ArrayChange
array_changes old new = filter_map (change_among new) old
