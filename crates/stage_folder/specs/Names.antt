-- The names of a folder's files: parts between slashes.
use Rattle.std.specs.Prelude.{◌≡◌, ℕ, ◌==◌, ◌++◌, List, [], ◌∷◌, length, filter, codes, not, ◌&&◌}
use Rattle.std.specs.Prelude.{◌||◌}
use Rattle.std.specs.Prelude.{Bool, false, if◌then◌else◌, Option, Some, None}
use Rattle.std.specs.List.{join_with_byte, list_any, slice_split}
use Rattle.std.specs.Str.{bytes_eq}

-- a part that stays in its folder
abbrev pub is_dot : (part : List ℕ) → Bool
is_dot part = bytes_eq part (codes ".")

-- the parts of a name, but for those that are .
abbrev pub parts_of : (name : List ℕ) → List (List ℕ)
parts_of name = filter (λ part. not (is_dot part)) (slice_split (λ b. b == 47) name)

-- a part that is empty, or leads out of a folder
abbrev pub leads_out : (part : List ℕ) → Bool
leads_out part = length part == 0 || bytes_eq part (codes "..")

-- the parts lead to a file inside a folder, outside the folder of its records
abbrev pub lead_inside : List (List ℕ) → Bool
lead_inside [] = false
lead_inside (part ∷ parts) =
    not (bytes_eq part (codes ".stage")) && not (list_any leads_out (part ∷ parts))

-- the name of a file inside a folder, without parts that are .; none if it may lead elsewhere
abbrev pub inside_name : (name : List ℕ) → Option (List ℕ)
inside_name name =
    if lead_inside (parts_of name) then Some (join_with_byte 47 (parts_of name)) else None

-- the path of such a file: the folder's, a slash, and that name
abbrev pub IsPathIn : (folder name path : List ℕ) → Type 0
IsPathIn folder name path = (inside : List ℕ)
    × (inside_name name ≡ Some inside) × (path ≡ folder ++ codes "/" ++ inside)
