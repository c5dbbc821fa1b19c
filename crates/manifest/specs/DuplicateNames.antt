-- Duplicate names.
use Rattle.std.specs.Prelude.{ℕ, List, [], ◌∷◌, Option, Some, None, if◌then◌else◌}
use Rattle.std.specs.List.{list_any}
use Rattle.std.specs.Str.{bytes_eq}

-- the first name that occurs again later
abbrev pub repeated : List (List ℕ) → Option (List ℕ)
repeated [] = None
repeated (name ∷ rest) = if list_any (bytes_eq name) rest then Some name else repeated rest
