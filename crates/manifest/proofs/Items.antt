-- The items of a list, as the values of a `Vec`.
use Rattle.std.proofs.Common.{◌≡◌, List, [], ◌∷◌, map, refl, ap}
use Rattle.toml.specs.View.{view, items_view}
use Rattle.toml.specs.declared.value.Value.{Value}
use Rattle.manifest.specs.Rows.{data_of}

pub data_of-items : (vs : List Value) → data_of (items_view vs) ≡ map view vs
data_of-items [] = refl
data_of-items (v ∷ vs) = ap (λ ds. view v ∷ ds) (data_of-items vs)
