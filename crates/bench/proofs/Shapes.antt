-- A shape is determined by its releases and its arrays.
use Rattle.std.proofs.Common.{◌≡◌, ◌∙◌, ap, ℕ, List, []}
use Rattle.cells.specs.Arrays.{AppShape}
use Rattle.cells.specs.declared.array.CellArray.{CellArray}
use Rattle.bench.specs.Judged.{bench_shape}

pub shape_is : (s : AppShape) → s.releases ≡ 64 → s.arrays ≡ [] → s ≡ bench_shape
shape_is s releases arrays =
    let first : s ≡ record { releases = 64; arrays = s.arrays } =
    ap (λ (n : ℕ).
    let t : AppShape = record { releases = n; arrays = s.arrays } in t) releases in
    first ∙ ap (λ (a : List CellArray).
    let t : AppShape = record { releases = 64; arrays = a } in t) arrays
