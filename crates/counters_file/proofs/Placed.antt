-- An array after those that were declared before it.
use Rattle.std.proofs.Common.{◌≡◌, ◌≢◌, ℕ, ◌+◌, ◌<◌, ◌≤◌, Bool, true, List, ◌∷◌, ◌++◌, length}
use Rattle.std.proofs.Common.{refl, sym, ap, subst, ◌∙◌, arith, Some, get_or}
use Rattle.std.specs.Prelude.{All, slice_get, if◌then◌else◌}
use Rattle.std.proofs.Math.Seq.{get_or-append_seam, take-append_seam}
use Rattle.std.proofs.lemmas.List.{length-append, get_or_append_left, get_or_default}
use Rattle.std.proofs.lemmas.List.Sums.{sum_by-append, sum_by-cons}
use Rattle.std.proofs.lemmas.Option.{slice_get_read}
use Rattle.cells.specs.declared.array.CellArray.{CellArray}
use Rattle.cells.specs.declared.array.CellWidth.{CellWidth}
use Rattle.cells.specs.declared.array.CellWidth.TheVariants.{Bits32, Bits64}
use Rattle.cells.specs.Arrays.{HasCell, HasRanges, first_cell}
use Rattle.cells.specs.Directory.{IsDirectory, cells_of, same_width, taken, next_cell}
use Rattle.cells.specs.Names.{IsName}

-- an array, after these arrays
pub record IsPlaced (done : List CellArray) (a : CellArray) : Type 0 where
  pub name : IsName a.name
  pub new : All (λ b. b.name ≢ a.name) done
  pub ranges : HasRanges a.width a.length a.quota
  pub base : a.base ≡ next_cell a.width done
  pub fits : taken a.width done + a.length ≤ 4096

module _ {X : Type 0} where
  -- the element after these ones
  pub at_seam : (done : List X) (a : X) (rest : List X)
      → slice_get (done ++ a ∷ rest) (length done) ≡ Some a
  at_seam done a rest =
      let size = length-append done (a ∷ rest) in
      slice_get_read (done ++ a ∷ rest) (length (done ++ a ∷ rest)) (length done) a refl
      (omega (arith, size)) (sym (get_or-append_seam done a rest a))

  before_seam : (done : List X) (a : X) (rest : List X) (k : ℕ) (d : X) → k < length done
      → slice_get (done ++ a ∷ rest) k ≡ Some (get_or done k d)
  before_seam done a rest k d lt =
      let size = length-append done (a ∷ rest) in
      let b = get_or done k d in
      let read : get_or (done ++ a ∷ rest) k b ≡ get_or done k b =
      get_or_append_left done (a ∷ rest) b k lt in
      slice_get_read (done ++ a ∷ rest) (length (done ++ a ∷ rest)) k b refl
      (omega (arith, size, lt)) (sym (read ∙ get_or_default done k b d lt))

own : (w : CellWidth) → same_width w w ≡ true
own Bits32 = refl
own Bits64 = refl

own_cells : (a : CellArray) → cells_of a.width a ≡ a.length
own_cells a = ap (λ (b : Bool). if b then a.length else 0) (own a.width)

-- its cells are within those of its width
fits_there : (done : List CellArray) (a : CellArray) (rest : List CellArray)
    → taken a.width (done ++ a ∷ rest) ≤ 4096 → taken a.width done + a.length ≤ 4096
fits_there done a rest all =
    let parts = sum_by-append (cells_of a.width) done (a ∷ rest) in
    let first = sum_by-cons (cells_of a.width) a rest in
    let size = own_cells a in
    omega (arith, parts, first, size, all)

pub placed : (done : List CellArray) (a : CellArray) (rest : List CellArray)
    → All (λ b. IsName b.name) (done ++ a ∷ rest) → IsDirectory (done ++ a ∷ rest)
    → IsPlaced done a
placed done a rest names known =
    let size = length-append done (a ∷ rest) in
    let here = at_seam done a rest in
    let P : CellArray → Type 0 = λ b. HasRanges b.width b.length b.quota in
    let N : CellArray → Type 0 = λ b. IsName b.name in
    let read = get_or-append_seam done a rest a in
    let within : length done < length (done ++ a ∷ rest) = omega (arith, size) in
    record {
      name = subst N read (names (length done) a within);
      new = λ k d lt same.
          let there = known.names k (length done) (get_or done k d) a
          (before_seam done a rest k d lt) here same in
          absurd (omega (arith, lt, there));
      ranges = subst P read (known.ranges (length done) a within);
      base =
          known.places (length done) a here
          ∙ ap (λ l. next_cell a.width l) (take-append_seam done (a ∷ rest));
      fits = fits_there done a rest (known.cells_fit a.width);
    }

low_base : (w : CellWidth) → first_cell w ≤ 4096
low_base Bits32 = omega arith
low_base Bits64 = omega arith

pub low_cell : (done : List CellArray) (a : CellArray) → IsPlaced done a → (c : ℕ)
    → HasCell a c → c < 8192
low_cell done a at c has =
    let low = low_base a.width in
    let base = at.base in
    let fits = at.fits in
    let to = has.1 in
    omega (arith, low, base, fits, to)
