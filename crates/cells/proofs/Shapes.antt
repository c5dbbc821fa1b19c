-- The arrays of a shape, as those of a directory: each is within the cells of its width, and two of
-- them are equal or share no cell.
use Rattle.std.proofs.Common.{◌≡◌, ℕ, zero, suc, ◌+◌, ◌<◌, ◌≤◌, ◌⊎◌, inl, inr, List, [], ◌∷◌}
use Rattle.std.proofs.Common.{◌++◌, length, take, get_or, sym, ◌∙◌, ap, subst, arith, refl, map}
use Rattle.std.specs.Prelude.{Option, Some, None, is_some, slice_get, Bool, true}
use Rattle.std.specs.Prelude.{unwrap_or, if◌then◌else◌}
use Rattle.std.specs.Option.{option_map}
use mathlib.Core.List.{map-append}
use Rattle.std.proofs.lemmas.Bool.{cases_lt, false≢true}
use Rattle.std.proofs.lemmas.List.{take_more}
use Rattle.std.proofs.lemmas.List.Sums.{sum_by_more_le}
use Rattle.std.proofs.lemmas.Option.{slice_get_within, slice_get-get_or, slice_get-map}
use Rattle.std.proofs.lemmas.Option.{slice_get_read, get_or_from_slice_get}
use Rattle.cells.specs.declared.array.ArrayNo.{ArrayNo}
use Rattle.cells.specs.declared.array.CellWidth.{CellWidth}
use Rattle.cells.specs.declared.array.CellWidth.TheVariants.{Bits32, Bits64}
use Rattle.cells.specs.declared.array.CellArray.{CellArray}
use Rattle.cells.specs.Arrays.{first_cell, HasRanges, IsArray, SharesNoCell, IsShape, AreNumbered}
use Rattle.cells.specs.Directory.{same_width, cells_of, taken, next_cell, IsDirectory}
use Rattle.cells.proofs.Directories.{all_at}

-- ---- numbers

-- one number more, whose array was read and added
pub numbered_next : (directory : List CellArray) (numbers : List ArrayNo)
    (old new : List CellArray) (i : ℕ) (d : ArrayNo) (a : CellArray) → i < length numbers
    → (get_or numbers i d).number < length directory
    → a ≡ get_or directory (get_or numbers i d).number a
    → AreNumbered directory (take i numbers) old → new ≡ old ++ a ∷ []
    → AreNumbered directory (take (i + 1) numbers) new
numbered_next directory numbers old new i d a more there read h is =
    let array_of : ArrayNo → Option CellArray = λ m. slice_get directory m.number in
    let some : CellArray → Option CellArray = λ b. Some b in
    let n = get_or numbers i d in
    let at : slice_get directory n.number ≡ Some a =
    slice_get_read directory (length directory) n.number a refl there read in
    let pushed : map some (old ++ a ∷ []) ≡ map array_of (take i numbers) ++ Some a ∷ [] =
    map-append some old (a ∷ []) ∙ ap (λ (l : List (Option CellArray)). l ++ Some a ∷ []) h in
    let longer : map array_of (take (i + 1) numbers) ≡ map array_of
    (take i numbers) ++ slice_get directory n.number ∷ [] =
    ap (λ (l : List ArrayNo). map array_of l) (take_more numbers i d more)
    ∙ map-append array_of (take i numbers) (n ∷ []) in
    ap (λ (l : List CellArray). map some l) is ∙ pushed
    ∙ ap (λ (o : Option CellArray). map array_of (take i numbers) ++ o ∷ []) (sym at)
    ∙ sym longer

was_there : (f : ArrayNo → Option CellArray) (o : Option ArrayNo) (y : Option CellArray)
    → option_map f o ≡ Some y → (n : ArrayNo) × (f n ≡ y)
was_there f None y e = absurd (false≢true (ap (λ (x : Option (Option CellArray)). is_some x) e))
was_there f (Some n) y e = (n, ap (λ (x : Option (Option CellArray)). unwrap_or x (f n)) e)

-- each array of the numbers is one of the directory's
pub placed : (directory : List CellArray) (numbers : List ArrayNo) (arrays : List CellArray)
    → AreNumbered directory numbers arrays → (k : ℕ) (a : CellArray) → slice_get arrays k ≡ Some a
    → (m : ℕ) × (slice_get directory m ≡ Some a)
placed directory numbers arrays h k a at =
    let array_of : ArrayNo → Option CellArray = λ n. slice_get directory n.number in
    let some : CellArray → Option CellArray = λ b. Some b in
    let here : option_map array_of (slice_get numbers k) ≡ Some (Some a) =
    sym (slice_get-map array_of numbers k) ∙ ap (λ (l : List (Option CellArray)). slice_get l k)
    (sym h) ∙ slice_get-map some arrays k
    ∙ ap (λ (o : Option CellArray). option_map some o) at in
    let there = was_there array_of (slice_get numbers k) (Some a) here in
    (there.0.number, there.1)

-- ---- places

same : (w : CellWidth) → same_width w w ≡ true
same Bits32 = refl
same Bits64 = refl

own_cells : (a : CellArray) → cells_of a.width a ≡ a.length
own_cells a = ap (λ (b : Bool). if b then a.length else 0) (same a.width)

-- the cells of an array and of those before it are among the taken cells
whole : (directory : List CellArray) (m : ℕ) (a : CellArray) → slice_get directory m ≡ Some a
    → taken a.width (take m directory) + a.length ≤ taken a.width directory
whole directory m a at =
    let read : get_or directory m a ≡ a = get_or_from_slice_get directory m a a at in
    let sum = sum_by_more_le (cells_of a.width) directory m a (slice_get_within directory m a at) in
    let cells : cells_of a.width (get_or directory m a) ≡ a.length =
    ap (λ (b : CellArray). cells_of a.width b) read ∙ own_cells a in
    subst (λ (n : ℕ). taken a.width (take m directory) + n ≤ taken a.width directory) cells sum

take_of_take : {X : Type 0} (m n : ℕ) (xs : List X) → m ≤ n → take m (take n xs) ≡ take m xs
take_of_take zero n xs h = refl
take_of_take (suc m) zero xs h = absurd (omega (arith, h))
take_of_take (suc m) (suc n) [] h = refl
take_of_take (suc m) (suc n) (x ∷ xs) h = ap (λ l. x ∷ l) (take_of_take m n xs (omega (arith, h)))

get_of_take : {X : Type 0} (m n : ℕ) (xs : List X) → m < n
    → slice_get (take n xs) m ≡ slice_get xs m
get_of_take m zero xs h = absurd (omega (arith, h))
get_of_take m (suc n) [] h = refl
get_of_take zero (suc n) (x ∷ xs) h = refl
get_of_take (suc m) (suc n) (x ∷ xs) h = get_of_take m n xs (omega (arith, h))

-- the same before a later place
part : (directory : List CellArray) (m n : ℕ) (a : CellArray) → m < n
    → slice_get directory m ≡ Some a → taken a.width (take m directory) + a.length ≤ taken a.width
    (take n directory)
part directory m n a before at =
    let cells = whole (take n directory) m a (get_of_take m n directory before ∙ at) in
    subst (λ (l : List CellArray). taken a.width l + a.length ≤ taken a.width (take n directory))
    (take_of_take m n directory (omega (arith, before))) cells

-- an array of a directory is within the cells of its width
pub array_in : (directory : List CellArray) (m : ℕ) (a : CellArray) → IsDirectory directory
    → slice_get directory m ≡ Some a → IsArray a
array_in directory m a known at =
    let place = known.places m a at in
    let cells = whole directory m a at in
    let cells_fit = known.cells_fit a.width in
    let P : CellArray → Type 0 = λ b. HasRanges b.width b.length b.quota in
    record {
      ranges = all_at P directory m a known.ranges at;
      from = omega (arith, place);
      to =
          omega (arith, place, cells, cells_fit);
    }

either_side : (v w : CellWidth) (p n q k : ℕ) → first_cell v ≤ p → p + n ≤ first_cell v + 4096
    → first_cell w ≤ q → q + k ≤ first_cell w + 4096 → (v ≡ w → p + n ≤ q)
    → (p + n ≤ q) ⊎ (q + k ≤ p)
either_side Bits32 Bits32 p n q k a b c d h = inl (h refl)
either_side Bits64 Bits64 p n q k a b c d h = inl (h refl)
either_side Bits64 Bits32 p n q k a b c d h = inl (omega (arith, b, c))
either_side Bits32 Bits64 p n q k a b c d h = inr (omega (arith, a, d))

-- of two arrays of a directory, one is after the other
in_order : (directory : List CellArray) (m n : ℕ) (a b : CellArray) → IsDirectory directory → m < n
    → slice_get directory m ≡ Some a → slice_get directory n ≡ Some b
    → (a.base + a.length ≤ b.base) ⊎ (b.base + b.length ≤ a.base)
in_order directory m n a b known before at_m at_n =
    let first = array_in directory m a known at_m in
    let second = array_in directory n b known at_n in
    let behind : a.width ≡ b.width → a.base + a.length ≤ b.base = λ e.
    let cells = part directory m n a before at_m in
    let here : a.base ≡ next_cell a.width (take m directory) = known.places m a at_m in
    let there : b.base ≡ next_cell a.width (take n directory) = known.places n b at_n
    ∙ ap (λ (w : CellWidth). next_cell w (take n directory)) (sym e) in
    omega (arith, cells, here, there) in
    either_side a.width b.width a.base a.length b.base b.length first.from first.to second.from
    second.to behind

apart_of : (a b : CellArray) → (a.base + a.length ≤ b.base) ⊎ (b.base + b.length ≤ a.base)
    → SharesNoCell a b
apart_of a b (inl h) c p q = omega (arith, h, p.1, q.0)
apart_of a b (inr h) c p q = omega (arith, h, p.0, q.1)

shares_none : (a b : CellArray) → SharesNoCell a b → SharesNoCell b a
shares_none a b h c p q = h c q p

-- two arrays of a directory are equal, or share no cell
pub apart_in : (directory : List CellArray) (m n : ℕ) (a b : CellArray) → IsDirectory directory
    → slice_get directory m ≡ Some a → slice_get directory n ≡ Some b
    → (a ≡ b) ⊎ SharesNoCell a b
apart_in directory m n a b known at_m at_n = elim (cases_lt m n) [
  | inl before ↦ inr (apart_of a b (in_order directory m n a b known before at_m at_n))
  | inr after ↦ elim (cases_lt n m) [
    | inl before ↦ inr (shares_none b a (apart_of b a
        (in_order directory n m b a known before at_n at_m)))
    | inr within ↦
        let one : m ≡ n = omega (arith, after, within) in
        let found : Some a ≡ Some b = sym at_m ∙ ap (λ (i : ℕ). slice_get directory i) one ∙ at_n in
        inl (ap (λ (o : Option CellArray). unwrap_or o a) found)
  ]
]

-- what a shape keeps
pub shape_in : (releases : ℕ) (directory : List CellArray) (numbers : List ArrayNo)
    (arrays : List CellArray) → releases ≤ 64 → IsDirectory directory
    → AreNumbered directory numbers arrays → IsShape
    (record { releases = releases; arrays = arrays })
shape_in releases directory numbers arrays few known h = record {
  releases = few;
  arrays = λ k d within.
      let there = placed directory numbers arrays h k (get_or arrays k d)
      (slice_get-get_or arrays k d within) in
      array_in directory there.0 (get_or arrays k d) known there.1;
  apart = λ a b first second.
      let there = placed directory numbers arrays h first.0 a
      (slice_get-get_or arrays first.0 a first.1 ∙ ap (λ (x : CellArray). Some x) first.2) in
      let other = placed directory numbers arrays h second.0 b
      (slice_get-get_or arrays second.0 b second.1 ∙ ap (λ (x : CellArray). Some x) second.2) in
      apart_in directory there.0 other.0 a b known there.1 other.1;
}
