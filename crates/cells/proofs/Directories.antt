-- A directory stays one after a declaration.
use Rattle.std.proofs.Common.{◌≡◌, ◌≢◌, ℕ, zero, suc, ◌+◌, ◌≤◌, ◌⊎◌, inl, inr, List, [], ◌∷◌}
use Rattle.std.proofs.Common.{◌++◌, length, take, get_or, sym, ◌∙◌, ap, subst, arith, refl}
use Rattle.std.specs.Prelude.{Option, Some, slice_get, All, Contains, unwrap_or}
use Rattle.std.specs.Prelude.{if◌then◌else◌}
use Rattle.std.proofs.Math.Seq.{take-append_seam}
use Rattle.std.proofs.lemmas.List.{take-append-le}
use Rattle.std.proofs.lemmas.List.Elements.{All-append}
use Rattle.std.proofs.lemmas.List.Sums.{sum_by_push}
use Rattle.std.proofs.lemmas.Option.{slice_get_within, get_or_from_slice_get}
use Rattle.cells.specs.declared.array.CellWidth.{CellWidth}
use Rattle.cells.specs.declared.array.CellWidth.TheVariants.{Bits32, Bits64}
use Rattle.cells.specs.declared.array.CellArray.{CellArray}
use Rattle.cells.specs.Arrays.{HasRanges}
use Rattle.cells.specs.Directory.{same_width, cells_of, taken, IsDirectory, IsDirectoryState}
use Rattle.cells.specs.Directory.{Declaration}
use Rattle.cells.specs.Directory.{IsDeclaration, IsNew, IsNamed, HasValues, IsAsDeclared}
use Rattle.cells.specs.Directory.{next_array, next_cell, Declares, HasDistinctNames}
use Rattle.cells.specs.Directory.Declares.{again, anew}

-- a place of a list with one element more
pub pushed_place : {X : Type 0} (xs : List X) (y : X) (i : ℕ) (x : X)
    → slice_get (xs ++ y ∷ []) i ≡ Some x
    → (slice_get xs i ≡ Some x) ⊎ ((i ≡ length xs) × (y ≡ x))
pushed_place {X} [] y zero x e = inr (refl, ap (λ (o : Option X). unwrap_or o y) e)
pushed_place [] y (suc i) x e = inl e
pushed_place (z ∷ zs) y zero x e = inl e
pushed_place (z ∷ zs) y (suc i) x e = elim (pushed_place zs y i x e)
    [ inl h ↦ inl h | inr h ↦ inr (ap (λ n. suc n) h.0, h.1) ]

-- what is true of all elements is true of the one at a place
pub all_at : {X : Type 0} (P : X → Type 0) (xs : List X) (i : ℕ) (x : X) → All P xs
    → slice_get xs i ≡ Some x → P x
all_at P xs i x all e = subst P (get_or_from_slice_get xs i x x e)
    (all i x (slice_get_within xs i x e))

pub one_of : {X : Type 0} (P : X → Type 0) (x : X) → P x → All P (x ∷ [])
one_of P x p zero d h = p
one_of P x p (suc k) d h = absurd (omega (arith, h))

-- how many cells of a width are taken with the new array
pub taken_after : (w : CellWidth) (d : Declaration) (old : List CellArray)
    → taken w (old ++ next_array d old ∷ []) ≡ taken w old +
    (if same_width w d.width then d.length else 0)
taken_after w d old = sum_by_push (cells_of w) old (next_array d old)

fits : (w v : CellWidth) (t : CellWidth → ℕ) (n : ℕ) → t w ≤ 4096 → t v + n ≤ 4096
    → t w + (if same_width w v then n else 0) ≤ 4096
fits Bits32 Bits32 t n within cells_fit = cells_fit
fits Bits64 Bits64 t n within cells_fit = cells_fit
fits Bits32 Bits64 t n within cells_fit = omega arith
fits Bits64 Bits32 t n within cells_fit = omega arith

place_after : (d : Declaration) (old : List CellArray) → IsDirectory old → (i : ℕ) (a : CellArray)
    → slice_get (old ++ next_array d old ∷ []) i ≡ Some a
    → a.base ≡ next_cell a.width (take i (old ++ next_array d old ∷ []))
place_after d old known i a e = elim (pushed_place old (next_array d old) i a e) [
  | inl h ↦ known.places i a h ∙ ap (λ (l : List CellArray). next_cell a.width l)
      (sym (take-append-le i old (next_array d old ∷ [])
      (omega (arith, slice_get_within old i a h))))
  | inr h ↦ let P : CellArray → Type 0 = λ b. b.base ≡ next_cell b.width
      (take i (old ++ next_array d old ∷ [])) in
      let before : take i (old ++ next_array d old ∷ []) ≡ old =
      ap (λ (n : ℕ). take n (old ++ next_array d old ∷ [])) h.0
      ∙ take-append_seam old (next_array d old ∷ []) in
      subst P h.1 (ap (λ (l : List CellArray). next_cell d.width l) (sym before))
]

pub name_after : (d : Declaration) (old : List CellArray) → HasDistinctNames old → IsNew d old
    → (i j : ℕ) (a b : CellArray) → slice_get (old ++ next_array d old ∷ []) i ≡ Some a
    → slice_get (old ++ next_array d old ∷ []) j ≡ Some b → a.name ≡ b.name → i ≡ j
name_after d old known new i j a b at_i at_j same =
    let P : CellArray → Type 0 = λ x. x.name ≢ d.name in
    let name : (x : CellArray) → List ℕ = λ x. x.name in
    elim (pushed_place old (next_array d old) i a at_i) [
      | inl h ↦ elim (pushed_place old (next_array d old) j b at_j) [
        | inl k ↦ known i j a b h k same
        | inr k ↦ absurd (all_at P old i a new h (same ∙ sym (ap name k.1)))
      ]
      | inr h ↦ elim (pushed_place old (next_array d old) j b at_j) [
        | inl k ↦ absurd (all_at P old j b new k (sym same ∙ sym (ap name h.1)))
        | inr k ↦ h.0 ∙ sym k.0
      ]
    ]

pub added : (d : Declaration) (old : List CellArray) → IsDeclaration d → IsDirectory old
    → IsNew d old → taken d.width old + d.length ≤ 4096 → IsDirectory (old ++ next_array d old ∷ [])
added d old lawful known new cells_fit = record {
  names = name_after d old known.names new;
  places = place_after d old known;
  cells_fit = λ w. subst (λ (n : ℕ). n ≤ 4096) (sym (taken_after w d old))
      (fits w d.width (λ v. taken v old) d.length (known.cells_fit w) cells_fit);
  ranges = let P : CellArray → Type 0 = λ a. HasRanges a.width a.length a.quota in
      All-append P old (next_array d old ∷ []) known.ranges
      (one_of P (next_array d old) lawful.ranges);
}

-- the arrays with the declared one, whose first cell was computed
pub appended : (d : Declaration) (old new : List CellArray) (base : ℕ)
    → base ≡ next_cell d.width old → new ≡ old ++ record
    { name = d.name; width = d.width; base = base; length = d.length; quota = d.quota } ∷ []
    → new ≡ old ++ next_array d old ∷ []
appended d old new base e h = h ∙ ap (λ (b : ℕ). old ++ record
    { name = d.name; width = d.width; base = b; length = d.length; quota = d.quota } ∷ []) e

-- how many cells are taken, with those of the new array
abbrev pub more : CellWidth → Declaration → ℕ → ℕ
more w d n = n + (if same_width w d.width then d.length else 0)

pub kept : (d : Declaration) (old : List CellArray) (t u : ℕ) → IsDeclaration d
    → IsDirectoryState old t u
    → IsNew d old → taken d.width old + d.length ≤ 4096
    → IsDirectoryState (old ++ next_array d old ∷ []) (more Bits64 d t) (more Bits32 d u)
kept d old t u lawful k new cells_fit = record {
  directory = added d old lawful k.directory new cells_fit;
  wide = ap (more Bits64 d) k.wide ∙ sym (taken_after Bits64 d old);
  narrow = ap (more Bits32 d) k.narrow ∙ sym (taken_after Bits32 d old);
}

moved : (old : List CellArray) (d : Declaration) (new : List CellArray) (t v u w : ℕ)
    → new ≡ old ++ next_array d old ∷ [] → t ≡ v → u ≡ w
    → IsDirectoryState (old ++ next_array d old ∷ []) t u → IsDirectoryState new v w
moved old d new t v u w is e f k =
    let first : IsDirectoryState new t u = subst (λ (l : List CellArray). IsDirectoryState l t u)
    (sym is) k in
    let second : IsDirectoryState new v u = subst (λ (n : ℕ). IsDirectoryState new n u) e first in
    subst (λ (n : ℕ). IsDirectoryState new v n) f second

-- as above, for an array of each width
pub kept_wide : (d : Declaration) (old new : List CellArray) (t u : ℕ) → IsDeclaration d
    → IsDirectoryState old t u → IsNew d old → taken d.width old + d.length ≤ 4096
    → new ≡ old ++ next_array d old ∷ [] → d.width ≡ Bits64 → IsDirectoryState new (t + d.length) u
kept_wide d old new t u lawful k fresh cells_fit is wide =
    let all = kept d old t u lawful k fresh cells_fit in
    let wider : more Bits64 d t ≡ t + d.length =
    ap (λ (w : CellWidth). t + (if same_width Bits64 w then d.length else 0)) wide in
    let narrower : more Bits32 d u ≡ u = ap (λ (w : CellWidth). u +
    (if same_width Bits32 w then d.length else 0)) wide ∙ omega arith in
    moved old d new (more Bits64 d t) (t + d.length) (more Bits32 d u) u is wider narrower all

pub kept_narrow : (d : Declaration) (old new : List CellArray) (t u : ℕ) → IsDeclaration d
    → IsDirectoryState old t u → IsNew d old → taken d.width old + d.length ≤ 4096
    → new ≡ old ++ next_array d old ∷ [] → d.width ≡ Bits32 → IsDirectoryState new t (u + d.length)
kept_narrow d old new t u lawful k fresh cells_fit is narrow =
    let all = kept d old t u lawful k fresh cells_fit in
    let wider : more Bits64 d t ≡ t = ap (λ (w : CellWidth). t +
    (if same_width Bits64 w then d.length else 0)) narrow ∙ omega arith in
    let narrower : more Bits32 d u ≡ u + d.length =
    ap (λ (w : CellWidth). u + (if same_width Bits32 w then d.length else 0)) narrow in
    moved old d new (more Bits64 d t) t (more Bits32 d u) (u + d.length) is wider narrower all

-- a new array is declared by its place at the end
pub declared : (d : Declaration) (old new : List CellArray) (n : ℕ) → n ≡ length old → IsNew d old
    → taken d.width old + d.length ≤ 4096 → new ≡ old ++ next_array d old ∷ []
    → Declares d old n new
declared d old new n last fresh cells_fit is =
    let there : Declares d old n (old ++ next_array d old ∷ []) =
    subst (λ (i : ℕ). Declares d old i (old ++ next_array d old ∷ [])) (sym last)
    (anew fresh cells_fit) in
    subst (λ (l : List CellArray). Declares d old n l) (sym is) there

abbrev pub IsSame : Declaration → CellArray → Type 0
IsSame d a = HasValues a d.width d.length d.quota

-- the array at the place of this name is that array
read_is : (d : Declaration) (old : List CellArray) (n : ℕ) (a : CellArray)
    (there : IsNamed old d.name n) → a ≡ get_or old n a → there.0 ≡ a
read_is d old n a there read = sym (get_or_from_slice_get old n there.0 a there.1) ∙ sym read

-- an array that exists is declared again, or refused
pub stands_again : (d : Declaration) (old : List CellArray) (n : ℕ) (a : CellArray)
    → IsNamed old d.name n → a ≡ get_or old n a → IsSame d a → Declares d old n old
stands_again d old n a there read same =
    let b = there.0 in
    let back : b ≡ a = read_is d old n a there read in
    let same_there : IsSame d b = subst (IsSame d) (sym back) same in
    again there.1 (record {
      name = there.2;
      width = same_there.0;
      length = same_there.1;
      quota =
          same_there.2;
    })

pub stands_otherwise : (d : Declaration) (old : List CellArray) (n : ℕ) (a : CellArray)
    → IsNamed old d.name n → a ≡ get_or old n a → ¬ IsSame d a
    → (b : CellArray) × Contains old b × (b.name ≡ d.name) × ¬ IsAsDeclared d b
stands_otherwise d old n a there read other =
    let b = there.0 in
    let back : b ≡ a = read_is d old n a there read in
    let contained : Contains old b = (
      n,
      slice_get_within old n b there.1,
      get_or_from_slice_get
          old n b b there.1,
    ) in
    (b, contained, there.2, λ is. other (subst (IsSame d) back (is.width, is.length, is.quota)))
