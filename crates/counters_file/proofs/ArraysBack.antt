-- One line before others, and the lines of all arrays.
use Rattle.std.proofs.Common.{◌≡◌, ℕ, ◌+◌, ◌≤◌, Bool, false, List, [], ◌∷◌, ◌++◌, length, refl, sym}
use Rattle.std.proofs.Common.{ap, subst, ◌∙◌, arith, append-nil, append_assoc}
use Rattle.std.proofs.Common.{Option, Some, Result, Ok, map}
use Rattle.std.specs.Prelude.{if◌then◌else◌}
use Rattle.std.proofs.lemmas.List.{length-append}
use Rattle.cells.specs.declared.array.CellArray.{CellArray}
use Rattle.cells.specs.Directory.{IsDirectory}
use Rattle.counters_file.specs.Lines.{Counters, counters, array_line, with_line}
use Rattle.counters_file.specs.Text.{is_over, when_right, counters_from}
use Rattle.counters_file.proofs.LinesBack.{array_back}
use Rattle.counters_file.proofs.Placed.{placed}
use Rattle.counters_file.proofs.Splits.{AreNamed}

-- ---- one line before others

not_over : (line : List ℕ) (others : List (List ℕ)) → 2 ≤ length others
    → is_over line others ≡ false
not_over line [] long = absurd (omega (arith, long))
not_over line ([] ∷ []) long = absurd (omega (arith, long))
not_over line ([] ∷ other ∷ others) long = refl
not_over line ((b ∷ bs) ∷ others) long = refl

pub one_more : (line : List ℕ) (others : List (List ℕ)) (number : ℕ) (c next : Counters)
    (out : Result Counters ℕ) → 2 ≤ length others → with_line line c ≡ Some next
    → counters_from (number + 1) others next ≡ out → counters_from number (line ∷ others) c ≡ out
one_more line others number c next out long is rest =
    ap (λ (b : Bool). if b then Ok c
    else when_right (with_line line c) number (counters_from (number + 1) others))
    (not_over line others long)
    ∙ ap (λ (o : Option Counters). when_right o number (counters_from (number + 1) others)) is
    ∙ rest

pub longer : {X : Type 0} (first tail : List X) → 2 ≤ length tail → 2 ≤ length (first ++ tail)
longer first tail long =
    let size = length-append first tail in
    omega (arith, size, long)

-- ---- the arrays

pub arrays_read : (all : List CellArray) → AreNamed all → IsDirectory all → (values : List ℕ)
    (tail : List (List ℕ)) (out : Result Counters ℕ) → 2 ≤ length tail
    → ((number : ℕ) → counters_from number tail (counters all values) ≡ out)
    → (done rest : List CellArray) → all ≡ done ++ rest → (number : ℕ)
    → counters_from number (map array_line rest ++ tail) (counters done values) ≡ out
arrays_read all names known values tail out long next done [] is number =
    subst (λ (l : List CellArray). counters_from number tail (counters l values) ≡ out)
    (is ∙ append-nil done) (next number)
arrays_read all names known values tail out long next done (a ∷ rest) is number =
    let at = placed done a rest (subst AreNamed is names) (subst IsDirectory is known) in
    one_more (array_line a) (map array_line rest ++ tail) number (counters done values)
    (counters (done ++ a ∷ []) values) out (longer (map array_line rest) tail long)
    (array_back done a values at)
    (arrays_read all names known values tail out long next (done ++ a ∷ []) rest
    (is ∙ sym (append_assoc done (a ∷ []) rest)) (number + 1))
