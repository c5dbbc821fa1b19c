-- The lines of counters, one after another.
use Rattle.std.proofs.Common.{◌≡◌, ℕ, zero, suc, ◌+◌, ◌<◌, ◌≤◌, ◌^◌, Bool, true, false, List, []}
use Rattle.std.proofs.Common.{◌∷◌, ◌++◌, length, refl, sym, ap, subst, ◌∙◌, arith}
use Rattle.std.proofs.Common.{append_assoc, Result, Ok, get_or}
use Rattle.std.proofs.Common.{inl, inr}
use Rattle.std.specs.Prelude.{All, Contains, flat_map, nat_lt, if◌then◌else◌, slice_index}
use Rattle.std.specs.Prelude.{slice_set}
use Rattle.std.specs.List.{range_with_len}
use Rattle.std.proofs.Math.Seq.{get_or-append_seam}
use Rattle.std.proofs.lemmas.List.{length-append, get_or-append-add}
use Rattle.std.proofs.lemmas.List.Elements.{All-contains}
use Rattle.std.proofs.lemmas.Option.{slice_get_read}
use Rattle.cells.specs.declared.array.CellArray.{CellArray}
use Rattle.cells.specs.Apart.{ArraysLieApart}
use Rattle.cells.specs.Arrays.{HasCell}
use Rattle.cells.specs.Directory.{IsDirectory}
use Rattle.cells.specs.Events.{limit, AreCells}
use Rattle.counters_file.specs.Lines.{Counters, CanCount, can_count, counters, counter_line}
use Rattle.counters_file.specs.Text.{ending, counters_from}
use Rattle.counters_file.specs.Text.{lines_of_counter, lines_of_array}
use Rattle.counters_file.proofs.ArraysBack.{one_more, longer}
use Rattle.counters_file.proofs.Filling.{AreFilled, FromOn, same_to_come, all_filled, still_zero}
use Rattle.counters_file.proofs.Filling.{zero_passed, value_set}
use Rattle.counters_file.proofs.LinesBack.{counter_back}
use Rattle.counters_file.proofs.Placed.{IsPlaced, placed, at_seam, low_cell}
use Rattle.counters_file.proofs.Splits.{AreNamed, one_line}

-- ---- the counters of one array

-- the lines of n of its counters, from this one on
abbrev lines_from : (values : List ℕ) → CellArray → (i n : ℕ) → List (List ℕ)
lines_from values a i n =
    flat_map (λ index. lines_of_counter a index (slice_index values (a.base + index)))
    (range_with_len i n)

pub small_value : (c v : ℕ) → v < limit c → v < 2 ^ 64
small_value c v h = at (nat_lt c 4096) h
  where
    at : (b : Bool) → v < 2 ^ (if b then 64 else 32) → v < 2 ^ 64
    at true h = h
    at false h = omega (arith, h)

module _ (done : List CellArray) (a : CellArray) (rest : List CellArray) (at : IsPlaced done a)
    (values last : List ℕ) (cells : AreCells values) (can : CanCount values a) (later : ℕ → Type 0)
    (same : (c : ℕ) → HasCell a c → slice_index last c ≡ slice_index values c)
    (apart : (c : ℕ) → HasCell a c → later c → ⊥) (tail : List (List ℕ))
    (long : 2 ≤ length tail) (out : Result Counters ℕ)
    (next : (now : List ℕ) → AreFilled last now later → (number : ℕ)
    → counters_from number tail (counters (done ++ a ∷ rest) now) ≡ out) where
  counters_read : (n i : ℕ) → i + n ≡ a.length → (now : List ℕ)
      → AreFilled last now (FromOn (a.base + i) (a.base + a.length) later) → (number : ℕ)
      → counters_from number (lines_from values a i n ++ tail)
      (counters (done ++ a ∷ rest) now) ≡ out
  counters_read zero i sum now filled number =
      next now (same_to_come last now (FromOn (a.base + i) (a.base + a.length) later) later there
      (λ c l. inr l) filled) number
    where
      there : (c : ℕ) → FromOn (a.base + i) (a.base + a.length) later c → later c
      there c (inl h) =
          let from = h.0 in
          let to = h.1 in
          absurd (omega (arith, from, to, sum))
      there c (inr l) = l
  counters_read (suc n) i sum now filled number =
      by_value (counters_read n (i + 1) (omega (arith, sum))) (slice_index values (a.base + i)) refl
    where
      index : i < a.length
      index = omega (arith, sum)

      has : HasCell a (a.base + i)
      has = (omega arith, omega (arith, index))

      within : a.base + i < a.base + a.length
      within = omega (arith, index)

      after : a.base + (i + 1) ≡ a.base + i + 1
      after = omega arith

      by_value : ((new : List ℕ)
          → AreFilled last new (FromOn (a.base + (i + 1)) (a.base + a.length) later)
          → (number : ℕ) → counters_from number (lines_from values a (i + 1) n ++ tail)
          (counters (done ++ a ∷ rest) new) ≡ out)
          → (x : ℕ) → slice_index values (a.base + i) ≡ x
          → counters_from number ((lines_of_counter a i x ++ lines_from values a (i + 1) n) ++ tail)
          (counters (done ++ a ∷ rest) now) ≡ out
      by_value others zero is =
          others now
          (zero_passed last (a.base + i) (a.base + (i + 1)) (a.base + a.length) later after within
          (apart (a.base + i) has) now (same (a.base + i) has ∙ is) filled) number
      by_value others (suc x) is =
          let zero_now = still_zero last now (FromOn (a.base + i) (a.base + a.length) later)
          (a.base + i) (inl (omega arith, within)) filled in
          let fits : suc x < limit (a.base + i) =
          subst (λ (v : ℕ). v < limit (a.base + i)) is (cells.fit (a.base + i)) in
          let set = value_set last (a.base + i) (a.base + (i + 1)) (a.base + a.length) later after
          within (apart (a.base + i) has) now (low_cell done a at (a.base + i) has) filled in
          ap (λ (ls : List (List ℕ)). counters_from number
          ((ls ++ lines_from values a (i + 1) n) ++ tail) (counters (done ++ a ∷ rest) now))
          (one_line a i x)
          ∙ one_more (counter_line a i (suc x)) (lines_from values a (i + 1) n ++ tail) number
          (counters (done ++ a ∷ rest) now)
          (counters (done ++ a ∷ rest) (slice_set now (a.base + i) (suc x))) out
          (longer (lines_from values a (i + 1) n) tail long)
          (counter_back done a rest i (suc x) now at index (low_cell done a at (a.base + i) has)
          fits (small_value (a.base + i) (suc x) fits)
          (subst (λ (v : ℕ). can_count a.quota v ≡ true) is (can i index)) zero_now)
          (others (slice_set now (a.base + i) (suc x))
          (subst (λ (v : ℕ). AreFilled last (slice_set now (a.base + i) v)
          (FromOn (a.base + (i + 1)) (a.base + a.length) later)) (same (a.base + i) has ∙ is) set)
          (number + 1))

-- ---- the counters of all arrays

-- a cell of these arrays
abbrev pub IsOf : List CellArray → ℕ → Type 0
IsOf arrays c = (a : CellArray) × Contains arrays a × HasCell a c

module _ (done : List CellArray) (a : CellArray) (rest : List CellArray)
    (known : IsDirectory (done ++ a ∷ rest)) (lie : ArraysLieApart) where
  there_a : Contains (done ++ a ∷ rest) a
  there_a =
      let size = length-append done (a ∷ rest) in
      (length done, omega (arith, size), get_or-append_seam done a rest a)

  there_b : (b : CellArray) (k : ℕ) → k < length rest → get_or rest k b ≡ b
      → get_or (done ++ a ∷ rest) (length done + suc k) b ≡ b
  there_b b k lt is = get_or-append-add done (a ∷ rest) (suc k) b ∙ is

  rest_apart : (c : ℕ) → HasCell a c → IsOf rest c → ⊥
  rest_apart c has of =
      let b = of.0 in
      let k = of.1.0 in
      let lt = of.1.1 in
      let size = length-append done (a ∷ rest) in
      let within : length done + suc k < length (done ++ a ∷ rest) = omega (arith, size, lt) in
      let read = there_b b k lt of.1.2 in
      let equal = lie (done ++ a ∷ rest) a b c known there_a (length done + suc k, within, read) has
      of.2 in
      let at_b = slice_get_read (done ++ a ∷ rest) (length (done ++ a ∷ rest))
      (length done + suc k) b refl within (sym read) in
      let place = known.names (length done) (length done + suc k) a b (at_seam done a rest) at_b
      (ap (λ (x : CellArray). x.name) equal) in
      omega (arith, place)

  -- its own cells, and then those of the others
  first_or_rest : (c : ℕ) → IsOf (a ∷ rest) c
      → FromOn (a.base + 0) (a.base + a.length) (IsOf rest) c
  first_or_rest c (b, (zero, lt, is), has) =
      let own : HasCell a c = subst (λ (x : CellArray). HasCell x c) (sym is) has in
      let from = own.0 in
      inl (omega (arith, from), own.1)
  first_or_rest c (b, (suc k, lt, is), has) = inr (b, (k, omega (arith, lt), is), has)

  of_either : (c : ℕ) → FromOn (a.base + 0) (a.base + a.length) (IsOf rest) c
      → IsOf (a ∷ rest) c
  of_either c (inl h) =
      let from = h.0 in
      (a, (0, omega arith, refl), (omega (arith, from), h.1))
  of_either c (inr (b, (k, lt, is), has)) = (b, (suc k, omega (arith, lt), is), has)

module _ (all : List CellArray) (names : AreNamed all) (known : IsDirectory all)
    (lie : ArraysLieApart) (values last : List ℕ) (cells : AreCells values)
    (can : All (CanCount values) all) (count : length last ≡ 8192)
    (same : (c : ℕ) → c < 8192 → IsOf all c → slice_index last c ≡ slice_index values c) where
  pub all_read : (rest done : List CellArray) → all ≡ done ++ rest → (now : List ℕ)
      → AreFilled last now (IsOf rest) → (number : ℕ)
      → counters_from number (flat_map (lines_of_array values) rest ++ ending ∷ [] ∷ [])
      (counters all now) ≡ Ok (counters all last)
  all_read [] done is now filled number =
      ap (λ (v : List ℕ). Ok (counters all v))
      (all_filled last now (IsOf []) none count filled)
    where
      none : (c : ℕ) → IsOf [] c → ⊥
      none c of =
          let lt = of.1.1 in
          omega (arith, lt)
  all_read (a ∷ rest) done is now filled number =
      let lines = flat_map (lines_of_array values) rest in
      let tail = lines ++ ending ∷ [] ∷ [] in
      let at = placed done a rest (subst AreNamed is names) (subst IsDirectory is known) in
      let known_there = subst IsDirectory is known in
      ap (λ (ls : List (List ℕ)). counters_from number ls (counters all now))
      (append_assoc (lines_of_array values a) lines (ending ∷ [] ∷ []))
      ∙ subst (λ (l : List CellArray). counters_from number (lines_of_array values a ++ tail)
      (counters l now) ≡ Ok (counters all last)) (sym is)
      (counters_read done a rest at values last cells can_a (IsOf rest)
      (λ c has. same c (low_cell done a at c has) (of_all c has))
      (rest_apart done a rest known_there lie) tail (longer lines (ending ∷ [] ∷ []) (omega arith))
      (Ok (counters all last))
      (after_it (all_read rest (done ++ a ∷ []) (is ∙ sym (append_assoc done (a ∷ []) rest))))
      a.length 0 (omega arith) now
      (same_to_come last now (IsOf (a ∷ rest))
      (FromOn (a.base + 0) (a.base + a.length) (IsOf rest))
      (first_or_rest done a rest known_there lie) (of_either done a rest known_there lie) filled)
      number)
    where
      there : Contains all a
      there =
          subst (λ (l : List CellArray). Contains l a) (sym is)
          (there_a done a rest (subst IsDirectory is known) lie)

      can_a : CanCount values a
      can_a = All-contains (CanCount values) all a can there

      of_all : (c : ℕ) → HasCell a c → IsOf all c
      of_all c has = (a, there, has)

      after_it : ((now : List ℕ) → AreFilled last now (IsOf rest) → (number : ℕ)
          → counters_from number (flat_map (lines_of_array values) rest ++ ending ∷ [] ∷ [])
          (counters all now) ≡ Ok (counters all last))
          → (now : List ℕ) → AreFilled last now (IsOf rest) → (number : ℕ)
          → counters_from number (flat_map (lines_of_array values) rest ++ ending ∷ [] ∷ [])
          (counters (done ++ a ∷ rest) now) ≡ Ok (counters all last)
      after_it others now filled number =
          subst (λ (l : List CellArray). counters_from number
          (flat_map (lines_of_array values) rest ++ ending ∷ [] ∷ []) (counters l now)
          ≡ Ok (counters all last)) is (others now filled number)
