-- What is read is what was written.
use Rattle.std.proofs.Common.{◌≡◌, ℕ, suc, ◌+◌, ◌<◌, ◌≤◌, Bool, true, false, List, []}
use Rattle.std.proofs.Common.{◌∷◌, ◌++◌, length, refl, sym, ap, ◌∙◌, arith, rules, append_assoc}
use Rattle.std.proofs.Common.{Option, Some, Result, Ok, map, inl, inr}
use Rattle.std.specs.Prelude.{All, ◌&&◌, ◌||◌, nat_le, nat_lt, flat_map, if◌then◌else◌}
use Rattle.std.specs.Prelude.{slice_index, ◌⊎◌, replicate}
use Rattle.std.proofs.lemmas.Bool.{lt-ltb, le-leb, cases_lt, false≢true, true≢false}
use Rattle.std.proofs.lemmas.Bool.Decides.{nat_tests}
use Rattle.std.proofs.lemmas.List.{length-replicate, get_or_past}
use Rattle.std.proofs.lemmas.List.Elements.{All-nil, All-cons, All-append}
use Rattle.std.proofs.lemmas.List.Folds.{list_any_at}
use Rattle.std.proofs.lemmas.List.FromFn.{get_or-map-range_with_len, length-map-range_with_len}
use Rattle.cells.specs.declared.array.CellArray.{CellArray}
use Rattle.cells.specs.Apart.{ArraysLieApart}
use Rattle.cells.specs.Arrays.{HasCell}
use Rattle.counters_file.specs.Halts.{halted_line}
use Rattle.counters_file.specs.Lines.{Counters, counters, array_line}
use Rattle.counters_file.specs.Text.{Contents, ending, heading, state_line, state_of, counters_from}
use Rattle.counters_file.specs.Text.{contents_from, contents_of, after_state, with_counters}
use Rattle.counters_file.specs.Text.{file_lines}
use Rattle.counters_file.specs.Text.{is_counter, counted, AreCounters, ReadsBack, zeros}
use Rattle.counters_file.specs.Text.{lines_of_array, nothing, counter_lines}
use Rattle.counters_file.proofs.ArraysBack.{arrays_read, longer}
use Rattle.counters_file.proofs.CountersBack.{IsOf, all_read, small_value}
use Rattle.counters_file.proofs.Filling.{AreFilled, IsFilled}
use Rattle.counters_file.proofs.HaltsBack.{halted_are_lines, halted_read}
use Rattle.counters_file.proofs.Splits.{IsLine, lines_back, arrays_are_lines, counters_are_lines}
use Rattle.counters_file.proofs.Values.{are_zeros}

-- ---- the cells of arrays

abbrev has_cell : ℕ → CellArray → Bool
has_cell c a = nat_le a.base c && nat_lt c (a.base + a.length)

has : (a : CellArray) (c : ℕ) → HasCell a c → has_cell c a ≡ true
has a c h =
    ap (λ (b : Bool). b && nat_lt c (a.base + a.length)) (le-leb a.base c h.0)
    ∙ ap (λ (b : Bool). true && b) (lt-ltb c (a.base + a.length) h.1)

has_from : (a : CellArray) (c : ℕ) → has_cell c a ≡ true → HasCell a c
has_from a c h = grind (arith, nat_tests)

pub counter_from : (arrays : List CellArray) (c : ℕ) → IsOf arrays c → is_counter arrays c ≡ true
counter_from arrays c of =
    let a = of.0 in
    list_any_at (has_cell c) arrays of.1.0 a of.1.1 (ap (has_cell c) of.1.2 ∙ has a c of.2)

of_arrays : (arrays : List CellArray) (c : ℕ) → is_counter arrays c ≡ true → IsOf arrays c
of_arrays [] c h = absurd (false≢true h)
of_arrays (a ∷ arrays) c h = at (of_arrays arrays c) (has_cell c a) refl h
  where
    at : (is_counter arrays c ≡ true → IsOf arrays c) → (t : Bool) → has_cell c a ≡ t
        → (t || is_counter arrays c) ≡ true → IsOf (a ∷ arrays) c
    at others true own h = (a, (0, omega arith, refl), has_from a c own)
    at others false own h =
        let of = others h in
        let lt = of.1.1 in
        (of.0, (suc of.1.0, omega (arith, lt), of.1.2), of.2)

-- ---- what is kept

kept_at : (arrays : List CellArray) (values : List ℕ) (c : ℕ) → c < 8192
    → slice_index (counted arrays values) c
    ≡ (if is_counter arrays c then slice_index values c else 0)
unfolding counted
kept_at arrays values c low =
    get_or-map-range_with_len
    (λ cell. if is_counter arrays cell then slice_index values cell else 0) 0 8192 c c 0 low
    (omega arith)

pub count_kept : (arrays : List CellArray) (values : List ℕ)
    → length (counted arrays values) ≡ 8192
unfolding counted
count_kept arrays values =
    length-map-range_with_len
    (λ cell. if is_counter arrays cell then slice_index values cell else 0) 0 8192

pub kept_of : (arrays : List CellArray) (values : List ℕ) (c : ℕ) → c < 8192 → IsOf arrays c
    → slice_index (counted arrays values) c ≡ slice_index values c
kept_of arrays values c low of =
    kept_at arrays values c low
    ∙ ap (λ (b : Bool). if b then slice_index values c else 0) (counter_from arrays c of)

none_of : (arrays : List CellArray) (values : List ℕ) (c : ℕ) → is_counter arrays c ≡ false
    → slice_index (counted arrays values) c ≡ 0
none_of arrays values c none = at (cases_lt c 8192)
  where
    at : (c < 8192) ⊎ (8192 ≤ c) → slice_index (counted arrays values) c ≡ 0
    at (inl low) =
        kept_at arrays values c low
        ∙ ap (λ (b : Bool). if b then slice_index values c else 0) none
    at (inr high) =
        let size = count_kept arrays values in
        get_or_past (counted arrays values) c 0 (omega (arith, size, high))

-- before the first line of a counter
pub at_first : (arrays : List CellArray) (values : List ℕ)
    → AreFilled (counted arrays values) zeros (IsOf arrays)
unfolding zeros
at_first arrays values = record {
  count = length-replicate {A = ℕ} 8192 0;
  each = λ c. at c (is_counter arrays c) refl;
}
  where
    at : (c : ℕ) (t : Bool) → is_counter arrays c ≡ t
        → IsFilled (counted arrays values) (replicate 8192 0) (IsOf arrays) c
    at c true is = inr (are_zeros 8192 c, of_arrays arrays c is)
    at c false is = inl (
      are_zeros 8192 c ∙ sym (none_of arrays values c is),
      λ of. true≢false (sym (counter_from arrays c of) ∙ is),
    )

-- ---- the whole text

state_back : (was_stopped : Bool) → state_of (state_line was_stopped) ≡ Some was_stopped
state_back true = refl
state_back false = refl

state_is_line : (was_stopped : Bool) → IsLine (state_line was_stopped)
state_is_line true = search rules
state_is_line false = search rules

file_is_lines : (k : Contents) → AreCounters k.counters → All IsLine (file_lines k)
file_is_lines k h =
    let c = k.counters in
    let ranges = h.directory.ranges in
    let halted = map halted_line k.halted in
    let arrays = map array_line c.arrays in
    let lines = flat_map (lines_of_array c.values) c.arrays in
    let after = halted ++ (counter_lines c ++ ending ∷ []) in
    All-cons IsLine heading (state_line k.was_stopped ∷ after) (search rules)
    (All-cons IsLine (state_line k.was_stopped) after (state_is_line k.was_stopped)
    (All-append IsLine halted (counter_lines c ++ ending ∷ []) (halted_are_lines k.halted)
    (All-append IsLine (arrays ++ lines) (ending ∷ [])
    (All-append IsLine arrays lines (arrays_are_lines c.arrays h.names ranges)
    (counters_are_lines c.values (λ cell. small_value cell _ (h.cells.fit cell)) c.arrays h.names
    ranges))
    (All-cons IsLine ending [] (search rules) (All-nil IsLine)))))

counters_back : (c : Counters) → AreCounters c → ArraysLieApart → (number : ℕ)
    → counters_from number ((counter_lines c ++ ending ∷ []) ++ [] ∷ []) nothing
    ≡ Ok (record { arrays = c.arrays; values = counted c.arrays c.values })
counters_back c h lie number =
    let arrays = map array_line c.arrays in
    let lines = flat_map (lines_of_array c.values) c.arrays in
    let last = counted c.arrays c.values in
    ap (λ (ls : List (List ℕ)). counters_from number ls nothing)
    (append_assoc (arrays ++ lines) (ending ∷ []) ([] ∷ [])
    ∙ append_assoc arrays lines (ending ∷ [] ∷ []))
    ∙ arrays_read c.arrays h.names h.directory zeros (lines ++ ending ∷ [] ∷ [])
    (Ok (record { arrays = c.arrays; values = last }))
    (longer lines (ending ∷ [] ∷ []) (omega arith))
    (λ number. all_read c.arrays h.names h.directory lie c.values last h.cells h.counted
    (count_kept c.arrays c.values) (kept_of c.arrays c.values) c.arrays [] refl zeros
    (at_first c.arrays c.values) number)
    [] c.arrays refl number

-- the lines after those of halted apps name none
rest_back : (was_stopped : Bool) (halted : List (List ℕ)) (arrays : List CellArray)
    (values : List ℕ) (out : Result Counters ℕ)
    → ((number : ℕ) → counters_from number
    ((counter_lines (counters arrays values) ++ ending ∷ []) ++ [] ∷ []) nothing ≡ out)
    → (number : ℕ) → contents_from was_stopped number
    ((counter_lines (counters arrays values) ++ ending ∷ []) ++ [] ∷ []) halted
    ≡ with_counters was_stopped halted out
rest_back was_stopped halted [] values out read number =
    ap (with_counters was_stopped halted) (read number)
rest_back was_stopped halted (a ∷ arrays) values out read number =
    ap (with_counters was_stopped halted) (read number)

pub reads_back : ArraysLieApart → ReadsBack
reads_back lie k texts can h =
    let c = k.counters in
    let rest = counter_lines c ++ ending ∷ [] in
    let kept = Ok (record { arrays = c.arrays; values = counted c.arrays c.values }) in
    ap contents_of (lines_back (file_lines k) (file_is_lines k h))
    ∙ ap (λ (o : Option Bool). after_state o ((map halted_line k.halted ++ rest) ++ [] ∷ []))
    (state_back k.was_stopped)
    ∙ ap (λ (ls : List (List ℕ)). contents_from k.was_stopped 3 ls [])
    (append_assoc (map halted_line k.halted) rest ([] ∷ []))
    ∙ halted_read k.was_stopped (rest ++ [] ∷ []) (with_counters k.was_stopped k.halted kept)
    k.halted (rest_back k.was_stopped k.halted c.arrays c.values kept (counters_back c h lie))
    k.halted [] texts can refl 3
