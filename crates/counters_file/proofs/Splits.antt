-- Lines, each ended by a line feed, are the lines of their text.
use Rattle.std.proofs.Common.{◌≡◌, ℕ, zero, suc, ◌+◌, ◌<◌, ◌≤◌, ◌^◌, Bool, false, List, []}
use Rattle.std.proofs.Common.{◌∷◌, ◌++◌, refl, sym, ap, subst, ◌∙◌, arith, rules, append_assoc}
use Rattle.std.proofs.Common.{Option, Some, None}
use Rattle.std.specs.Prelude.{All, ◌==◌, flat_map, map, slice_index, if◌then◌else◌}
use Rattle.std.specs.Fmt.{decimal}
use Rattle.std.specs.List.{range_with_len, slice_split}
use Rattle.std.proofs.lemmas.List.Elements.{All-nil, All-cons, All-head, All-tail, All-append}
use Rattle.std.proofs.lemmas.List.Splits.{slice_split_at}
use Rattle.cells.specs.declared.array.CellArray.{CellArray}
use Rattle.cells.specs.declared.array.CellWidth.{CellWidth}
use Rattle.cells.specs.declared.array.CellWidth.TheVariants.{Bits32, Bits64}
use Rattle.cells.specs.Arrays.{HasRanges}
use Rattle.cells.specs.Names.{IsName}
use Rattle.declarations.specs.Texts.{width_text}
use Rattle.counters_file.specs.Lines.{is_line_feed, array_word, quota_field, array_line}
use Rattle.counters_file.specs.Lines.{counter_line}
use Rattle.counters_file.specs.Text.{ended, lines_of_counter, lines_of_array}
use Rattle.counters_file.proofs.Names.{name_without}
use Rattle.counters_file.proofs.Numbers.{digits_without, is_other, not_line_feed}

-- a text without a line feed
abbrev pub IsLine : List ℕ → Type 0
IsLine line = All (λ (b : ℕ). is_line_feed b ≡ false) line

-- ---- the text

first_line : (line : List ℕ) (lines : List (List ℕ)) → IsLine line
    → slice_split is_line_feed (flat_map ended (line ∷ lines))
    ≡ line ∷ slice_split is_line_feed (flat_map ended lines)
first_line line lines is =
    ap (slice_split is_line_feed) (append_assoc line (10 ∷ []) (flat_map ended lines))
    ∙ slice_split_at is_line_feed line 10 (flat_map ended lines) is refl

pub lines_back : (lines : List (List ℕ)) → All IsLine lines
    → slice_split is_line_feed (flat_map ended lines) ≡ lines ++ [] ∷ []
lines_back [] are = refl
lines_back (line ∷ lines) are =
    first_line line lines (All-head IsLine line lines are)
    ∙ ap (λ (ls : List (List ℕ)). line ∷ ls)
    (lines_back lines (All-tail IsLine line lines are))

-- ---- the lines

abbrev P : ℕ → Type 0
P b = is_line_feed b ≡ false

-- one field after another
and_blank : (first rest : List ℕ) → IsLine first → IsLine rest → IsLine (first ++ 32 ∷ rest)
and_blank first rest a b = All-append P first (32 ∷ rest) a (All-cons P 32 rest refl b)

digits : (n : ℕ) → n < 2 ^ 64 → IsLine (decimal n)
digits n small = digits_without n 10 small not_line_feed

wide : (w : CellWidth) → IsLine (width_text w)
wide Bits32 = search rules
wide Bits64 = search rules

quota_is_line : (w : CellWidth) (n : ℕ) (q : Option ℕ) → HasRanges w n q
    → IsLine (quota_field q)
quota_is_line w n None ranges = All-nil P
quota_is_line w n (Some q) ranges =
    let small = (ranges.quota_is q refl).to in
    All-cons P 32 (decimal q) refl (digits q (omega (arith, small)))

array_is_line : (a : CellArray) → IsName a.name → HasRanges a.width a.length a.quota
    → IsLine (array_line a)
array_is_line a name ranges =
    let size = ranges.to in
    let last = decimal a.length ++ quota_field a.quota in
    and_blank array_word (a.name ++ 32 ∷ (width_text a.width ++ 32 ∷ last)) (search rules)
    (and_blank a.name (width_text a.width ++ 32 ∷ last) (name_without 10 refl a.name name)
    (and_blank (width_text a.width) last (wide a.width)
    (All-append P (decimal a.length) (quota_field a.quota)
    (digits a.length (omega (arith, size)))
    (quota_is_line a.width a.length a.quota ranges))))

abbrev pub AreNamed : List CellArray → Type 0
AreNamed arrays = All (λ (a : CellArray). IsName a.name) arrays

abbrev pub AreRanged : List CellArray → Type 0
AreRanged arrays = All (λ (a : CellArray). HasRanges a.width a.length a.quota) arrays

pub arrays_are_lines : (arrays : List CellArray) → AreNamed arrays → AreRanged arrays
    → All IsLine (map array_line arrays)
arrays_are_lines [] names ranges = All-nil IsLine
arrays_are_lines (a ∷ arrays) names ranges =
    let N : CellArray → Type 0 = λ (a : CellArray). IsName a.name in
    let R : CellArray → Type 0 = λ (a : CellArray). HasRanges a.width a.length a.quota in
    All-cons IsLine (array_line a) (map array_line arrays)
    (array_is_line a (All-head N a arrays names) (All-head R a arrays ranges))
    (arrays_are_lines arrays (All-tail N a arrays names) (All-tail R a arrays ranges))

not_zero : (v : ℕ) → (suc v == 0) ≡ false
not_zero v = is_other (suc v) 0 (λ e. omega (arith, e))

-- a counter that isn't 0 has one line
pub one_line : (a : CellArray) (i v : ℕ)
    → lines_of_counter a i (suc v) ≡ counter_line a i (suc v) ∷ []
one_line a i v =
    ap (λ (b : Bool). if b then [] else counter_line a i (suc v) ∷ []) (not_zero v)

counter_is_line : (a : CellArray) (i v : ℕ) → IsName a.name → i < 2 ^ 64 → v < 2 ^ 64
    → All IsLine (lines_of_counter a i v)
counter_is_line a i zero name low high = All-nil IsLine
counter_is_line a i (suc v) name low high =
    subst (λ (ls : List (List ℕ)). All IsLine ls) (sym (one_line a i v))
    (All-cons IsLine (counter_line a i (suc v)) []
    (and_blank a.name (decimal i ++ 32 ∷ decimal (suc v)) (name_without 10 refl a.name name)
    (and_blank (decimal i) (decimal (suc v)) (digits i low) (digits (suc v) high)))
    (All-nil IsLine))

module _ (values : List ℕ) (small : (c : ℕ) → slice_index values c < 2 ^ 64) where
  counters_of : (a : CellArray) → IsName a.name → (i n : ℕ) → i + n ≤ 4096
      → All IsLine (flat_map (λ index. lines_of_counter a index
      (slice_index values (a.base + index))) (range_with_len i n))
  counters_of a name i zero fits = All-nil IsLine
  counters_of a name i (suc n) fits =
      let f : ℕ → List (List ℕ) = λ index.
      lines_of_counter a index (slice_index values (a.base + index)) in
      All-append IsLine (f i) (flat_map f (range_with_len (i + 1) n))
      (counter_is_line a i (slice_index values (a.base + i)) name (omega (arith, fits))
      (small (a.base + i)))
      (counters_of a name (i + 1) n (omega (arith, fits)))

  pub counters_are_lines : (arrays : List CellArray) → AreNamed arrays → AreRanged arrays
      → All IsLine (flat_map (lines_of_array values) arrays)
  counters_are_lines [] names ranges = All-nil IsLine
  counters_are_lines (a ∷ arrays) names ranges =
      let N : CellArray → Type 0 = λ (a : CellArray). IsName a.name in
      let R : CellArray → Type 0 = λ (a : CellArray). HasRanges a.width a.length a.quota in
      let size = (All-head R a arrays ranges).to in
      All-append IsLine (lines_of_array values a) (flat_map (lines_of_array values) arrays)
      (counters_of a (All-head N a arrays names) 0 a.length (omega (arith, size)))
      (counters_are_lines arrays (All-tail N a arrays names) (All-tail R a arrays ranges))
